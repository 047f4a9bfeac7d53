-- Labels, judged. Nobody cites it: it refuses a definition that slipped.
use Rattle.std.specs.Prelude.{None}
use mathlib.Core.Path.{refl}
use mathlib.Core.Bool.{true, false}
use mathlib.Core.List.{List, [], ◌∷◌, ◌++◌}
use Prim.Native.Nat.{ℕ}
use Rattle.numbers.specs.Computed.{◌is◌, Hold}
use Rattle.text.specs.Shown.{shown}
use Rattle.arguments.specs.Same.{same_bytes}
use Rattle.daylines.specs.Label.{past_last, without_ending, label_of}
use Rattle.daylines.specs.Day.{Hour}
use Rattle.labels.specs.Labels.{label_byte, label_bytes, label_text, is_label, name_good, labels_good, labels_apart}

abbrev hour : List ℕ → Hour
hour label = record { label = label; came = None }

pub anchors : Hold (
    is_label false (shown "h06") is true
    ∷ is_label false [] is false
    ∷ is_label false (9 ∷ []) is false
    ∷ is_label false (32 ∷ 126 ∷ 128 ∷ []) is true
    ∷ is_label false (127 ∷ []) is false
    ∷ is_label false (shown "a;b") is true
    ∷ is_label true (shown "a;b") is false
    ∷ is_label true (34 ∷ []) is false
    ∷ name_good false (shown "-") is false
    ∷ name_good false (shown "day" ++ (47 ∷ shown "h06.tsv")) is true
    ∷ name_good false (shown "day" ++ (47 ∷ [])) is false
    ∷ labels_apart (hour (shown "h1") ∷ hour (shown "h12") ∷ hour (shown "h2") ∷ []) is true
    ∷ labels_apart (hour (shown "h1") ∷ hour (shown "h12") ∷ hour (shown "h1") ∷ []) is false
    ∷ labels_good true (hour (shown "h1") ∷ hour (shown "h;2") ∷ []) is false
    ∷ []
    )
unfolding same_bytes past_last without_ending label_of label_byte label_bytes label_text
anchors = refl
