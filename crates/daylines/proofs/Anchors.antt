-- Labelled lines, a day of three hours, and labels, computed. Nobody cites it: it refuses a definition that slipped.
use Rattle.std.specs.Prelude.{None, Some}
use mathlib.Core.Path.{◌≡◌, refl}
use mathlib.Core.Bool.{true}
use mathlib.Core.List.{List, [], ◌∷◌}
use Prim.Native.Char.{code}
use Rattle.numbers.specs.Computed.{◌is◌, Hold}
use Rattle.text.specs.Shown.{shown}
use Rattle.daylines.specs.Labelled.{heading, labelled_from, labelled, lines_begun, filed}
use Rattle.daylines.specs.Label.{past_last, without_ending, label_of}
use Rattle.daylines.specs.Day.{Hour, day_text, day_lines}

-- h1's answer, h2, which cannot be read, and h12, whose label begins as h1's does
abbrev hours : List Hour
hours =
    record { label = shown "h1"; came = Some (shown "A 0 7 1 0/R 1/") }
    ∷ record { label = shown "h2"; came = None }
    ∷ record { label = shown "h12"; came = Some (shown "E 2 1 8/") }
    ∷ []

pub anchors : Hold (
    labelled (shown "h06") (shown "A 0 3233 21 0/R 27/") is shown "h06 A 0 3233 21 0/h06 R 27/"
    ∷ labelled (shown "h06") [] is []
    ∷ lines_begun true (shown "A 0 3233 21 0/R 27/") is 2
    ∷ day_text (λ text. text) hours is shown "h1 A 0 7 1 0/h1 R 1/h2 X/h12 E 2 1 8/"
    ∷ day_lines (λ text. text) hours is (shown "h1 A 0 7 1 0/" ∷ shown "h1 R 1/" ∷ shown "h2 X/" ∷ shown "h12 E 2 1 8/" ∷ [])
    ∷ filed (shown "h1") (shown "h1 A 0 7 1 0/h1 R 1/h2 X/h12 E 2 1 8/") is shown "A 0 7 1 0/R 1/"
    ∷ filed (shown "h12") (shown "h1 A 0 7 1 0/h1 R 1/h2 X/h12 E 2 1 8/") is shown "E 2 1 8/"
    ∷ filed (shown "h") (shown "h1 A 0 7 1 0/h1 R 1/h2 X/h12 E 2 1 8/") is []
    ∷ []
    )
unfolding labelled_from heading lines_begun
anchors = refl
