-- What some numbers mean (specs/Meanings.antt), computed: no proof stands behind it, so it refuses a definition that slipped.
use Rattle.std.specs.Prelude.{Err}
use mathlib.Core.Path.{refl}
use mathlib.Core.List.{[], ◌∷◌}
use lib.ListN.{length}
use Rattle.numbers.specs.Computed.{◌is◌, Hold}
use Rattle.refusals.specs.Refusals.{then, either, need, too_short}
use Rattle.text.specs.Left.{text_left}
use Rattle.meanings.specs.Meanings.{bytes_of, meaning_of, meaning_left}

-- the words of the first, of one between and of the last number, of the first that no refusal has, and of a very large one; room that is one byte short
pub word_anchors : Hold (
    meaning_of 0 is bytes_of "no refusal"
    ∷ meaning_of 7 is bytes_of "row # has a starting margin (RAM - S) below 0: look at its CVA and IVA"
    ∷ meaning_of 14 is bytes_of "no such border: the table has # borders, from 0 on"
    ∷ meaning_of 15 is bytes_of "no refusal has this number"
    ∷ meaning_of 18446744073709551615 is bytes_of "no refusal has this number"
    ∷ meaning_left 0 (1 ∷ 2 ∷ 3 ∷ 4 ∷ 5 ∷ 6 ∷ 7 ∷ 8 ∷ 9 ∷ []) is record { answer = Err (too_short 10); out = 1 ∷ 2 ∷ 3 ∷ 4 ∷ 5 ∷ 6 ∷ 7 ∷ 8 ∷ 9 ∷ [] }
    ∷ length (meaning_of 11) is 215
    ∷ [])
unfolding meaning_of meaning_left text_left then either need
word_anchors = refl
