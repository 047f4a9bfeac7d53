-- Tests, computed where two fields are in conflict: the later fails (02, E5). Nobody cites it: it refuses a definition that slipped.
use mathlib.Core.Path.{refl}
use mathlib.Core.Bool.{true, false}
use mathlib.Core.List.{[], ◌∷◌}
use lib.IntN.{pos}
use Rattle.numbers.specs.Ints.{minus, inside, same_ℤ}
use Rattle.numbers.specs.Computed.{◌is◌, Hold}
use Rattle.types.specs.Ranges.{exists, border_tests, row_tests}

pub later : Hold (
    -- a border from a zone to itself: to, and not from
    border_tests 3 (pos 1 ∷ pos 1 ∷ pos 0 ∷ minus 1 ∷ minus 1 ∷ []) is (true ∷ false ∷ true ∷ true ∷ true ∷ [])  -- same-zones
    -- a border with equal hubs: the receiving one fails
    ∷ border_tests 3 (pos 0 ∷ pos 1 ∷ pos 0 ∷ pos 2 ∷ pos 2 ∷ []) is (true ∷ true ∷ true ∷ true ∷ false ∷ [])  -- same-hubs
    -- a border with one hub: the other fails
    ∷ border_tests 3 (pos 0 ∷ pos 1 ∷ pos 0 ∷ pos 2 ∷ minus 1 ∷ []) is (true ∷ true ∷ true ∷ true ∷ false ∷ [])  -- one-hub
    -- a row whose FRM is above its Fmax: FRM, and not Fmax
    ∷ row_tests (pos 9 ∷ pos 10 ∷ pos 0 ∷ pos 0 ∷ minus 1 ∷ pos 0 ∷ pos 0 ∷ []) is (true ∷ false ∷ true ∷ true ∷ true ∷ true ∷ true ∷ [])  -- frm-high
    ∷ [])
unfolding exists inside same_ℤ
later = refl
