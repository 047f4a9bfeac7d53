-- The table of refusals (01, "When the table is turned away"; 9 to 14 from 02), computed: number, place and byte of each, at two values where it has a place.
use mathlib.Core.Path.{refl}
use mathlib.Core.List.{List, [], ◌∷◌}
use Prim.Native.Nat.{ℕ}
use Rattle.numbers.specs.Computed.{◌is◌, Hold}
use Rattle.refusals.specs.declared.Refusal.{Refusal}
use Rattle.refusals.specs.declared.Refusal.TheVariants.{NoBorder}
use Rattle.refusals.specs.Refusals.{number_of, place_of, byte_of, too_long, wrong_form_at, out_of_range_at, given_twice, no_row, unlimited, below_zero, too_short, no_corners, wrong_correction, malformed_claim, not_borne_out, bad_mark}

abbrev told : Refusal → List ℕ
told w = number_of w ∷ place_of w ∷ byte_of w ∷ []

pub table_of_refusals : Hold (
    told too_long is (1 ∷ 0 ∷ 0 ∷ [])
    ∷ told (wrong_form_at 3 5) is (2 ∷ 3 ∷ 5 ∷ [])
    ∷ told (wrong_form_at 268 0) is (2 ∷ 268 ∷ 0 ∷ [])
    ∷ told (out_of_range_at 3 5) is (3 ∷ 3 ∷ 5 ∷ [])
    ∷ told (out_of_range_at 268 0) is (3 ∷ 268 ∷ 0 ∷ [])
    ∷ told (given_twice 3) is (4 ∷ 3 ∷ 0 ∷ [])
    ∷ told (given_twice 0) is (4 ∷ 0 ∷ 0 ∷ [])
    ∷ told no_row is (5 ∷ 0 ∷ 0 ∷ [])
    ∷ told (unlimited 3) is (6 ∷ 3 ∷ 0 ∷ [])
    ∷ told (unlimited 0) is (6 ∷ 0 ∷ 0 ∷ [])
    ∷ told (below_zero 3) is (7 ∷ 3 ∷ 0 ∷ [])
    ∷ told (below_zero 199) is (7 ∷ 199 ∷ 0 ∷ [])
    ∷ told (too_short 3) is (8 ∷ 3 ∷ 0 ∷ [])
    ∷ told (too_short 22790) is (8 ∷ 22790 ∷ 0 ∷ [])
    ∷ told (no_corners 3) is (9 ∷ 3 ∷ 0 ∷ [])
    ∷ told (no_corners 64) is (9 ∷ 64 ∷ 0 ∷ [])
    ∷ told (wrong_correction 3 5) is (10 ∷ 3 ∷ 5 ∷ [])
    ∷ told (wrong_correction 200 0) is (10 ∷ 200 ∷ 0 ∷ [])
    ∷ told (malformed_claim 3) is (11 ∷ 3 ∷ 0 ∷ [])
    ∷ told (malformed_claim 0) is (11 ∷ 0 ∷ 0 ∷ [])
    ∷ told (not_borne_out 3) is (12 ∷ 3 ∷ 0 ∷ [])
    ∷ told (not_borne_out 0) is (12 ∷ 0 ∷ 0 ∷ [])
    ∷ told (bad_mark 3) is (13 ∷ 3 ∷ 0 ∷ [])
    ∷ told (bad_mark 0) is (13 ∷ 0 ∷ 0 ∷ [])
    ∷ told (NoBorder 3) is (14 ∷ 3 ∷ 0 ∷ [])
    ∷ told (NoBorder 64) is (14 ∷ 64 ∷ 0 ∷ [])
    ∷ [])
table_of_refusals = refl
