-- The records of results (01, "Extraction"; 02, E7): a border's, of its exchange, its last round and the row that stopped it; and a row's, of its state, its RAM and its margin left.
use Rattle.std.specs.Prelude.{◌≡◌, cond, List, [], ◌∷◌, ℕ, ◌/◌, ◌^◌, ◌<◌, eqb, ℤ, pos, None, Option, Some}
use Rattle.numbers.specs.Ints.{minus}

-- ATC = kW value floored to whole MW
abbrev pub in_mw : (kw : ℕ) → ℕ
in_mw kw = kw / 1000

-- a border's record: ATC in MW, by its exchange in kW; last round; stopping row, or -1 where there is none
abbrev pub row_or_dash : Option ℕ → ℤ
row_or_dash None = minus 1
row_or_dash (Some i) = pos i

abbrev pub border_left : (kw last : ℕ) → (stop : Option ℕ) → List ℤ
border_left kw last stop = pos (in_mw kw) ∷ pos last ∷ row_or_dash stop ∷ []

-- a row's record: state, RAM in grains, margin left in grains or -1 where the state is not 0
abbrev pub left_of_margin : (state margin : ℕ) → ℤ
left_of_margin state margin = cond (eqb state 0) (pos margin) (minus 1)

abbrev pub left_of_row : (state : ℕ) → (ram : ℤ) → (margin : ℕ) → List ℤ
left_of_row state ram margin = pos state ∷ ram ∷ left_of_margin state margin ∷ []

-- a stopping row that fits an i64
abbrev pub StopFits : Option ℕ → Type 0
StopFits stop = (i : ℕ) → Some i ≡ stop → i < 2 ^ 63
