-- The byte to blame where a line has right form and a value outside its range (02, E5): the first byte of the first such field from the left, and of two in
-- conflict the later. `range_byte` is what contracts cite, of the tests that are the line's range (crate types: specs/Ranges), so that a line out of range
-- has its byte (`RangeLaws.antt`).
use Rattle.std.specs.Prelude.{Bool, cond, List, [], ◌∷◌, ℕ, zero, suc, ◌+◌, eqb}

-- how many bytes of s stand before what follows its k-th `sep`
unfoldable pub past_seps : (sep k : ℕ) → (s : List ℕ) → ℕ
past_seps sep zero s = 0
past_seps sep (suc k) [] = 0
past_seps sep (suc k) (b ∷ s) = suc (cond (eqb b sep) (past_seps sep k s) (past_seps sep (suc k) s))

-- the first byte of the field that follows a line's k-th `sep`
abbrev pub field_first : (sep k : ℕ) → (line : List ℕ) → ℕ
field_first sep k line = past_seps sep k line + 1

-- a test for each field; the first field follows the line's k-th `sep`. The first byte of the first field that fails its test, and 0 where all pass
unfoldable pub range_byte : (sep : ℕ) → (tests : List Bool) → (k : ℕ) → (line : List ℕ) → ℕ
range_byte sep [] k line = 0
range_byte sep (t ∷ ts) k line = cond t (range_byte sep ts (suc k) line) (field_first sep k line)
