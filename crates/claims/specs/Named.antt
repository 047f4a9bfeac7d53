-- What the code keeps of a list of claims while it judges them one by one: a flag for each row that a table can have, whether a claim names it.
-- A list of any length is judged so, lent as records or as text; that flags say what the list says is proved (`proofs/NameLaws.antt`).
use Rattle.std.specs.Prelude.{Bool, true, false, cond, ◌&&◌, List, ℕ, ℤ, pos, nat_abs, length, get_or, set, Ok}
use Rattle.numbers.specs.Below.{table}
use Rattle.limits.specs.Limits.{rows_most}
use Rattle.refusals.specs.Refusals.{Judged, unless, malformed_claim, not_borne_out}
use Rattle.types.specs.Ranges.{exists}
use Rattle.staterules.specs.Standings.{Standings}
use Rattle.claimrules.specs.Claims.{claimed_in, formed_by, borne_out}

-- the rows that the first n claims name
unfoldable pub named_rows : (claims : List (List ℤ)) → (n : ℕ) → List Bool
named_rows claims n = table rows_most (λ i. claimed_in claims n (pos i))

-- no row is named
abbrev pub none_named : List Bool
none_named = table rows_most (λ i. false)

-- whether a row's flag is set
unfoldable pub flagged : (flags : List Bool) → (row : ℤ) → Bool
flagged flags row = exists (length flags) row && get_or flags (nat_abs row) false

-- flags one row more; a row that no table has needs no flag
unfoldable pub name_row : (row : ℤ) → (flags : List Bool) → List Bool
name_row row flags = cond (exists (length flags) row) (set flags (nat_abs row) true) flags

-- what claim k comes to: form before truth
unfoldable pub judge_claim : (zones : ℕ) → (factors : List ℤ) → Standings → (named before : ℤ → Bool) → (claim : List ℤ) → (k : ℕ) → Judged Standings
judge_claim zones factors m named before claim k =
    unless (formed_by m.states named before claim) (malformed_claim k)
    (unless (borne_out zones factors m.rams claim) (not_borne_out k)
    (Ok m))
