-- 02, E14: does shortening the list cost capacity? The statements, of the calls' own outcome, of every border or with marks; each table is of its own profile. They are
-- proved in crate theorems (proofs/Shortening).
use Rattle.std.specs.Prelude.{◌≡◌, Bool, List, ℕ, Ok}
use Rattle.tablerules.specs.Table.{Table}
use Rattle.tablerules.specs.Good.{Good}
use Rattle.extractrules.specs.Extraction.{Result, outcome_for}
use Rattle.promises.specs.Taking.{outcome_taking, unshortened}
use Rattle.promises.specs.Same.{SameResult, Both}
use Rattle.promises.specs.Order.{Reordered}

-- The extraction over all rows of states 0 and 2 gives the same ATCs, rounds and refusal number as over state 0 alone (the place of refusal 7 may differ),
-- in both profiles and with marks.
abbrev pub CostsNothing : Type 0
CostsNothing = (t : Table) → Good t → (all : Bool) (marks : List ℕ) → Both (SameResult t.header.borders) (outcome_for all marks t) (outcome_taking unshortened all marks t)

-- Any order of the rows, numbered again, gives the same ATCs and rounds; and where the table is refused, the same number.
abbrev pub AnyOrder : Type 0
AnyOrder = (t t' : Table) → Good t → Reordered t t' → (all : Bool) (marks : List ℕ) → Both (SameResult t.header.borders) (outcome_for all marks t) (outcome_for all marks t')

-- So, for an accepted table of either profile, any order of its rows is accepted, with the same ATCs and rounds.
pub record AcceptedToo (all : Bool) (marks : List ℕ) (t t' : Table) (r : Result) : Type 0 where
  pub result : Result
  pub accepted : outcome_for all marks t' ≡ Ok result
  pub same : SameResult t.header.borders r result

abbrev pub AcceptedInAnyOrder : Type 0
AcceptedInAnyOrder = (t t' : Table) (r : Result) → Good t → Reordered t t' → (all : Bool) (marks : List ℕ) → outcome_for all marks t ≡ Ok r → AcceptedToo all marks t t' r
