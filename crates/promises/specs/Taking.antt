-- Which rows take part in an extraction (01; 02, E14): state 0 alone, or states 0 and 2; and the outcome of a table with either, in its own profile and with any marks.
use Rattle.std.specs.Prelude.{Bool, ◌||◌, List, ℕ, eqb}
use Rattle.numbers.specs.Below.{at}
use Rattle.refusals.specs.Refusals.{Judged}
use Rattle.marks.specs.Marks.{judge_asked, may_rise}
use Rattle.tablerules.specs.Table.{Table}
use Rattle.staterules.specs.Standings.{standings_of}
use Rattle.setup.specs.Setup.{grid_by, begin_by, judge_by}
use Rattle.extractrules.specs.Start.{table_grid, setup_of}
use Rattle.extractrules.specs.Filled.{cells}
use Rattle.extractrules.specs.Extraction.{Result, result_by}

unfoldable pub result_in : (takes : (states : List ℕ) → (i : ℕ) → Bool) → (marked : ℕ → Bool) → Table → Result
result_in takes marked t =
    let s = setup_of takes marked t in
    result_by t.header (standings_of t) (cells (table_grid t)) (grid_by s) (begin_by s)

-- 5, 6, 7, and then the rounds
unfoldable pub outcome_in : (takes : (states : List ℕ) → (i : ℕ) → Bool) → (marked : ℕ → Bool) → Table → Judged Result
outcome_in takes marked t = judge_by (setup_of takes marked t) (result_in takes marked t)

-- the outcome as it was asked for, with a list of marks or for every border: 13 is judged first. With the rows of state 0 it is the calls' own outcome (`taking-kept`)
unfoldable pub outcome_taking : (takes : (states : List ℕ) → (i : ℕ) → Bool) → (all : Bool) → (marks : List ℕ) → Table → Judged Result
outcome_taking takes all marks t = judge_asked all t.header.borders marks (outcome_in takes (may_rise all marks) t)

-- states 0 and 2: the rows of the list before it is shortened (02, E14)
abbrev pub zero_or_two : (state : ℕ) → Bool
zero_or_two state = eqb state 0 || eqb state 2

unfoldable pub unshortened : (states : List ℕ) → (i : ℕ) → Bool
unshortened states i = zero_or_two (at states i)
