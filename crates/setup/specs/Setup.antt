-- What an extraction is of, without its table: which rows take part, which borders may rise, the factors p, each row's margin and each border's exchange at the start.
-- The grid, the start, refusals 5, 6, 7 and where the rounds end are said here once, for any choice of rows and borders and for margins of any kind. How a table becomes one is crate extractrules'.
use Rattle.std.specs.Prelude.{Bool, cond, not, ◌&&◌, ℕ, ltb, ℤ, pos, Ok}
use Rattle.std.specs.Int.Signed.{lt_z}
use Rattle.numbers.specs.Ints.{positive_part}
use Rattle.numbers.specs.Below.{table, some_below}
use Rattle.refusals.specs.Refusals.{Judged, unless, refuse_first, no_row, unlimited, below_zero}
use Rattle.rounds.specs.Rounds.{Grid, State, Outcome, extract}

pub record Setup : Type 0 where
  pub rows : ℕ
  pub borders : ℕ
  -- the rows that take part
  pub takes : (row : ℕ) → Bool
  -- the borders that may rise
  pub marked : (border : ℕ) → Bool
  -- the factor p of each row at each border, marked or not
  pub p : (row border : ℕ) → ℕ
  -- the margin that each row starts with, grains
  pub margin : (row : ℕ) → ℤ
  -- whether a margin below 0 is refused (7); else it counts as 0
  pub strict : Bool
  -- where each border starts, kW
  pub from : (border : ℕ) → ℕ

-- the grid of the rounds: p = 0 at a border that is not marked, and of a row that takes no part
unfoldable pub grid_by : Setup → Grid
grid_by s = record { rows = s.rows; borders = s.borders; p = λ i b. cond (s.marked b && s.takes i) (s.p i b) 0 }

-- the state that they start from
unfoldable pub begin_by : Setup → State
begin_by s =
    record {
      margins = table s.rows (λ i. cond (s.takes i) (positive_part (s.margin i)) 0);
      x = table s.borders s.from;
    }

-- a marked border that no row loads
abbrev pub free_by : Setup → (b : ℕ) → Bool
free_by s b = s.marked b && not (some_below s.rows (λ i. ltb 0 ((grid_by s).p i b)))

-- a row that takes part and starts below 0, where that is refused
abbrev pub low_by : Setup → (i : ℕ) → Bool
low_by s i = s.takes i && (s.strict && lt_z (s.margin i) (pos 0))

-- 5: no row takes part; 6: a marked border with p > 0 on no row that does; 7: the margin of such a row is below 0, where that is refused
unfoldable pub judge_by : {A : Type 0} → Setup → A → Judged A
judge_by s a =
    unless (some_below s.rows s.takes) no_row
    (refuse_first s.borders (free_by s) unlimited
    (refuse_first s.rows (low_by s) below_zero
    (Ok a)))

-- where the rounds end; and their end, or the refusal where they may not start
unfoldable pub end_by : Setup → Outcome
end_by s = extract (grid_by s) (begin_by s)

unfoldable pub outcome_by : Setup → Judged Outcome
outcome_by s = judge_by s (end_by s)
