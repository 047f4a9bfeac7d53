-- A small setup, with this border or that marked: what the rounds come to. Nobody cites it: it refuses a definition that slipped, by the number that comes out.
use Rattle.std.specs.Prelude.{Err, Ok}
use mathlib.Core.Path.{refl}
use mathlib.Core.Bool.{Bool, true, false, cond}
use mathlib.Core.List.{List, [], ◌∷◌}
use Prim.Native.Nat.{ℕ}
use lib.Dec.{eqb}
use lib.IntN.{ℤ, pos}
use Rattle.numbers.specs.Ints.{minus, positive_part}
use Rattle.numbers.specs.Below.{if_zero, sum, count, least, lesser, or_zero, table, first_from, given}
use Rattle.numbers.specs.Computed.{◌is◌, Hold}
use Rattle.refusals.specs.Refusals.{Judged, unless, refuse_at, refuse_first, below_zero, no_row, unlimited}
use Rattle.marks.specs.Marks.{marked_by}
use Rattle.rounds.specs.Rounds.{Outcome, sharers, raise, raises, load, lowered, risen, apply, next, raised, counted, run, extract}
use Rattle.setup.specs.Setup.{Setup, grid_by, begin_by, judge_by, end_by, outcome_by}

-- two rows, p 10 at border 0 and 5 at border 1 of both, and border 2, which neither loads; each border starts at 7 kW
abbrev small : (takes marked : ℕ → Bool) → (m₀ m₁ : ℤ) → (strict : Bool) → Setup
small takes marked m₀ m₁ strict =
    record {
      rows = 2;
      borders = 3;
      takes = takes;
      marked = marked;
      p = λ i b. cond (eqb b 0) 10 (cond (eqb b 1) 5 0);
      margin = λ i. cond (eqb i 0) m₀ m₁;
      strict = strict;
      from = λ b. 7;
    }

abbrev both : (i : ℕ) → Bool
both i = true

abbrev only : (k i : ℕ) → Bool
only k i = eqb i k

abbrev end : (rounds : ℕ) → (margins x : List ℕ) → Judged Outcome
end rounds margins x = Ok (record { rounds = rounds; state = record { margins = margins; x = x } })

abbrev marked : (marks : List ℕ) → Judged Outcome
marked marks = outcome_by (small both (marked_by marks) (pos 47) (pos 60) true)

pub anchors : Hold (
    -- borders 0 and 1, in any order: of 47 grains each has 23, and the row keeps 7; border 2, on no row, is not looked at by 6
    marked (1 ∷ 0 ∷ []) is end 1 (7 ∷ 20 ∷ []) (9 ∷ 11 ∷ 7 ∷ [])  -- two
    -- a row of a higher margin changes nothing but its own; one that takes no part has margin 0
    ∷ outcome_by (small (only 0) (marked_by (0 ∷ 1 ∷ [])) (pos 47) (pos 60) true) is end 1 (7 ∷ 0 ∷ []) (9 ∷ 11 ∷ 7 ∷ [])  -- first-row
    -- n counts marked borders alone, and border 0 stays
    ∷ marked (1 ∷ []) is end 1 (2 ∷ 15 ∷ []) (7 ∷ 16 ∷ 7 ∷ [])  -- one
    -- 6 looks at marked borders
    ∷ marked (1 ∷ 2 ∷ []) is Err (unlimited 2)  -- six
    -- 6 comes before 7
    ∷ outcome_by (small both (marked_by (1 ∷ 2 ∷ [])) (minus 1) (minus 3) true) is Err (unlimited 2)  -- six-first
    -- no row takes part
    ∷ outcome_by (small (only 2) both (pos 47) (pos 60) true) is Err (no_row)  -- five
    -- a margin below 0: refused, at a row that takes part, or else counted as 0
    ∷ outcome_by (small both (marked_by (1 ∷ [])) (minus 1) (minus 3) true) is Err (below_zero 0)  -- seven
    ∷ outcome_by (small (only 1) (marked_by (1 ∷ [])) (minus 1) (minus 3) true) is Err (below_zero 1)  -- seven-second
    ∷ outcome_by (small both (marked_by (1 ∷ [])) (minus 1) (pos 60) false) is end 0 (0 ∷ 60 ∷ []) (7 ∷ 7 ∷ 7 ∷ [])  -- not-seven
    ∷ [])
unfolding marked_by outcome_by judge_by end_by grid_by begin_by unless refuse_at refuse_first first_from given positive_part table extract run counted next apply raises raised raise load lowered risen sharers count sum least lesser or_zero if_zero
anchors = refl
