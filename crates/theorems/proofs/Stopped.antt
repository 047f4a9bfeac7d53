-- 02, E7, of every accepted table (promises: specs/Stopped): each marked border has a row that stopped it, the first such, and its last round is the rules'; a border that
-- is not marked has neither (02, E13).
-- From the rounds' own theorems (`RoundStops.antt`) by what p of the grid is: the table's factor at a kept row and a marked border, and 0 at all others.
use Rattle.std.specs.Prelude.{None, Ok}
use mathlib.Core.Path.{◌≡◌, sym, ap, subst, ◌∙◌}
use mathlib.Core.Bool.{Bool, true, false}
use mathlib.Core.List.{List, []}
use Prim.Native.Nat.{ℕ, ◌/◌, ◌≤◌, ◌<◌}
use lib.IntN.{ℤ, pos}
use lib.ListN.{get_or}
use Rattle.numbers.proofs.BelowLaws.{table_get}
use Rattle.refusals.proofs.RefusalLaws.{then_passed}
use Rattle.types.specs.Ranges.{at_ℤ}
use Rattle.marks.specs.Marks.{may_rise}
use Rattle.tablerules.specs.Table.{Table, border_at, factors_at, front}
use Rattle.rounds.specs.Rounds.{Grid, sharers, extract}
use Rattle.rounds.specs.Last.{last_round, LastRaise}
use Rattle.rounds.specs.Stopping.{stop_row, Stops}
use Rattle.rounds.proofs.Rounds.{extracts}
use Rattle.rounds.proofs.LastLaws.{last_round_lem}
use Rattle.theorems.proofs.RoundStops as rules
use Rattle.marginrules.specs.Margin.{p_of}
use Rattle.staterules.specs.Standings.{standings_of}
use Rattle.setup.specs.Setup.{Setup, grid_by}
use Rattle.staterules.specs.States.{kept}
use Rattle.extractrules.specs.Start.{grid_marked, table_start, judge_marked, setup_of, setup_with}
use Rattle.outcome.specs.Outcome.{row_or_dash}
use Rattle.extractrules.specs.Extraction.{Result, result_marked, outcome_marked, left_of, last_of, stop_of, atc_record, ExtractLeft, extract_for}
use Rattle.extractrules.proofs.AcceptedLaws.{accepted}
use Rattle.extractrules.proofs.LentLaws.{accepted_for}
use Rattle.promises.specs.Stopped.{StoppedBy, BorderStopped, Unmarked, LeftStopped, LeftUnmarked}
use Rattle.theorems.proofs.SetupLaws.{loads_takes, p_marked, p_unmarked, marked_loaded}
use Rattle.theorems.proofs.DemandLeft.{over_get}

module _ (marked : ℕ → Bool) (t : Table) (b : ℕ) where
  abbrev s : Setup
  s = setup_of kept marked t

  abbrev g : Grid
  g = grid_marked marked t

  abbrev its : Result
  its = result_marked marked t

  module _ (m : marked b ≡ true) where
    kept-p : (i : ℕ) → kept (standings_of t).states i ≡ true → g.p i b ≡ p_of (factors_at t i) (border_at t b)
    unfolding setup_with
    kept-p i k = p_marked s i b k m

    -- the row of the grid's rounds is the table's
    stopped_by : {i : ℕ} → Stops g its.outcome.state.margins b i → StoppedBy t marked its b i
    unfolding grid_by setup_with left_of result_marked
    stopped_by {i} u =
        let k = loads_takes s i b u.loads in
        record {
          row = u.row;
          takes = k;
          loads = subst (λ (v : ℕ). 0 < v) (kept-p i k) u.loads;
          under = subst (λ (v : ℕ). left_of its i / sharers g i / v < 1) (kept-p i k) u.under;
          first = λ j h c l.
              subst (λ (v : ℕ). 1 ≤ left_of its j / sharers g j / v) (kept-p j c)
              (u.first j h (subst (λ (v : ℕ). 0 < v) (sym (kept-p j c)) l));
        }

    border-stopped : b < t.header.borders → (i : ℕ) → i < t.header.rows → 0 < g.p i b → BorderStopped t marked its b
    unfolding grid_by setup_with stop_of last_of result_marked
    border-stopped hb i hi hp =
        let w = extracts g (table_start t) in
        let r = rules.stop_row_lem w i b hi hb hp in
        record {
          row = r.0;
          found = table_get t.header.borders (stop_row g (extract g (table_start t)).state.margins) b None hb ∙ sym r.1;
          stopped = stopped_by r.2;
          last =
              subst (LastRaise g (table_start t) b (extract g (table_start t)).rounds)
              (sym (table_get t.header.borders (last_round g (table_start t)) b 0 hb)) (last_round_lem w b);
        }

  -- a border that is not marked has p = 0 on every row of the grid
  never-rises : b < t.header.borders → marked b ≡ false → Unmarked its b
  unfolding result_marked last_of stop_of grid_by setup_with
  never-rises h m =
      let none-loads : (i : ℕ) → i < g.rows → g.p i b ≡ 0 = λ i l. p_unmarked s i b m in
      record {
        last = table_get t.header.borders (last_round g (table_start t)) b 0 h ∙ rules.never_raised g (table_start t) b none-loads;
        stop =
            table_get t.header.borders (stop_row g (extract g (table_start t)).state.margins) b None h
            ∙ rules.never_stopped g (extract g (table_start t)).state.margins b none-loads;
      }

-- ---- every border of every accepted table
module _ (marked : ℕ → Bool) (t : Table) (r : Result) (e : outcome_marked marked t ≡ Ok r) (b : ℕ) (hb : b < t.header.borders) where
  pub accepted_stopped : marked b ≡ true → BorderStopped t marked r b
  unfolding outcome_marked setup_with
  accepted_stopped m =
      let w = then_passed (judge_marked marked t) (λ states. Ok (result_marked marked t)) r e in
      let i = marked_loaded (setup_of kept marked t) (standings_of t).states w.it w.first b hb m in
      subst (λ (v : Result). BorderStopped t marked v b) (accepted marked t r e).is (border-stopped marked t b m hb i.0 i.1 i.2)

  pub accepted_unmarked : marked b ≡ false → Unmarked r b
  accepted_unmarked m = subst (λ (v : Result). Unmarked v b) (accepted marked t r e).is (never-rises marked t b hb m)

-- ---- every border, as a caller of `extract` or `extract_marked` finds it in lent memory
module _ (all : Bool) (marks : List ℕ) (given : Table) (ps : List ℕ) (atcs lefts : List (List ℤ)) (k : ℕ) (e : (extract_for all marks given ps atcs lefts).answer ≡ Ok k)
    (b : ℕ) (hb : b < given.header.borders) where
  abbrev left : Result
  left = result_marked (may_rise all marks) (front given)

  record-left : get_or (extract_for all marks given ps atcs lefts).atcs b [] ≡ atc_record left b
  unfolding result_marked
  record-left = ap (λ (l : ExtractLeft). get_or l.atcs b []) (accepted_for all marks given ps atcs lefts k e).left ∙ over_get given.header.borders (atc_record left) atcs b [] hb

  pub extract_stopped : may_rise all marks b ≡ true → LeftStopped (front given) (may_rise all marks) (extract_for all marks given ps atcs lefts).atcs b
  unfolding atc_record
  extract_stopped m =
      let s = accepted_stopped (may_rise all marks) (front given) left (accepted_for all marks given ps atcs lefts k e).outcome b hb m in
      record {
        of_result = s;
        row_left_lem = ap (λ (v : List ℤ). at_ℤ v 2) record-left ∙ ap row_or_dash s.found;
        last_left = ap (λ (v : List ℤ). at_ℤ v 1) record-left;
      }

  pub extract_unmarked : may_rise all marks b ≡ false → LeftUnmarked (extract_for all marks given ps atcs lefts).atcs b
  unfolding atc_record
  extract_unmarked m =
      let s = never-rises (may_rise all marks) (front given) b hb m in
      record {
        row_left_lem = ap (λ (v : List ℤ). at_ℤ v 2) record-left ∙ ap row_or_dash s.stop;
        last_left = ap (λ (v : List ℤ). at_ℤ v 1) record-left ∙ ap pos s.last;
      }
