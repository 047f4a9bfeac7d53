-- Which borders rise (02, E13): marks that agree below the number of borders give one outcome, and what an outcome that was asked for comes to.
-- No contract cites this file.
use Rattle.std.specs.Prelude.{Err, Ok, Option}
use mathlib.Core.Path.{◌≡◌, sym, ap, ap₂, ◌∙◌}
use mathlib.Core.Bool.{Bool}
use mathlib.Core.List.{List}
use Prim.Native.Nat.{ℕ, ◌<◌}
use Rattle.refusals.specs.declared.Refusal.{Refusal}
use Rattle.refusals.specs.Answers.{said_judgement}
use Rattle.refusals.specs.Refusals.{Judged, then, Ruling}
use Rattle.refusals.proofs.RefusalLaws.{then_next, then_refused}
use Rattle.marks.specs.Marks.{judge_asked, may_rise}
use Rattle.marks.proofs.MarkLaws.{asked_then, asked_passed}
use Rattle.tablerules.specs.Table.{Table}
use Rattle.rounds.specs.Rounds.{State, Outcome, extract}
use Rattle.rounds.specs.Last.{last_rounds}
use Rattle.rounds.specs.Stopping.{stop_rows}
use Rattle.rounds.proofs.Theorems.{same_factors, same_lasts, same_stops}
use Rattle.setup.specs.Setup.{Setup, grid_by}
use Rattle.staterules.specs.Standings.{standings_of}
use Rattle.staterules.specs.States.{kept}
use Rattle.extractrules.specs.Start.{grid_marked, table_grid, table_start, judge_marked, setup_of, setup_with}
use Rattle.extractrules.specs.Filled.{cells}
use Rattle.extractrules.proofs.SameMarks.{p_marks, judge_marks_lem}
use Rattle.extractrules.specs.Extraction.{Result, result_marked, outcome_marked, outcome_for}

-- ---- marks that agree
module _ (m m' : ℕ → Bool) (t : Table) (e : (b : ℕ) → b < t.header.borders → m b ≡ m' b) where
  abbrev s : Setup
  s = setup_of kept m' t

  p-agree : (i b : ℕ) → i < t.header.rows → b < t.header.borders → (grid_marked m t).p i b ≡ (grid_marked m' t).p i b
  unfolding setup_with
  p-agree i b hi hb = p_marks s m e i b hb

  judge-agree : judge_marked m t ≡ judge_marked m' t
  unfolding setup_with
  judge-agree = judge_marks_lem s m e (standings_of t).states

  pub result_agree : result_marked m t ≡ result_marked m' t
  unfolding result_marked grid_by setup_with
  result_agree =
      let start : State = table_start t in
      let g = grid_marked m t in
      let g' = grid_marked m' t in
      let made : Outcome → List ℕ → List (Option ℕ) → Result =
      λ o lasts stops. record { header = t.header; rows = standings_of t; p = cells (table_grid t); outcome = o; lasts = lasts; stops = stops } in
      let ended : extract g start ≡ extract g' start = same_factors t.header.rows t.header.borders _ _ p-agree start in
      ap₂ (λ (o : Outcome) (l : List ℕ). made o l (stop_rows g (extract g start).state.margins)) ended (same_lasts t.header.rows t.header.borders _ _ p-agree start)
      ∙ ap (made (extract g' start) (last_rounds g' start))
      (ap (λ (o : Outcome). stop_rows g o.state.margins) ended ∙ same_stops t.header.rows t.header.borders _ _ p-agree (extract g' start).state.margins)

  pub outcome_agree : outcome_marked m t ≡ outcome_marked m' t
  unfolding outcome_marked
  outcome_agree = ap₂ (λ (j : Judged (List ℕ)) (r : Result). then j (λ states. Ok r)) judge-agree result_agree

-- ---- an outcome that was asked for
module _ (all : Bool) (marks : List ℕ) (t : Table) where
  module _ (j : Ruling) (said : said_judgement j marks ≡ judge_asked all t.header.borders marks (Ok marks)) where
    pub for_refused : (w : Refusal) → j ≡ Err w → outcome_for all marks t ≡ Err w
    unfolding outcome_for
    for_refused w e = sym (asked_then all t.header.borders marks marks _) ∙ then_refused _ (sym said ∙ ap (λ (v : Ruling). said_judgement v marks) e)

    pub for_passed : j ≡ (Ok tt) → outcome_for all marks t ≡ outcome_marked (may_rise all marks) t
    unfolding outcome_for
    for_passed e = sym (asked_then all t.header.borders marks marks _) ∙ then_next _ (sym said ∙ ap (λ (v : Ruling). said_judgement v marks) e)

  -- an outcome that passed is that of the marked borders
  pub for_is : (r : Result) → outcome_for all marks t ≡ Ok r → outcome_marked (may_rise all marks) t ≡ Ok r
  unfolding outcome_for
  for_is r e = asked_passed all t.header.borders marks _ r e
