-- What a border's reasons say (crate reasoned), of every accepted table: there is a row that ended the rise of each marked border, the explanation adds up to the grain, what each row
-- would allow is as said, and the row that the result names holds the border. From the rounds' own theorems, by what p of the grid is.
use Rattle.std.specs.Prelude.{None, Ok, Some}
use mathlib.Core.Path.{◌≡◌, refl, sym, ap, subst, ◌∙◌}
use mathlib.Core.Bool.{Bool, true, false, cond}
use mathlib.Core.List.{List}
use mathlib.Core.Logic.{⊎_elim}
use Prim.Native.Nat.{ℕ, zero, suc, ◌+◌, ◌*◌, ◌-◌, ◌/◌, ◌≤◌, ◌<◌}
use native.Mathlib.Nat.{le_refl, le_trans}
use native.Mathlib.Omega.{arith}
use borrow.Author.Tests.{ltb-true, lt-ltb}
use lib.Dec.{ltb}
use lib.IntN.{ℤ, pos, ◌+ℤ◌, ◌-ℤ◌}
use lib.ListN.{get_or}
use Rattle.numbers.specs.Ints.{positive_part}
use Rattle.numbers.specs.Below.{at}
use Rattle.numbers.proofs.BelowLaws.{some_none, lt_suc_cases, le_or_lt, sum_cong, table_get}
use Rattle.numbers.proofs.IntLaws.{diff, diffs, zarith}
use Rattle.refusals.proofs.RefusalLaws.{passed_is, then_passed, then_next}
use Rattle.tablerules.specs.Table.{Table, border_at, factors_at}
use Rattle.tablerules.specs.Good.{Good}
use Rattle.rounds.specs.Rounds.{Grid, State, sharers, raise, Rounds, extract}
use Rattle.rounds.specs.Last.{after, raise_in, last_round}
use Rattle.rounds.specs.Stopping.{equal_share_kw, stop_row, Stops}
use Rattle.rounds.proofs.LeastLaws.{Smallest, least_some, div_mono}
use Rattle.rounds.proofs.Round.{next_margin_le}
use Rattle.rounds.proofs.Rounds.{extracts, ended_at_lem}
use Rattle.rounds.proofs.LastLaws.{last_round_lem}
use Rattle.marginrules.specs.Margin.{p_of, s_at, ram_at}
use Rattle.staterules.specs.Standings.{standings_of}
use Rattle.setup.specs.Setup.{Setup, grid_by, begin_by}
use Rattle.staterules.specs.States.{kept}
use Rattle.extractrules.specs.Start.{grid_marked, table_start, judge_marked, setup_of, setup_with}
use Rattle.extractrules.specs.Extraction.{result_marked, outcome_marked, left_of, last_of, stop_of}
use Rattle.promises.specs.Demand.{start_kw, less_sof, remainder_of, start_margin, loss_of}
use Rattle.theorems.proofs.Demand3.{accepted_demand_3}
use Rattle.theorems.proofs.SetupLaws.{loads_takes, p_marked, p_unmarked, marked_loaded}
use Rattle.theorems.proofs.RoundStops.{after_rounds, stop_row_is, stop_row_found, never_raised, never_stopped}
use Rattle.holding.specs.Holding.{end_row, allowed_by}
use Rattle.why.specs.Why.{Why, why_marked, reasons_marked}
use Rattle.reasoned.specs.Reasoned.{EndedBy, BorderEnded, NotEnded, AsResult, used_of, AddsUp, Allows, NamedHolds}

some_is : {a b : ℕ} → Some a ≡ Some b → a ≡ b
some_is e = cc

-- ---- of rounds on a grid
-- after its last round the rules raise a border no more
rests : {g : Grid} {s t : State} {k : ℕ} → Rounds g s k t → (b : ℕ) → b < g.borders → raise g (after g s (last_round g s b)).margins b ≡ 0
unfolding raise_in
rests {g} {s} {t} {k} w b hb =
    let l = last_round_lem w b in
    ⊎_elim
    (λ (h : k ≤ last_round g s b).
    let e : last_round g s b ≡ k = omega (arith, l.counted) in
    ap (λ (j : ℕ). raise g (after g s j).margins b) e ∙ ap (λ (u : State). raise g u.margins b) (after_rounds w) ∙ ended_at_lem w b hb)
    (λ (h : last_round g s b < k). l.no_later (suc (last_round g s b)) (le_refl _) h)
    (le_or_lt k (last_round g s b))

-- so that some row holds it, and there is a first
pub ended_some : {g : Grid} {s t : State} {k : ℕ} → Rounds g s k t → (i b : ℕ) → i < g.rows → b < g.borders → 0 < g.p i b
    → (r : ℕ) × (Some r ≡ end_row g s b) × Stops g (after g s (last_round g s b)).margins b r
unfolding end_row raise
ended_some {g} {s} w i b hi hb hp =
    let left : List ℕ = (after g s (last_round g s b)).margins in
    let u =
    subst (λ (v : ℕ). Smallest g.rows (λ i. g.p i b) (λ i. at left i / sharers g i / g.p i b) v) (rests w b hb)
    (least_some g.rows (λ i. g.p i b) (λ i. at left i / sharers g i / g.p i b) i hi hp) in
    let f = stop_row_found g left b u.i u.below u.counts (omega (arith, u.is)) in
    (f.0, f.1, stop_row_is g left b f.1)

-- margins never grow
falls : (g : Grid) (s : State) (j i : ℕ) → i < g.rows → (k : ℕ) → j ≤ k → at (after g s k).margins i ≤ at (after g s j).margins i
unfolding after
falls g s j i h zero l = let e : j ≡ 0 = omega arith in subst (λ (v : ℕ). at (after g s 0).margins i ≤ at (after g s v).margins i) (sym e) (le_refl _)
falls g s j i h (suc k) l =
    ⊎_elim
    (λ m. le_trans (next_margin_le g (after g s k) i h) (falls g s j i h k (omega arith)))
    (λ e. subst (λ (v : ℕ). at (after g s (suc k)).margins i ≤ at (after g s v).margins i) (sym e) (le_refl _))
    (lt_suc_cases j (suc k) (omega arith))

-- a margin only falls from a border's last round to the end
ends_lower : (g : Grid) (s : State) (b i : ℕ) → i < g.rows → at (extract g s).state.margins i ≤ at (after g s (last_round g s b)).margins i
ends_lower g s b i h =
    let l : ℕ = last_round g s b in
    subst (λ (u : State). at u.margins i ≤ at (after g s l).margins i) (after_rounds (extracts g s)) (falls g s l i h (extract g s).rounds (last_round_lem (extracts g s) b).counted)

-- ---- of the reasons of a table
module _ (marked : ℕ → Bool) (t : Table) (b : ℕ) (hb : b < t.header.borders) where
  abbrev s : Setup
  s = setup_of kept marked t

  abbrev g : Grid
  g = grid_marked marked t

  abbrev its : Why
  its = why_marked marked t b

  abbrev left : List ℕ
  left = (extract g (table_start t)).state.margins

  -- what the reasons share with the result
  pub as_result : AsResult (result_marked marked t) its b
  unfolding why_marked result_marked last_of stop_of grid_by setup_with
  as_result =
      record {
        outcome = refl;
        p = refl;
        last = sym (table_get t.header.borders (last_round g (table_start t)) b 0 hb);
        named = sym (table_get t.header.borders (stop_row g left) b None hb);
      }

  allows-at : (i : ℕ) → i < t.header.rows → get_or its.allows i None ≡ allowed_by g left b i
  unfolding why_marked
  allows-at i h = table_get t.header.rows (allowed_by g left b) i None h

  -- a row that stops the border at the end allows it nothing
  holds : (i : ℕ) → i < t.header.rows → 0 < g.p i b → equal_share_kw g left b i < 1 → get_or its.allows i None ≡ Some 0
  holds i h l u =
      let z : equal_share_kw g left b i ≡ 0 = omega arith in
      allows-at i h ∙ ap (λ (v : Bool). cond v (Some (equal_share_kw g left b i)) None) (lt-ltb 0 (g.p i b) l) ∙ ap Some z

  pub named_holds : NamedHolds its
  unfolding why_marked grid_by setup_with
  named_holds i e = let u = stop_row_is g left b (sym e) in holds i u.row u.loads u.under

  -- a border that is not marked has p = 0 on every row of the grid
  pub not_ended : marked b ≡ false → NotEnded its
  unfolding why_marked end_row grid_by setup_with
  not_ended m =
      let none-loads : (i : ℕ) → i < g.rows → g.p i b ≡ 0 = λ i l. p_unmarked s i b m in
      record { last = never_raised g (table_start t) b none-loads; named = never_stopped g left b none-loads; ended = never_stopped g (after g (table_start t) (last_round g (table_start t) b)).margins b none-loads }

  module _ (m : marked b ≡ true) where
    kept-p : (i : ℕ) → kept (standings_of t).states i ≡ true → g.p i b ≡ p_of (factors_at t i) (border_at t b)
    unfolding setup_with
    kept-p i k = p_marked s i b k m

    -- the row of the grid's rounds is the table's
    ended_by : {last i : ℕ} → Stops g (after g (table_start t) last).margins b i → EndedBy t marked last b i
    unfolding grid_by setup_with
    ended_by {last} {i} u =
        let k = loads_takes s i b u.loads in
        let then-left : List ℕ = (after g (table_start t) last).margins in
        record {
          row = u.row;
          takes = k;
          loads = subst (λ (v : ℕ). 0 < v) (kept-p i k) u.loads;
          under = subst (λ (v : ℕ). at then-left i / sharers g i / v < 1) (kept-p i k) u.under;
          first = λ j h c l. subst (λ (v : ℕ). 1 ≤ at then-left j / sharers g j / v) (kept-p j c) (u.first j h (subst (λ (v : ℕ). 0 < v) (sym (kept-p j c)) l));
        }

    border-ended : (i : ℕ) → i < t.header.rows → 0 < g.p i b → BorderEnded t marked its b
    unfolding why_marked grid_by setup_with
    border-ended i hi hp =
        let w = extracts g (table_start t) in
        let r = ended_some w i b hi hb hp in
        let u = r.2 in
        let low : equal_share_kw g left b r.0 ≤ equal_share_kw g (after g (table_start t) (last_round g (table_start t) b)).margins b r.0 =
        div_mono (g.p r.0 b) (div_mono (sharers g r.0) (ends_lower g (table_start t) b r.0 u.row)) in
        record {
          row = r.0;
          found = sym r.1;
          ended = ended_by u;
          last = last_round_lem w b;
          still_holds = holds r.0 u.row u.loads (omega (arith, u.under));
        }

    -- what each row would allow
    pub allows_said : (i : ℕ) → i < t.header.rows → Allows t marked its b i
    unfolding why_marked grid_by setup_with
    allows_said i h =
        record {
          said = λ kw e. go (ltb 0 (g.p i b)) refl kw (sym (allows-at i h) ∙ e);
          each = λ k l.
              allows-at i h
              ∙ ap (λ (v : Bool). cond v (Some (equal_share_kw g left b i)) None) (lt-ltb 0 (g.p i b) (subst (λ (v : ℕ). 0 < v) (sym (kept-p i k)) l))
              ∙ ap (λ (v : ℕ). Some (at left i / sharers g i / v)) (kept-p i k);
        }
      where
        go : (v : Bool) → ltb 0 (g.p i b) ≡ v → (kw : ℕ) → cond v (Some (equal_share_kw g left b i)) None ≡ Some kw
            → (kept (standings_of t).states i ≡ true) × (0 < p_of (factors_at t i) (border_at t b)) × (kw ≡ at left i / sharers g i / p_of (factors_at t i) (border_at t b))
        go true e kw q =
            let l : 0 < g.p i b = ltb-true 0 (g.p i b) e in
            let k = loads_takes s i b l in
            (k, subst (λ (v : ℕ). 0 < v) (kept-p i k) l, sym (some_is q) ∙ ap (λ (v : ℕ). at left i / sharers g i / v) (kept-p i k))
        go false e kw q = absurd (some_none (sym q))

-- ---- every border of every accepted table
pos_is : (a b : ℕ) → pos a ≡ pos b → a ≡ b
pos_is a b e = cc

less_is : (r s l u : ℤ) → r -ℤ s ≡ l +ℤ u → r ≡ s +ℤ u +ℤ l
less_is r s l u e = let h' = simp diffs at (rw (diff r, diff s, diff l, diff u) at e) in rw (diff r, diff s, diff l, diff u) (simp diffs (omega (zarith, h')))

module _ (marked : ℕ → Bool) (t : Table) (b : ℕ) (hb : b < t.header.borders) (w : Why) (e : reasons_marked marked t b ≡ Ok w) where
  is : why_marked marked t b ≡ w
  unfolding reasons_marked
  is = passed_is _ _ (then_passed (judge_marked marked t) (λ states. Ok (why_marked marked t b)) w e).second

  -- there always is a row that ended the rise of a marked border
  pub accepted_ended : marked b ≡ true → BorderEnded t marked w b
  unfolding reasons_marked setup_with
  accepted_ended m =
      let j = then_passed (judge_marked marked t) (λ states. Ok (why_marked marked t b)) w e in
      let i = marked_loaded (setup_of kept marked t) (standings_of t).states j.it j.first b hb m in
      subst (λ (v : Why). BorderEnded t marked v b) is (border-ended marked t b hb m i.0 i.1 i.2)

  pub accepted_not_ended : marked b ≡ false → NotEnded w
  accepted_not_ended m = subst NotEnded is (not_ended marked t b hb m)

  pub accepted_allows : marked b ≡ true → (i : ℕ) → i < t.header.rows → Allows t marked w b i
  accepted_allows m i h = subst (λ (v : Why). Allows t marked v b i) is (allows_said marked t b hb m i h)

  pub accepted_named : NamedHolds w
  accepted_named = subst NamedHolds is (named_holds marked t b hb)

  -- the extraction accepts the table too, and its result is as the reasons say
  accepts : outcome_marked marked t ≡ Ok (result_marked marked t)
  unfolding reasons_marked outcome_marked
  accepts = then_next _ (then_passed (judge_marked marked t) (λ states. Ok (why_marked marked t b)) w e).first

  pub accepted_as_result : (outcome_marked marked t ≡ Ok (result_marked marked t)) × AsResult (result_marked marked t) w b
  accepted_as_result = (accepts, subst (λ (v : Why). AsResult (result_marked marked t) v b) is (as_result marked t b hb))

  -- the explanation of each kept row adds up
  pub accepted_adds_up : Good t → (i : ℕ) → i < t.header.rows → kept (standings_of t).states i ≡ true → AddsUp t w i
  unfolding why_marked result_marked left_of begin_by setup_with
  accepted_adds_up good i hi k =
      subst (λ (v : Why). AddsUp t v i) is (record {
        day_ahead = λ day.
            less_is (ram_at t i) (pos (s_at t.header t.borders t.factors i)) (pos (at (left marked t b hb) i)) (pos (used_of t (why_marked marked t b) i))
            (sym (ap (λ (v : Bool). cond v (pos (positive_part (remainder_of t i))) (less_sof t i)) day) ∙ starts);
        intraday = λ late.
            part (positive_part (remainder_of t i)) (at (left marked t b hb) i) (used_of t (why_marked marked t b) i)
            (sym (ap (λ (v : Bool). cond v (pos (positive_part (remainder_of t i))) (less_sof t i)) late) ∙ starts);
      })
    where
      lost : start_margin t i ≡ pos (at (left marked t b hb) i) +ℤ pos (loss_of t (extract (grid_marked marked t) (table_start t)).state.x i)
      lost = (accepted_demand_3 marked t (result_marked marked t) good accepts).lost i hi k

      used : used_of t (why_marked marked t b) i ≡ loss_of t (extract (grid_marked marked t) (table_start t)).state.x i
      used =
          sum_cong t.header.borders _ _
          (λ c hc.
          ap (λ (v : ℕ). p_of (factors_at t i) (border_at t c) * (at (extract (grid_marked marked t) (table_start t)).state.x c - v))
          (table_get t.header.borders (start_kw t) c 0 hc))

      -- by what the reasons have
      starts : start_margin t i ≡ pos (at (left marked t b hb) i) +ℤ pos (used_of t (why_marked marked t b) i)
      starts = lost ∙ ap (λ (v : ℕ). pos (at (left marked t b hb) i) +ℤ pos v) (sym used)

      part : (a l u : ℕ) → pos a ≡ pos l +ℤ pos u → a ≡ u + l
      part a l u q = let h : a ≡ l + u = pos_is a (l + u) q in omega arith
