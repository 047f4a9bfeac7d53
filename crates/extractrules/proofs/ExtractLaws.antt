-- The laws behind `extract`: what the rounds of the code come to, what is stored, and which judgement decides of a judged table. No contract cites this file.
use Rattle.std.specs.Prelude.{Err, None, Ok, Option}
use mathlib.Core.Path.{◌≡◌, refl, sym, ap, ap₂, ◌∙◌}
use mathlib.Core.Bool.{Bool}
use mathlib.Core.List.{List, [], ◌++◌, append-nil}
use Prim.Native.Nat.{ℕ, ◌+◌, ◌*◌, ◌/◌, ◌^◌, ◌≤◌, ◌<◌}
use native.Mathlib.Omega.{arith}
use lib.IntN.{ℤ}
use lib.ListN.{length, get_or, take, drop, length-take, length-append, take-append-drop, drop_of_length-le, get_or-append}
use lib.Seq.{length-take-le, take_at}
use Rattle.numbers.specs.Below.{at, table, over}
use Rattle.numbers.proofs.BelowLaws.{sum_cong, table_long, table_get, table_cong}
use Rattle.limits.specs.Limits.{borders_most}
use Rattle.refusals.specs.declared.Refusal.{Refusal}
use Rattle.refusals.specs.Answers.{said_judgement}
use Rattle.refusals.specs.Refusals.{Judged, then, either, too_short, Ruling}
use Rattle.refusals.proofs.RefusalLaws.{passed_is, then_passed, then_next, then_refused, either_passed, either_refused, need_passed, need_enough, need_short}
use Rattle.types.specs.declared.Header.{Header}
use Rattle.types.specs.Ranges.{at_ℤ, is_intraday, border_of}
use Rattle.tablerules.specs.Table.{Table}
use Rattle.tablerules.specs.Good.{Good}
use Rattle.rounds.specs.declared.Final.{Final}
use Rattle.rounds.specs.Rounds.{Grid, State, sharers, load, Outcome, extract}
use Rattle.rounds.specs.Last.{last_rounds}
use Rattle.rounds.specs.Stopping.{stop_row, stop_rows}
use Rattle.rounds.specs.AllRounds.{flat, stop_by, Startable, WorkLeft, work_left, work_of}
use Rattle.rounds.proofs.Rounds.{extracts}
use Rattle.rounds.proofs.StopLaws.{stop_by_lem, shares_are}
use Rattle.rounds.proofs.Theorems.{extract_demand3, same_factors, same_lasts, same_stops}
use Rattle.rounds.proofs.EveryRoundLaws.{rounds_long, work_ended, lasts_below}
use Rattle.marginrules.specs.Magnitudes.{start_bits}
use Rattle.marginrules.proofs.JudgedLaws.{good_borders}
use Rattle.marginrules.proofs.Small.{named_values_small}
use Rattle.setup.specs.Setup.{grid_by, begin_by}
use Rattle.staterules.specs.Standings.{Standings, standings_of}
use Rattle.staterules.proofs.StandingsLaws.{rows_in_lem}
use Rattle.extractrules.specs.Start.{every, from_by, grid_marked, table_grid, table_start, judge_marked, setup_with}
use Rattle.extractrules.specs.Filled.{froms, exchanges_of, cells}
use Rattle.extractrules.proofs.StartLaws.{cells_at, grid_long, PreparedAs}
use Rattle.outcome.specs.Outcome.{border_left, left_of_row}
use Rattle.extractrules.specs.Extraction.{Result, result_by, result_marked, left_of, last_of, stop_of, outcome_marked, atc_record, row_record, ExtractLeft, leaves, result_room, result_stored}
use Rattle.extractrules.specs.Inner.{ended_at, grid_with, start_with, outcome_with, Runnable, Ran, Finishable, result_with, finished, outcome_left}
use Rattle.extractrules.proofs.AcceptedLaws.{accepted, load_le, small_start}

-- ---- the rounds
module _ {h : Header} {b : List (List ℤ)} {p margins x : List ℕ} (u : Runnable h b p margins) (e : x ≡ exchanges_of (is_intraday h) b) where
  abbrev g : Grid
  g = flat h.rows h.borders p

  froms-long : length (froms (is_intraday h) b) ≡ h.borders
  froms-long = table_long (length b) _ ∙ u.borders_long

  x_long : h.borders ≤ length x
  x_long = rw e (omega (arith, length-append (froms (is_intraday h) b) (drop (length (froms (is_intraday h) b)) (table borders_most (λ k. 0))), froms-long))

  x-front : take h.borders x ≡ froms (is_intraday h) b
  x-front = rw e (take_at (froms (is_intraday h) b) _ h.borders froms-long)

  x-load : (i : ℕ) → load g i x ≡ load g i (froms (is_intraday h) b)
  unfolding load
  x-load i = sum_cong h.borders _ _ (λ k l. ap (λ (v : ℕ). g.p i k * v) (rw e (get_or-append (froms (is_intraday h) b) _ 0 k (omega (arith, froms-long)))))

  pub run_startable : {ns : List ℕ} → ns ≡ table h.rows (sharers g) → Startable g ns margins x
  run_startable n =
      record {
        ready = record { counts = n; margins = u.margins_long };
        borders = x_long;
        fits = λ i l. omega (arith, u.fits i l, x-load i);
      }

  module _ {r : Final} {ends lasts : List ℕ} (w : work_left r ends lasts ≡ work_of g margins x) where
    run-ended : ended_at h.borders r ends ≡ outcome_with h b p margins
    run-ended =
        ap {B = Outcome} (λ (l : WorkLeft). ended_at h.borders l.answer l.margins) w
        ∙ work_ended g margins x x_long
        ∙ ap (λ (xs : List ℕ). extract g (record { margins = margins; x = xs })) x-front

    run-lasts : lasts ≡ last_rounds g (start_with h b margins)
    unfolding work_of
    run-lasts = ap (λ (l : WorkLeft). l.lasts) w ∙ ap (λ (xs : List ℕ). last_rounds g (record { margins = margins; x = xs })) x-front

    -- the equal shares of the margins left
    pub run_left : {ns shares : List ℕ} → ns ≡ table h.rows (sharers g) → length ends ≡ h.rows → shares ≡ table (length ends) (λ i. at ends i / at ns i)
        → Ran h b p margins r ends lasts shares
    run_left n long s = record { ended = run-ended; last_rounds_lem = run-lasts; shared = s ∙ shares_are {left = ends} (record { counts = n; margins = long }) }

-- ---- what is stored, where the rounds of the code ended
module _ {h : Header} {b : List (List ℤ)} {m : Standings} {p margins : List ℕ} (u : Finishable h b m p margins) (end : Final) {ends lasts shares : List ℕ} (ran : Ran h b p margins end ends lasts shares) where
  -- there is an exchange for each border
  pub front_long : length (take h.borders end.x) ≡ h.borders
  front_long = ap (λ (o : Outcome). length o.state.x) ran.ended ∙ rounds_long (extracts _ _) (table_long (length b) _ ∙ u.run.borders_long)

  pub front_within : h.borders ≤ length end.x
  front_within = omega (arith, front_long, length-take h.borders end.x)

  pub lasts_long : length lasts ≡ h.borders
  lasts_long = ap length ran.last_rounds_lem ∙ table_long h.borders _

  pub shares_long : length shares ≡ h.rows
  shares_long = ap length ran.shared ∙ table_long h.rows _

  -- the rounds are fewer than the margins' grains, so that each last round fits an i64
  pub lasts_fit : (b : ℕ) → b < h.borders → at lasts b < 2 ^ 63
  lasts_fit k l =
      rw ran.last_rounds_lem
      (lasts_below (grid_with h p) (start_with h b margins) (2 ^ 63) (omega arith) (λ i r. omega (arith, u.run.fits i r)) k l)

  -- no margin has risen, so that each fits an i64
  pub lefts_fit : (i : ℕ) → i < length m.states → (at m.states i ≤ 2) × (at ends i < 2 ^ 63)
  lefts_fit i l =
      let r : i < h.rows = omega (arith, u.states_long) in (
        u.states_in i r,
        omega (
          arith,
          ap (λ (o : Outcome). at o.state.margins i) ran.ended,
          (extract_demand3 (grid_with h p) (start_with h b margins)).lost i r,
          u.run.fits i r,
        ),
      )

  module _ (atcs lefts : List (List ℤ)) where
    abbrev atcs_of : (xs ms : List ℕ) → List (List ℤ)
    atcs_of xs ms = over (table h.borders (λ k. border_left (at xs k) (at (last_rounds (grid_with h p) (start_with h b margins)) k) (get_or (stop_rows (grid_with h p) ms) k None))) atcs

    abbrev lefts_of : ℕ → List ℕ → List (List ℤ)
    lefts_of n ms = over (table n (λ i. left_of_row (at m.states i) (at_ℤ m.rams i) (at ms i))) lefts

    pub finished_is : {atcs' lefts' : List (List ℤ)}
        → atcs' ≡ over (table h.borders (λ k. border_left (at (take h.borders end.x) k) (at lasts k) (stop_by (grid_with h p) shares k))) atcs
        → lefts' ≡ lefts_of (length m.states) ends
        → leaves (Ok end.rounds) p atcs' lefts' ≡ finished atcs lefts (result_with h b m p margins)
    unfolding atc_record row_record left_of last_of stop_of
    finished_is a l =
        ap₂ (leaves (Ok end.rounds) p)
        (a ∙ ap (λ (t : List (List ℤ)). over t atcs) (table_cong h.borders _ _ border-is))
        (l ∙ ap (λ (n : ℕ). lefts_of n ends) u.states_long)
        ∙ ap (λ (o : Outcome). leaves (Ok o.rounds) p (atcs_of o.state.x o.state.margins) (lefts_of h.rows o.state.margins)) ran.ended
      where
        border-is : (k : ℕ) → k < h.borders
            → border_left (at (take h.borders end.x) k) (at lasts k) (stop_by (grid_with h p) shares k)
            ≡ border_left (at (take h.borders end.x) k) (at (last_rounds (grid_with h p) (start_with h b margins)) k) (get_or (stop_rows (grid_with h p) ends) k None)
        border-is k hk =
            ap₂ (border_left (at (take h.borders end.x) k))
            (ap (λ (v : List ℕ). at v k) ran.last_rounds_lem)
            (stop_by_lem (grid_with h p) ends k ran.shared ∙ sym (table_get h.borders (stop_row (grid_with h p) ends) k None hk))

-- ---- a prepared table
module _ {marked : ℕ → Bool} {t : Table} {r : Ruling} {rams starts : List ℤ} {states : List ℕ} (q : PreparedAs marked t r rams starts states) where
  pub start_turned : {w : Refusal} → r ≡ Err w → judge_marked marked t ≡ Err w
  start_turned e = sym q.judged ∙ ap (λ (j : Ruling). said_judgement j states) e

  pub start_passed : r ≡ (Ok tt) → judge_marked marked t ≡ Ok (standings_of t).states
  start_passed e = sym q.judged ∙ ap (λ (j : Ruling). said_judgement j states) e ∙ ap (λ (n : Standings). Ok n.states) q.rows

-- ---- a prepared table whose p at the marked borders and whose margins are laid out
module _ (marked : ℕ → Bool) {t : Table} (good : Good t) {m : Standings} (rows_are : m ≡ standings_of t) {p margins : List ℕ} (p-is : p ≡ cells (grid_marked marked t)) (margins_are : margins ≡ (table_start t).margins) where
  abbrev h : Header
  h = t.header

  froms-are : froms (is_intraday h) t.borders ≡ (table_start t).x
  unfolding begin_by setup_with
  froms-are = ap (λ (n : ℕ). table n (λ k. from_by (is_intraday h) (border_of (get_or t.borders k [])))) good.exact.borders_long

  -- the flat table of p agrees with the grid at every row and border
  p-at : (i b : ℕ) → i < h.rows → b < h.borders → (flat h.rows h.borders p).p i b ≡ (grid_marked marked t).p i b
  unfolding grid_by setup_with
  p-at i b l k = ap (λ (ps : List ℕ). at ps (i * h.borders + b)) p-is ∙ cells_at (grid_marked marked t) i b l k

  load_is : (i : ℕ) → i < h.rows → load (flat h.rows h.borders p) i (froms (is_intraday h) t.borders) ≡ load (grid_marked marked t) i (table_start t).x
  unfolding load grid_by setup_with
  load_is i l = sum_cong h.borders _ _ (λ b k. ap₂ ◌*◌ (p-at i b l k) (ap (λ (v : List ℕ). at v b) froms-are))

  pub finishable : Finishable h t.borders m p margins
  unfolding begin_by setup_with
  finishable =
      let rows = rows_in_lem t m rows_are in
      record {
        run = record {
          header = good.exact.header;
          borders = good_borders good;
          borders_long = good.exact.borders_long;
          p_long = grid_long marked t p-is;
          margins_long = ap length margins_are ∙ table_long h.rows _;
          fits = λ i l.
              omega (
                arith,
                ap (λ (v : List ℕ). at v i) margins_are,
                small_start t start_bits (λ j k. (named_values_small good j k).start) i l,
                load_is i l,
                load_le t marked good.exact.borders_long i,
                (named_values_small good i l).s,
              );
        };
        rams_long = rows.rams_long;
        states_long = rows.states_long;
        states_in = rows.states_in;
      }

  -- the result, except that its p is that of the marked borders
  result-is : result_with h t.borders m p margins ≡ result_by h (standings_of t) p (grid_marked marked t) (table_start t)
  unfolding grid_by setup_with
  result-is =
      let g = grid_with h p in
      let s = table_start t in
      let made : Outcome → List ℕ → List (Option ℕ) → Result =
      λ o lasts stops. record { header = h; rows = standings_of t; p = p; outcome = o; lasts = lasts; stops = stops } in
      let ended : extract g s ≡ extract (grid_marked marked t) s = same_factors h.rows h.borders _ _ p-at s in
      ap {B = Result} (λ (n : Standings). result_by h n p g (start_with h t.borders margins)) rows_are
      ∙ ap (result_by h (standings_of t) p g) (ap₂ {C = State} (λ (ms xs : List ℕ). record { margins = ms; x = xs }) margins_are froms-are)
      ∙ ap₂ (λ (o : Outcome) (l : List ℕ). made o l (stop_rows g (extract g s).state.margins)) ended (same_lasts h.rows h.borders _ _ p-at s)
      ∙ ap (made (extract (grid_marked marked t) s) (last_rounds (grid_marked marked t) s))
      (ap (λ (o : Outcome). stop_rows g o.state.margins) ended ∙ same_stops h.rows h.borders _ _ p-at (extract (grid_marked marked t) s).state.margins)

  -- with p of every border the result is the table's; a lent table of p of just that length is filled
  pub stored_is : (ps : List ℕ) → length ps ≡ h.rows * h.borders → (atcs lefts : List (List ℤ)) {atcs' lefts' : List (List ℤ)} (k : ℕ)
      → leaves (Ok k) p atcs' lefts' ≡ finished atcs lefts (result_with h t.borders m p margins)
      → {whole : List ℕ} → whole ≡ cells (table_grid t) → leaves (Ok k) whole atcs' lefts' ≡ result_stored ps atcs lefts (result_marked marked t)
  unfolding result_marked atc_record row_record left_of last_of stop_of
  stored_is ps long atcs lefts k e {whole} whole_is =
      let stored : Result → List ℕ → ExtractLeft =
      λ r v. leaves (Ok r.outcome.rounds) v (over (table r.header.borders (atc_record r)) atcs) (over (table r.header.rows (row_record r)) lefts) in
      ap (λ (l : ExtractLeft). leaves l.answer whole l.atcs l.lefts) e
      ∙ ap (λ (r : Result). stored r whole) result-is
      ∙ ap (stored (result_marked marked t)) (whole_is ∙ sym (ap (λ (old : List ℕ). cells (table_grid t) ++ old) (drop_of_length-le ps {i = length (cells (table_grid t))} (omega (arith, long, whole_long))) ∙ append-nil _))
    where
      whole_long : length (cells (table_grid t)) ≡ h.rows * h.borders
      whole_long = grid_long every t refl

-- ---- which judgement decides, of a judged table
module _ (marked : ℕ → Bool) (t : Table) (ps : List ℕ) (atcs lefts : List (List ℤ)) where
  pub start_refused : {w : Refusal} → judge_marked marked t ≡ Err w → leaves (Err w) ps atcs lefts ≡ outcome_left (outcome_marked marked t) ps atcs lefts
  unfolding outcome_left outcome_marked
  start_refused e = sym (either_refused _ _ (then_refused _ (then_refused _ e)))

  module _ (e : judge_marked marked t ≡ Ok (standings_of t).states) where
    abbrev result : Result
    result = result_marked marked t

    past-start : then (outcome_marked marked t) (result_room atcs lefts) ≡ result_room atcs lefts result
    unfolding outcome_marked
    past-start = then_next _ (then_next _ e)

    pub short_borders : length atcs < t.header.borders → leaves (Err (too_short t.header.borders)) ps atcs lefts ≡ outcome_left (outcome_marked marked t) ps atcs lefts
    unfolding outcome_left result_marked
    short_borders l = sym (either_refused _ _ (past-start ∙ need_short _ _ _ l))

    module _ (hb : t.header.borders ≤ length atcs) where
      pub short_rows : length lefts < t.header.rows → leaves (Err (too_short t.header.rows)) ps atcs lefts ≡ outcome_left (outcome_marked marked t) ps atcs lefts
      unfolding outcome_left result_marked
      short_rows l = sym (either_refused _ _ (past-start ∙ need_enough _ _ _ hb ∙ need_short _ _ _ l))

      pub all_stored : t.header.rows ≤ length lefts → result_stored ps atcs lefts result ≡ outcome_left (outcome_marked marked t) ps atcs lefts
      unfolding outcome_left result_marked
      all_stored l = sym (either_passed _ _ (past-start ∙ need_enough _ _ _ hb ∙ need_enough _ _ _ l))

-- what is stored over the front of a list that is as long, and then the rest of the list, is stored over the list
pub over_taken : (n : ℕ) (ps : List ℕ) → n ≤ length ps → (new : List ℕ) → length new ≡ n → over new (take n ps) ++ drop n ps ≡ over new ps
over_taken n ps enough new e =
    ap (λ (old : List ℕ). (new ++ old) ++ drop n ps) (drop_of_length-le (take n ps) {i = length new} (omega (arith, e, length-take-le n ps enough)))
    ∙ ap (λ (v : List ℕ). v ++ drop n ps) (append-nil new)
    ∙ ap (λ (k : ℕ). new ++ drop k ps) (sym e)

-- a lent table of p that is longer than the front that was worked on
module _ (marked : ℕ → Bool) (t : Table) (n : ℕ) (is : n ≡ t.header.rows * t.header.borders) (ps : List ℕ) (enough : n ≤ length ps) (atcs lefts : List (List ℤ)) where
  abbrev longer : ExtractLeft → ExtractLeft
  longer l = leaves l.answer (l.p ++ drop n ps) l.atcs l.lefts

  longer-is : (j : Judged Result) → then (outcome_marked marked t) (result_room atcs lefts) ≡ j
      → longer (either j (result_stored (take n ps) atcs lefts) (λ w. leaves (Err w) (take n ps) atcs lefts)) ≡ either j (result_stored ps atcs lefts) (λ w. leaves (Err w) ps atcs lefts)
  unfolding either result_marked
  longer-is (Err w) e = ap (λ (v : List ℕ). leaves (Err w) v atcs lefts) (take-append-drop n ps)
  longer-is (Ok r) e =
      let o = then_passed (outcome_marked marked t) (result_room atcs lefts) r e in
      let b = need_passed r _ _ _ o.second in
      let c = need_passed r _ _ _ b.1 in
      let k : result_marked marked t ≡ r = (accepted marked t o.it o.first).is ∙ passed_is _ _ c.1 in
      ap (λ (v : List ℕ). leaves (Ok r.outcome.rounds) v (result_stored ps atcs lefts r).atcs (result_stored ps atcs lefts r).lefts)
      (over_taken n ps enough r.p (sym (ap (λ (v : Result). length v.p) k) ∙ grid_long every t refl ∙ sym is))

  pub front_left : {l : ExtractLeft} → l ≡ outcome_left (outcome_marked marked t) (take n ps) atcs lefts → longer l ≡ outcome_left (outcome_marked marked t) ps atcs lefts
  unfolding outcome_left
  front_left e = ap longer e ∙ longer-is (then (outcome_marked marked t) (result_room atcs lefts)) refl
