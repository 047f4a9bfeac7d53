-- The laws behind `tell`: what the rounds of the code come to. No contract cites this file.
use Rattle.std.specs.Prelude.{None, Ok}
use mathlib.Core.Path.{◌≡◌, refl, sym, ap, ap₂, ◌∙◌}
use mathlib.Core.Bool.{Bool, true, false}
use mathlib.Core.List.{List, []}
use Prim.Native.Nat.{ℕ, ◌/◌, ◌^◌, ◌≤◌, ◌<◌}
use native.Mathlib.Omega.{arith}
use lib.IntN.{ℤ}
use lib.ListN.{length, get_or, take, length-take}
use lib.Seq.{take_at}
use Rattle.numbers.specs.Below.{at, table, over}
use Rattle.numbers.proofs.BelowLaws.{count_le, table_long, table_get, table_cong}
use Rattle.types.specs.declared.Border.{Border}
use Rattle.types.specs.declared.Header.{Header}
use Rattle.types.specs.LineLimits.{lta_most}
use Rattle.types.specs.Ranges.{is_intraday, border_of}
use Rattle.types.proofs.RangeLaws.{header_in_lem}
use Rattle.rounds.specs.declared.Final.{Final}
use Rattle.rounds.specs.Rounds.{Grid, State, Outcome, sharers, extract}
use Rattle.rounds.specs.Last.{after, last_round}
use Rattle.rounds.specs.Stopping.{stop_row}
use Rattle.rounds.specs.AllRounds.{Startable}
use Rattle.rounds.proofs.Rounds.{extracts}
use Rattle.rounds.proofs.Theorems.{extract_demand3}
use Rattle.rounds.proofs.EveryRoundLaws.{rounds_long}
use Rattle.rounds.proofs.Reach.{ends_below}
use Rattle.marginrules.specs.Margin.{lta_kw}
use Rattle.marginrules.proofs.JudgedLaws.{border_judged}
use Rattle.extractrules.specs.Start.{from_by}
use Rattle.extractrules.specs.Filled.{froms, exchanges_of}
use Rattle.replay.specs.Replay.{margins_after}
use Rattle.replay.proofs.ReplayLaws.{margins_alone, after_long}
use Rattle.outcome.specs.Outcome.{row_or_dash}
use Rattle.extractrules.specs.Inner.{grid_with, start_with, Runnable, Ran}
use Rattle.extractrules.proofs.ExtractLaws.{run_startable, run_left}
use Rattle.holding.specs.Holding.{end_row, allowed, allowed_by, ends_left, row_left, counts_of, Worked}
use Rattle.holding.specs.declared.Reasons.{Reasons}
use Rattle.why.specs.Why.{Why, why_by, end_record, row_record, reasons_of, leaves}
use Rattle.why.specs.Told.{told}

-- ---- what is told, where the rounds of the code ended
module _ {h : Header} {b : List (List ℤ)} {p m x : List ℕ} (u : Runnable h b p m) (e : x ≡ exchanges_of (is_intraday h) b) where
  abbrev grid : Grid
  grid = grid_with h p

  abbrev start : State
  start = start_with h b m

  froms-long : length (froms (is_intraday h) b) ≡ h.borders
  froms-long = table_long (length b) _ ∙ u.borders_long

  front-is : take h.borders x ≡ froms (is_intraday h) b
  front-is = rw e (take_at (froms (is_intraday h) b) _ h.borders froms-long)

  pub front_long : length (take h.borders x) ≡ h.borders
  front_long = ap length front-is ∙ froms-long

  pub told_startable : Startable grid (counts_of grid) m x
  told_startable = run_startable u e refl

  -- a border starts at no more than the most LTA
  from_low : (c : ℕ) → c < h.borders → at (froms (is_intraday h) b) c < 2 ^ 63
  unfolding lta_kw
  from_low c l =
      let there : c < length b = omega (arith, u.borders_long) in
      let lta = (border_judged _ _ (u.borders.each c there) refl).lta_in in
      rw (table_get (length b) (λ k. from_by (is_intraday h) (border_of (get_or b k []))) c 0 there) (go (is_intraday h) (border_of (get_or b c [])) lta)
    where
      go : (intraday : Bool) (border : Border) → border.lta ≤ lta_most → from_by intraday border < 2 ^ 63
      go true border l = omega arith
      go false border l = omega arith

  module _ {border : ℕ} {end : Final} {margins lasts ns stood : List ℕ} (w : Worked grid m x border end margins lasts ns stood) (long : length margins ≡ h.rows) where
    ran : Ran h b p m end margins lasts (table (length margins) (λ i. at margins i / at ns i))
    ran = run_left u e w.work w.counts long refl

    abbrev outcome : Outcome
    outcome = extract grid start

    to_is : take h.borders end.x ≡ outcome.state.x
    to_is = ap (λ (o : Outcome). o.state.x) ran.ended

    margins_are : margins ≡ outcome.state.margins
    margins_are = ap (λ (o : Outcome). o.state.margins) ran.ended

    pub to_long : length (take h.borders end.x) ≡ h.borders
    to_long = ap length to_is ∙ rounds_long (extracts grid start) froms-long

    pub to_within : h.borders ≤ length end.x
    to_within = omega (arith, to_long, length-take h.borders end.x)

    pub counts_long : length ns ≡ h.rows
    counts_long = ap length w.counts ∙ table_long h.rows _

    pub lasts_long : length lasts ≡ h.borders
    lasts_long = ap length ran.last_rounds_lem ∙ table_long h.borders _

    pub stood_long : length stood ≡ h.rows
    stood_long = ap length w.then_stood ∙ after_long grid m u.margins_long (at lasts border)

    pub ends_fit : (c : ℕ) → c < length (take h.borders x) → (at (take h.borders x) c < 2 ^ 63) × (at (take h.borders end.x) c < 2 ^ 63)
    ends_fit c l =
        let here : c < h.borders = omega (arith, front_long) in
        let low : at (froms (is_intraday h) b) c < 2 ^ 63 = from_low c here in
        (rw front-is low, rw to_is (ends_below grid start c (2 ^ 63) here low u.fits))

    pub holds_fit : (i : ℕ) → i < h.rows → (at ns i < 2 ^ 63) × (at margins i < 2 ^ 63)
    unfolding sharers
    holds_fit i l = (
      omega (arith, ap (λ (v : List ℕ). at v i) w.counts, table_get h.rows (sharers grid) i 0 l, count_le h.borders (grid.p i), (header_in_lem h u.header).borders_most_lem),
      omega (arith, ap (λ (v : List ℕ). at v i) margins_are, (extract_demand3 grid start).lost i l, u.fits i l),
    )

    module _ (hb : border < h.borders) where
      last-is : at lasts border ≡ last_round grid start border
      last-is = ap (λ (l : List ℕ). at l border) ran.last_rounds_lem ∙ table_get h.borders (last_round grid start) border 0 hb

      -- the margins after the border's last round
      stood-is : stood ≡ (after grid start (last_round grid start border)).margins
      stood-is = w.then_stood ∙ ap (margins_after grid m) last-is ∙ sym (margins_alone grid start (last_round grid start border))

      answer-is : {named ended : ℤ} → named ≡ row_or_dash (stop_row grid margins border) → ended ≡ row_or_dash (stop_row grid stood border) → (states : List ℕ)
          → ◌≡◌ {A = Reasons} (record { rounds = end.rounds; last = at lasts border; named = named; ended = ended }) (reasons_of (why_by h states p grid start border))
      unfolding reasons_of end_row
      answer-is {named} {ended} n d states =
          ap₂ {C = Reasons} (λ (k l : ℕ). record { rounds = k; last = l; named = named; ended = ended }) (ap (λ (o : Outcome). o.rounds) ran.ended) last-is
          ∙ ap₂ {C = Reasons} (λ (i j : ℤ). record { rounds = outcome.rounds; last = last_round grid start border; named = i; ended = j })
          (n ∙ ap (λ (v : List ℕ). row_or_dash (stop_row grid v border)) margins_are)
          (d ∙ ap (λ (v : List ℕ). row_or_dash (stop_row grid v border)) stood-is)

      module _ (states : List ℕ) (ends rows : List (List ℤ)) where
        abbrev its : Why
        its = why_by h states p grid start border

        ends-are : over (table (length (take h.borders x)) (λ c. ends_left (at (take h.borders x) c) (at (take h.borders end.x) c))) ends ≡ over (table h.borders (end_record its)) ends
        unfolding end_record
        ends-are =
            ap (λ (n : ℕ). over (table n (λ c. ends_left (at (take h.borders x) c) (at (take h.borders end.x) c))) ends) front_long
            ∙ ap₂ (λ (v y : List ℕ). over (table h.borders (λ c. ends_left (at v c) (at y c))) ends) front-is to_is

        row_is : (i : ℕ) → i < h.rows → row_left (at ns i) (at states i) (at margins i) (allowed (at ns i) (at margins i) (grid.p i border)) ≡ row_record its i
        unfolding row_record
        row_is i l =
            ap₂ (λ (v y : List ℕ). row_left (at v i) (at states i) (at y i) (allowed (at v i) (at y i) (grid.p i border))) w.counts margins_are
            ∙ ap (row_left (at (counts_of grid) i) (at states i) (at outcome.state.margins i))
            (ap (λ (n : ℕ). allowed n (at outcome.state.margins i) (grid.p i border)) (table_get h.rows (sharers grid) i 0 l)
            ∙ sym (table_get h.rows (allowed_by grid outcome.state.margins border) i None l))

        pub told_is : {named ended : ℤ} → named ≡ row_or_dash (stop_row grid margins border) → ended ≡ row_or_dash (stop_row grid stood border) → {ends' rows' : List (List ℤ)}
            → ends' ≡ over (table (length (take h.borders x)) (λ c. ends_left (at (take h.borders x) c) (at (take h.borders end.x) c))) ends
            → rows' ≡ over (table h.rows (λ i. row_left (at ns i) (at states i) (at margins i) (allowed (at ns i) (at margins i) (grid.p i border)))) rows
            → leaves (Ok (record { rounds = end.rounds; last = at lasts border; named = named; ended = ended })) p ends' rows' ≡ told ends rows its
        told_is n d {ends'} {rows'} a r =
            ap₂ (λ (q : Reasons) (v : List (List ℤ)). leaves (Ok q) p v rows') (answer-is n d states) (a ∙ ends-are)
            ∙ ap (leaves (Ok (reasons_of its)) p (over (table h.borders (end_record its)) ends)) (r ∙ ap (λ (t : List (List ℤ)). over t rows) (table_cong h.rows _ _ row_is))
