-- The laws of `specs/Parts.antt` and `specs/Stored.antt`: n, that what is stored is what the definitions say, and what a call leaves. No contract cites this file.
use Rattle.std.specs.Prelude.{Err, Ok, None}
use mathlib.Core.Path.{◌≡◌, sym, ap, ◌∙◌}
use mathlib.Core.Bool.{Bool}
use mathlib.Core.List.{List, []}
use Prim.Native.Nat.{ℕ, ◌≤◌, ◌<◌}
use native.Mathlib.Omega.{arith}
use lib.IntN.{ℤ}
use lib.ListN.{length, get_or}
use Rattle.numbers.specs.Below.{at, table, over}
use Rattle.numbers.proofs.BelowLaws.{count_le, table_get, table_cong}
use Rattle.limits.specs.Limits.{borders_most}
use Rattle.refusals.specs.declared.Refusal.{Refusal}
use Rattle.refusals.specs.Answers.{said_judgement}
use Rattle.refusals.specs.Refusals.{too_short, Ruling}
use Rattle.refusals.proofs.RefusalLaws.{then_next, then_refused, either_passed, either_refused, need_enough, need_short}
use Rattle.types.specs.declared.Header.{Header}
use Rattle.types.specs.declared.Row.{Row}
use Rattle.types.specs.Ranges.{at_ℤ, is_intraday, border_of, row_of, default_of}
use Rattle.tablerules.specs.Table.{Table, front, stretch, judge_lent}
use Rattle.tablerules.specs.Good.{Good}
use Rattle.tablerules.proofs.GoodLaws.{told_judged}
use Rattle.marginrules.specs.Magnitudes.{BordersInRange}
use Rattle.marginrules.specs.Margin.{p_of, f0core_of, s_of, ram_at, margin_of, rams_of, starts_of}
use Rattle.marginrules.proofs.JudgedLaws.{good_factors, good_borders, good_nets}
use Rattle.staterules.specs.States.{state_of}
use Rattle.staterules.specs.Standings.{Standings, standings_of, standings_with}
use Rattle.staterules.proofs.StandingsLaws.{rows_in_lem}
use Rattle.partrules.specs.Parts.{n_of, start_from, parts_of, record_of, records_of, leaves, margins_left}
use Rattle.parts.specs.Stored.{parts_by, parts_at, Storable}

-- ---- n
pub n_few : (factors : List ℤ) {borders : List (List ℤ)} {n zones : ℕ} → BordersInRange zones borders → n ≡ n_of factors borders → n ≤ borders_most
unfolding n_of
n_few factors {borders} h e = omega (arith, e, count_le (length borders) (λ b. p_of factors (border_of (get_or borders b []))), h.few)

-- ---- a row, from what the calls gave
pub made_of : (default : ℤ) (raw factors nets : List ℤ) (borders : List (List ℤ)) (state : ℕ) (ram start : ℤ) {row : Row} {f0core : ℤ} {s n : ℕ}
    → row ≡ row_of raw → f0core ≡ f0core_of row factors nets → s ≡ s_of factors borders → n ≡ n_of factors borders
    → record_of (parts_by default row f0core s n state ram start) ≡ record_of (parts_by default (row_of raw) (f0core_of (row_of raw) factors nets) (s_of factors borders) (n_of factors borders) state ram start)
made_of default raw factors nets borders state ram start d e u v = rw (u, v, e, d)

module _ (h : Header) (nets : List ℤ) (borders rows : List (List ℤ)) (factors rams starts : List ℤ) (states : List ℕ) (i : ℕ) where
  pub stored_at : {default start : ℤ} {intraday : Bool} {own : List ℤ} → default ≡ default_of h → intraday ≡ is_intraday h → own ≡ stretch h.zones factors i → start ≡ start_from intraday (at_ℤ starts i)
      → record_of (parts_by default (row_of (get_or rows i [])) (f0core_of (row_of (get_or rows i [])) own nets) (s_of own borders) (n_of own borders) (at states i) (at_ℤ rams i) start)
      ≡ record_of (parts_at h nets borders rows factors rams starts states i)
  stored_at d u e s = cc

-- ---- each row, by the lists that were filled in
module _ (t : Table) {rams starts : List ℤ} {states : List ℕ} (r : standings_with rams states ≡ standings_of t) (s : starts ≡ starts_of t) where
  state-at : (i : ℕ) → i < t.header.rows → at states i ≡ state_of t.header t.factors (rams_of t) i
  unfolding standings_of
  state-at i h = ap (λ (m : Standings). at m.states i) r ∙ table_get t.header.rows (state_of t.header t.factors (rams_of t)) i 0 h

  row_is : (i : ℕ) → i < t.header.rows → record_of (parts_at t.header t.nets t.borders t.rows t.factors rams starts states i) ≡ record_of (parts_of t i)
  unfolding parts_of standings_of
  row_is i h =
      let ram : at_ℤ rams i ≡ ram_at t i = ap (λ (m : Standings). at_ℤ m.rams i) r ∙ table_get t.header.rows (ram_at t) i _ h in
      let start : at_ℤ starts i ≡ margin_of t i = ap (λ (l : List ℤ). at_ℤ l i) s ∙ table_get t.header.rows (margin_of t) i _ h in
      rw (state-at i h, ram, start)

  pub stored_are : (out : List (List ℤ)) → over (table t.header.rows (λ i. record_of (parts_at t.header t.nets t.borders t.rows t.factors rams starts states i))) out ≡ over (records_of t) out
  stored_are out = ap (λ (l : List (List ℤ)). over l out) (table_cong t.header.rows _ _ row_is)

  pub storable : Good t → Storable t.header t.nets t.borders t.rows t.factors states
  storable good =
      record {
        header = good.exact.header;
        nets_in = good_nets good;
        borders_in = good_borders good;
        rows_long = good.exact.rows_long;
        rows_in_lem = good.rows_fit;
        factors_in = good_factors good;
        states_in = (rows_in_lem t (standings_with rams states) r).states_in;
      }

-- ---- what is left
module _ (given : Table) (r : Ruling) (said : said_judgement r (front given) ≡ judge_lent given) (out : List (List ℤ)) where
  pub margins_refused : (w : Refusal) → r ≡ Err w → leaves (Err w) out ≡ margins_left given out
  unfolding margins_left
  margins_refused w e = sym (either_refused _ _ (then_refused _ (sym said ∙ ap (λ (j : Ruling). said_judgement j (front given)) e)))

  module _ (e : r ≡ (Ok tt)) where
    pub margins_short : length out < given.header.rows → leaves (Err (too_short given.header.rows)) out ≡ margins_left given out
    unfolding margins_left
    margins_short h = sym (either_refused _ _ (then_next _ (told_judged None given r said e) ∙ need_short _ _ _ h))

    pub margins_stored : given.header.rows ≤ length out → {out' : List (List ℤ)} → out' ≡ over (records_of (front given)) out → leaves (Ok tt) out' ≡ margins_left given out
    unfolding margins_left
    margins_stored h q = ap (leaves (Ok tt)) q ∙ sym (either_passed _ _ (then_next _ (told_judged None given r said e) ∙ need_enough _ _ _ h))
