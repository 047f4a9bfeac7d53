-- What `Shortening.antt` cites: which setups of a table are alike, of states 0 and 2 against state 0, and of the rows in another order. No contract cites this file.
-- Each row of states 0 and 2 is covered by the kept row of its class, which has the lowest RAM. State 1 depends on the spread alone, so that states 0 and 2 together do not
-- depend on the order of the rows; which row of a class is kept does not matter.
use Rattle.std.specs.Prelude.{None, Option, Some}
use mathlib.Core.Path.{◌≡◌, refl, sym, ap, subst, ◌∙◌}
use mathlib.Core.Bool.{Bool, true, false, cond, not, ◌||◌}
use mathlib.Core.List.{List}
use Prim.Native.Nat.{ℕ, ◌+◌, ◌<◌}
use native.Mathlib.Omega.{arith}
use lib.Dec.{ltb, eqb}
use lib.IntN.{ℤ, pos}
use lib.ListN.{length}
use lib.Signed.{lt_z, ◌≤ℤ◌, ≤ℤ_refl}
use Rattle.numbers.specs.Below.{at, first_from}
use Rattle.numbers.proofs.BelowLaws.{table_get}
use Rattle.refusals.specs.Refusals.{Judged, unless, refuse_at, refuse_first, bad_mark}
use Rattle.types.specs.declared.Header.{Header}
use Rattle.types.specs.Ranges.{is_intraday, at_ℤ}
use Rattle.marks.specs.Marks.{faulty_mark, judge_marks, judge_asked, may_rise}
use Rattle.tablerules.specs.Table.{Table, border_at, factors_at}
use Rattle.tablerules.specs.Good.{Good}
use Rattle.marginrules.specs.Margin.{p_of, ram_at, margin_of, rams_of}
use Rattle.marginrules.proofs.JudgedLaws.{good_factors}
use Rattle.staterules.specs.States.{spread_of, spread_least, shifted, state_of, kept}
use Rattle.theorems.proofs.ShiftLaws.{shifted_self}
use Rattle.theorems.proofs.OneKept.{one_kept}
use Rattle.staterules.specs.Standings.{standings_of}
use Rattle.setup.specs.Setup.{begin_by, end_by}
use Rattle.extractrules.specs.Start.{setup_of, setup_with}
use Rattle.outcome.specs.Outcome.{in_mw}
use Rattle.extractrules.specs.Extraction.{atc_of, result_marked, outcome_marked, outcome_for}
use Rattle.promises.specs.Taking.{result_in, outcome_in, outcome_taking, zero_or_two, unshortened}
use Rattle.promises.specs.Same.{SameResult, Both}
use Rattle.promises.specs.Order.{Reordered}
use Rattle.theorems.proofs.SetupLaws.{then_judged}
use Rattle.theorems.proofs.Alike.{Alike, same_end, same_judged}
use Rattle.theorems.proofs.Classes.{class_p, class_margin, wide_is, not_one}

-- ---- with the rows of state 0 alone, it is the calls' own outcome
pub taking_kept : (all : Bool) (marks : List ℕ) (t : Table) → outcome_taking kept all marks t ≡ outcome_for all marks t
unfolding outcome_taking outcome_for outcome_in outcome_marked result_in result_marked setup_with begin_by
taking_kept all marks t =
    let marked = may_rise all marks in
    ap (judge_asked all t.header.borders marks) (sym (then_judged (setup_of kept marked t) (standings_of t).states (λ states. result_marked marked t)))

-- ---- the outcomes of alike setups
module _ (takes takes' : List ℕ → ℕ → Bool) (marked : ℕ → Bool) (t t' : Table) where
  alike-results : Alike (setup_of takes marked t) (setup_of takes' marked t') → Both (SameResult t.header.borders) (outcome_in takes marked t) (outcome_in takes' marked t')
  unfolding outcome_in result_in end_by atc_of setup_with
  alike-results a =
      let s = setup_of takes marked t in
      let s' = setup_of takes' marked t' in
      let e = same_end s s' a in
      same_judged s s' a (SameResult t.header.borders) (result_in takes marked t) (result_in takes' marked t')
      (record { rounds = e.rounds; atcs = λ b h. ap in_mw (e.exchanges b h) })

-- the outcomes as asked: 13 is the same for both
asked_both : {A : Type 0} (like : A → A → Type 0) (all : Bool) (borders : ℕ) (marks : List ℕ) (j j' : Judged A) → Both like j j' → Both like (judge_asked all borders marks j) (judge_asked all borders marks j')
unfolding judge_marks refuse_first unless refuse_at
asked_both {A} like all borders marks j j' both = go all (ltb 0 (length marks)) (first_from (length marks) 0 (faulty_mark borders marks))
  where
    go : (all some-mark : Bool) (o : Option ℕ)
        → Both like (cond all j (unless some-mark (bad_mark 0) (refuse_at o (λ k. bad_mark (k + 1)) j))) (cond all j' (unless some-mark (bad_mark 0) (refuse_at o (λ k. bad_mark (k + 1)) j')))
    go true m o = both
    go false false o = record { number = refl; place = λ n. refl }
    go false true (Some k) = record { number = refl; place = λ n. refl }
    go false true None = both

pub alike_outcomes : (takes takes' : List ℕ → ℕ → Bool) (all : Bool) (marks : List ℕ) (t t' : Table) → t'.header.borders ≡ t.header.borders
    → Alike (setup_of takes (may_rise all marks) t) (setup_of takes' (may_rise all marks) t') → Both (SameResult t.header.borders) (outcome_taking takes all marks t) (outcome_taking takes' all marks t')
unfolding outcome_taking
alike_outcomes takes takes' all marks t t' same a =
    subst (λ (n : ℕ). Both (SameResult t.header.borders) (outcome_taking takes all marks t) (judge_asked all n marks (outcome_in takes' (may_rise all marks) t'))) (sym same)
    (asked_both (SameResult t.header.borders) all t.header.borders marks _ _ (alike-results takes takes' (may_rise all marks) t t' a))

-- ---- the states and margins of a table's rows
module _ (t : Table) (i : ℕ) (h : i < t.header.rows) where
  state-at : at (standings_of t).states i ≡ state_of t.header t.factors (rams_of t) i
  unfolding standings_of
  state-at = table_get t.header.rows (state_of t.header t.factors (rams_of t)) i 0 h

  ram_at_lem : at_ℤ (rams_of t) i ≡ ram_at t i
  ram_at_lem = table_get t.header.rows (ram_at t) i (pos 0) h

  margin-in : (takes : List ℕ → ℕ → Bool) (marked : ℕ → Bool) → (setup_of takes marked t).margin i ≡ margin_of t i
  unfolding setup_with
  margin-in takes marked = table_get t.header.rows (margin_of t) i (pos 0) h

le_same : (x x' y y' : ℤ) → x' ≡ x → y' ≡ y → x ≤ℤ y → x' ≤ℤ y'
le_same x x' y y' e q h = subst (λ (z : ℤ). z ≤ℤ y') (sym e) (subst (λ (z : ℤ). x ≤ℤ z) (sym q) h)

-- ---- states 0 and 2 against state 0
module _ {t : Table} (good : Good t) (marked : ℕ → Bool) where
  kept-too : (i : ℕ) → kept (standings_of t).states i ≡ true → unshortened (standings_of t).states i ≡ true
  unfolding kept unshortened
  kept-too i k = ap (λ (v : Bool). v || eqb (at (standings_of t).states i) 2) k

  wide-state : (i : ℕ) → i < t.header.rows → unshortened (standings_of t).states i ≡ true → zero_or_two (state_of t.header t.factors (rams_of t) i) ≡ true
  unfolding unshortened
  wide-state i h k = ap zero_or_two (sym (state-at t i h)) ∙ k

  kept-state : (i : ℕ) → i < t.header.rows → state_of t.header t.factors (rams_of t) i ≡ 0 → kept (standings_of t).states i ≡ true
  unfolding kept
  kept-state i h e = ap (λ (v : ℕ). eqb v 0) (state-at t i h ∙ e)

  pub shortened : Alike (setup_of kept marked t) (setup_of unshortened marked t)
  unfolding setup_with
  shortened =
      record {
        borders = refl;
        marked = λ b h. refl;
        from = λ b h. refl;
        strict = refl;
        there = λ i h k. record { row = i; below = h; takes = kept-too i k; same = λ b hb. refl; lower = ≤ℤ_refl _ };
        back = λ i h k.
            let l = one_kept (good_factors good) (rams_of t) i h (not_one t (rams_of t) i (wide-state i h k)) in
            let j = l.kept in
            record {
              row = j;
              below = l.in_range_lem;
              takes = kept-state j l.in_range_lem l.is_kept;
              same = class_p good j i l.in_range_lem l.alike;
              lower =
                  le_same _ _ _ _ (margin-in t j l.in_range_lem kept marked) (margin-in t i h kept marked)
                  (class_margin good j i l.in_range_lem l.alike (le_same _ _ _ _ (sym (ram_at_lem t j l.in_range_lem)) (sym (ram_at_lem t i h)) (l.lowest i h (shifted_row i))));
            };
      }
    where
      shifted_row : (i : ℕ) → shifted (factors_at t i) (factors_at t i) ≡ true
      shifted_row i = shifted_self (factors_at t i)

-- ---- the rows in another order
module _ {t t' : Table} (o : Reordered t t') where
  same_rows : t'.header.rows ≡ t.header.rows
  same_rows = ap (λ (h : Header). h.rows) o.header

  ram-moved : (i : ℕ) → i < t.header.rows → ram_at t' i ≡ ram_at t (o.row i)
  unfolding ram_at
  ram-moved i h = rw (o.records i h, o.factors i h, o.nets, o.borders, o.header)

  wide-moved : (i : ℕ) → i < t.header.rows → unshortened (standings_of t').states i ≡ unshortened (standings_of t).states (o.row i)
  unfolding unshortened
  wide-moved i h =
      ap zero_or_two (state-at t' i (omega (arith, same_rows)))
      ∙ wide_is t' (rams_of t') i
      ∙ ap (λ (fs : List ℤ). not (lt_z (spread_of fs) (pos spread_least))) (o.factors i h)
      ∙ sym (wide_is t (rams_of t) (o.row i))
      ∙ ap zero_or_two (sym (state-at t (o.row i) (o.row_below i h)))

  p-moved : (i b : ℕ) → i < t.header.rows → p_of (factors_at t' i) (border_at t' b) ≡ p_of (factors_at t (o.row i)) (border_at t b)
  p-moved i b h = rw (o.factors i h, o.borders)

  margin-moved : (i : ℕ) → i < t.header.rows → margin_of t' i ≡ margin_of t (o.row i)
  margin-moved i h = rw (ram-moved i h, o.factors i h, o.borders, o.allocated, o.header)

  module _ (marked : ℕ → Bool) where
    abbrev at_first : (i : ℕ) → ℤ
    at_first i = (setup_of unshortened marked t).margin i

    abbrev at_second : (i : ℕ) → ℤ
    at_second i = (setup_of unshortened marked t').margin i

    starts-moved : (i : ℕ) → i < t.header.rows → at_second i ≡ at_first (o.row i)
    starts-moved i h =
        margin-in t' i (omega (arith, same_rows)) unshortened marked ∙ margin-moved i h ∙ sym (margin-in t (o.row i) (o.row_below i h) unshortened marked)

    pub moved : Alike (setup_of unshortened marked t) (setup_of unshortened marked t')
    unfolding setup_with
    moved =
        record {
          borders = ap (λ (h : Header). h.borders) o.header;
          marked = λ b h. refl;
          from = λ b h. rw (o.header, o.borders);
          strict = ap (λ (h : Header). not (is_intraday h)) o.header;
          there = λ i h k.
              let j = o.place i in
              let hj : j < t.header.rows = o.place_below i h in
              let e : o.row j ≡ i = o.there i h in
              record {
                row = j;
                below = omega (arith, same_rows, hj);
                takes = wide-moved j hj ∙ ap (unshortened (standings_of t).states) e ∙ k;
                same = λ b hb. p-moved j b hj ∙ ap (λ (x : ℕ). p_of (factors_at t x) (border_at t b)) e;
                lower = le_same (at_first i) (at_second j) (at_first i) (at_first i) (starts-moved j hj ∙ ap at_first e) refl (≤ℤ_refl (at_first i));
              };
          back = λ i h k.
              let hi : i < t.header.rows = omega (arith, same_rows) in
              record {
                row = o.row i;
                below = o.row_below i hi;
                takes = sym (wide-moved i hi) ∙ k;
                same = λ b hb. sym (p-moved i b hi);
                lower = le_same (at_second i) (at_first (o.row i)) (at_second i) (at_second i) (sym (starts-moved i hi)) refl (≤ℤ_refl (at_second i));
              };
        }
