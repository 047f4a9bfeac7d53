-- The laws of `specs/Good.antt`: what judging lent tables gives (`judged-front`, `judged-good`, `told-judged`, `told-good`), and that a good table in front of lent tables is what they are judged to be
-- (`front-judged`, `good-judged`, `over-judged`).
-- Row i's factors are its stretch, so factor k of the whole table is factor k % zones of row k / zones. No contract cites this file.
use Rattle.std.specs.Prelude.{Err, Ok, None, Option}
use Rattle.refusals.specs.Refusals.{Ruling}
use mathlib.Core.Path.{◌≡◌, sym, ap, subst, ◌∙◌}
use mathlib.Core.Bool.{true, false, not, and-eq-true_iff}
use mathlib.Core.List.{List, []}
use Prim.Native.Nat.{ℕ, suc, ◌+◌, ◌*◌, ◌/◌, ◌%◌, ◌≤◌, ◌<◌}
use native.Mathlib.Nat.{div-add-mod', div-lt_iff_lt-mul, mod-lt, mul-le-mul_right, suc-mul}
use native.Mathlib.Omega.{arith}
use lib.IntN.{ℤ, pos}
use lib.ListN.{length, get_or, drop, length-append, length-drop}
use lib.Seq.{length-take-le, take_all, take_at, get_or-take, get_or-drop}
use borrow.Author.Tests.{not-false}
use Rattle.numbers.specs.Below.{over}
use Rattle.refusals.specs.declared.Refusal.{Refusal}
use Rattle.refusals.specs.Answers.{said_judgement}
use Rattle.refusals.proofs.RefusalLaws.{passed_is, none_passed, then_passed, unless_passed, unless_ok, none_next, then_next}
use Rattle.types.specs.Ranges.{at_ℤ, header_fits, allocated_items, row_tests, row_fits, factor_fits, factor_tests}
use Rattle.types.specs.declared.Header.{Header}
use Rattle.types.proofs.AllLaws.{all_join, factors_each, factors_all}
use Rattle.types.proofs.RangeLaws.{header_in_lem}
use Rattle.tablerules.specs.Table.{Table, lent, stretch, factors_at, twice, not_twice, row_good, front, in_range, judge_shape, room_for_p, judge_records, judge_for, judge_lent}
use Rattle.tablerules.specs.Good.{Exact, Good, GoodIn}
use Rattle.tablerules.proofs.RoomLaws.{Enough, room_enough, p_room_left}
use Rattle.tablerules.proofs.JudgeLaws.{shape_front}

-- ---- stretches
module _ (zones rows : ℕ) (factors : List ℤ) (long : length factors ≡ rows * zones) where
  pub stretch_long : (i : ℕ) → i < rows → length (stretch zones factors i) ≡ zones
  unfolding stretch
  stretch_long i h = length-take-le zones (drop (i * zones) factors) (rw length-drop (omega (arith, suc-mul i zones, mul-le-mul_right {m = suc i} {n = rows} zones h)))

pub stretch_at : (zones : ℕ) (factors : List ℤ) (i z : ℕ) → z < zones → at_ℤ (stretch zones factors i) z ≡ at_ℤ factors (i * zones + z)
unfolding stretch
stretch_at zones factors i z h = get_or-take zones (drop (i * zones) factors) z (pos 0) h ∙ get_or-drop (i * zones) factors z (pos 0)

-- a row record with its factors is in range: the record is, and each factor
module _ (values factors : List ℤ) where
  pub row_good_lem : row_good values factors ≡ true → (row_fits values ≡ true) × ((z : ℕ) → z < length factors → factor_fits (at_ℤ factors z) ≡ true)
  unfolding row_fits
  row_good_lem e =
      let a = (and-eq-true_iff _ _).0 (sym (all_join (row_tests values) (factor_tests factors)) ∙ e) in
      (a.0, factors_each factors a.1)

  pub good_row : row_fits values ≡ true → ((z : ℕ) → z < length factors → factor_fits (at_ℤ factors z) ≡ true) → row_good values factors ≡ true
  unfolding row_fits
  good_row a h = all_join (row_tests values) (factor_tests factors) ∙ (and-eq-true_iff _ _).1 (a, factors_all factors h)

-- factors in range row by row, and all at once
module _ (zones rows : ℕ) (factors : List ℤ) (long : length factors ≡ rows * zones) (some : 0 < zones) where
  pub flat_fit : ((i : ℕ) → i < rows → (z : ℕ) → z < length (stretch zones factors i) → factor_fits (at_ℤ (stretch zones factors i) z) ≡ true)
      → (k : ℕ) → k < rows * zones → factor_fits (at_ℤ factors k) ≡ true
  flat_fit h k l =
      let i : k / zones < rows = (div-lt_iff_lt-mul {k = zones} {x = k} {y = rows} some).1 l in
      let z : k % zones < zones = mod-lt k some in
      subst (λ (j : ℕ). factor_fits (at_ℤ factors j) ≡ true) (div-add-mod' k zones)
      (subst (λ (f : ℤ). factor_fits f ≡ true) (stretch_at zones factors (k / zones) (k % zones) z)
      (h (k / zones) i (k % zones) (rw (stretch_long zones rows factors long (k / zones) i) z)))

  pub row_fit : ((k : ℕ) → k < rows * zones → factor_fits (at_ℤ factors k) ≡ true) → (i : ℕ) → i < rows → (z : ℕ) → z < zones → factor_fits (at_ℤ (stretch zones factors i) z) ≡ true
  row_fit h i l z m =
      rw (stretch_at zones factors i z m) (h (i * zones + z) (omega (arith, suc-mul i zones, mul-le-mul_right {m = suc i} {n = rows} zones l)))

-- ---- judging gives a good table, the front of what was lent
pub records_good : (u t : Table) → Exact u → judge_records u ≡ Ok t → (t ≡ u) × Good u
records_good u t exact e =
    let w = then_passed (in_range u) not_twice t e in
    let z = none_passed _ _ _ _ w.it w.first in
    let a = none_passed _ _ _ _ w.it z.1 in
    let s = unless_passed w.it _ _ _ a.1 in
    let b = none_passed _ _ _ _ w.it s.1 in
    let c = none_passed _ _ _ _ w.it b.1 in
    let i : u ≡ w.it = passed_is _ _ c.1 in
    let f = none_passed _ _ _ _ t w.second in
    let h = header_in_lem u.header exact.header in
    let rows : (i : ℕ) → i < u.header.rows → row_good (get_or u.rows i []) (factors_at u i) ≡ true = λ i l. not-false _ (c.0 i l) in (
      sym (i ∙ passed_is _ _ f.1),
      record {
        exact = exact;
        nets_fit = λ i l. not-false _ (z.0 i l);
        allocated_fit = λ i l. not-false _ (a.0 i l);
        in_balance = s.0;
        borders_fit = λ i l. not-false _ (b.0 i l);
        rows_fit = λ i l. (row_good_lem (get_or u.rows i []) (factors_at u i) (rows i l)).0;
        factors_fit = flat_fit u.header.zones u.header.rows u.factors exact.factors_long (omega (arith, h.zones_least_lem)) (λ i l. (row_good_lem (get_or u.rows i []) (factors_at u i) (rows i l)).1);
        once = subst (λ (v : Table). (b : ℕ) → b < v.header.borders → twice v.borders b ≡ false) (sym i) f.0;
      },
    )

judged : (room : Option ℕ) (given t : Table) → judge_for room given ≡ Ok t → (t ≡ front given) × Good (front given)
unfolding judge_for
judged room given t e =
    let w = then_passed (judge_shape given) _ t e in
    let s = shape_front given w.it w.first in
    let r : room_for_p room given.header (judge_records (front given)) ≡ Ok t = ap (λ (u : Table). room_for_p room u.header (judge_records u)) (sym s.0) ∙ w.second in
    records_good (front given) t s.1 (p_room_left room given.header _ t r)

pub judged_front : (given t : Table) → judge_lent given ≡ Ok t → t ≡ front given
judged_front given t e = (judged None given t e).0

pub judged_good : (given t : Table) → judge_lent given ≡ Ok t → Good t
judged_good given t e = let j = judged None given t e in subst Good (sym j.0) j.1

-- the front is good, from the answer of a call that judged the tables
pub told_judged : (room : Option ℕ) (given : Table) (r : Ruling) → said_judgement r (front given) ≡ judge_for room given → r ≡ (Ok tt) → judge_for room given ≡ Ok (front given)
told_judged room given r said e = sym said ∙ ap (λ (j : Ruling). said_judgement j (front given)) e

pub told_good : (given : Table) {r : Ruling} → GoodIn r given → r ≡ (Ok tt) → Good (front given)
told_good given g e = subst (λ (j : Ruling). GoodIn j given) e g

-- what `judge` promises of its own answers
pub refused_in : (given : Table) {r : Ruling} (w : Refusal) → r ≡ Err w → GoodIn r given
refused_in given w e = subst (λ (j : Ruling). GoodIn j given) (sym e) tt

pub records_in : (given : Table) → Exact (front given) → (r : Ruling) → said_judgement r (front given) ≡ judge_records (front given) → GoodIn r given
records_in given exact (Ok tt) said = (records_good (front given) (front given) exact (sym said)).1
records_in given exact (Err w) said = tt

-- ---- a good table is judged to be itself
lent_is : (h : Header) (z z' t t' : List ℤ) (b b' c c' : List (List ℤ)) (f f' : List ℤ) → z ≡ z' → t ≡ t' → b ≡ b' → c ≡ c' → f ≡ f' → lent h z t b c f ≡ lent h z' t' b' c' f'
lent_is h z z' t t' b b' c c' f f' p o q r s = cc

over_long : {A : Type 0} (new old : List A) (n : ℕ) → length new ≡ n → n ≤ length (over new old)
over_long new old n e = omega (arith, length-append new (drop (length new) old))

module _ (t : Table) (g : Good t) where
  front_same : front t ≡ t
  front_same =
      lent_is t.header _ _ _ _ _ _ _ _ _ _
      (take_all t.header.zones t.nets (omega (arith, g.exact.nets_long)))
      (take_all (allocated_items t.header) t.allocated (omega (arith, g.exact.allocated_long)))
      (take_all t.header.borders t.borders (omega (arith, g.exact.borders_long)))
      (take_all t.header.rows t.rows (omega (arith, g.exact.rows_long)))
      (take_all (t.header.rows * t.header.zones) t.factors (omega (arith, g.exact.factors_long)))

  in_range_lem : in_range t ≡ Ok t
  in_range_lem =
      let h = header_in_lem t.header g.exact.header in
      none_next _ _ _ _ (λ i l. ap not (g.nets_fit i l))
      ∙ none_next _ _ _ _ (λ i l. ap not (g.allocated_fit i l))
      ∙ unless_ok _ _ g.in_balance
      ∙ none_next _ _ _ _ (λ i l. ap not (g.borders_fit i l))
      ∙ none_next _ _ _ _ (λ i l. ap not (good_row (get_or t.rows i []) (factors_at t i) (g.rows_fit i l)
      (λ z m. row_fit t.header.zones t.header.rows t.factors g.exact.factors_long (omega (arith, h.zones_least_lem)) g.factors_fit i l z
      (rw (stretch_long t.header.zones t.header.rows t.factors g.exact.factors_long i l) at m))))

  -- lent tables whose front is a good table are judged to be it
  pub front_judged : (given : Table) → front given ≡ t → Enough given.header (length given.nets) (length given.allocated) (length given.borders) (length given.rows) (length given.factors) → judge_lent given ≡ Ok t
  unfolding judge_for judge_shape
  front_judged given is n =
      then_next judge_records
      (unless_ok _ _ (subst (λ (u : Table). header_fits u.header ≡ true) (sym is) g.exact.header)
      ∙ sym (room_enough _ _ _ _ _ _ _ n.zones n.allocated n.borders n.rows n.factors)
      ∙ ap Ok is)
      ∙ then_next not_twice in_range_lem
      ∙ none_next _ _ _ _ g.once

  pub good_judged : judge_lent t ≡ Ok t
  good_judged =
      front_judged t front_same
      (record {
        zones = omega (arith, g.exact.nets_long);
        allocated = omega (arith, g.exact.allocated_long);
        borders = omega (arith, g.exact.borders_long);
        rows = omega (arith, g.exact.rows_long);
        factors = omega (arith, g.exact.factors_long);
      })

  -- a good table written over lent buffers is judged to be itself
  pub over_judged : (z a : List ℤ) (b c : List (List ℤ)) (f : List ℤ) → judge_lent (lent t.header (over t.nets z) (over t.allocated a) (over t.borders b) (over t.rows c) (over t.factors f)) ≡ Ok t
  over_judged z a b c f =
      front_judged (lent t.header (over t.nets z) (over t.allocated a) (over t.borders b) (over t.rows c) (over t.factors f))
      (lent_is t.header _ _ _ _ _ _ _ _ _ _
      (take_at t.nets _ _ g.exact.nets_long)
      (take_at t.allocated _ _ g.exact.allocated_long)
      (take_at t.borders _ _ g.exact.borders_long)
      (take_at t.rows _ _ g.exact.rows_long)
      (take_at t.factors _ _ g.exact.factors_long))
      (record {
        zones = over_long t.nets z _ g.exact.nets_long;
        allocated = over_long t.allocated a _ g.exact.allocated_long;
        borders = over_long t.borders b _ g.exact.borders_long;
        rows = over_long t.rows c _ g.exact.rows_long;
        factors = over_long t.factors f _ g.exact.factors_long;
      })
