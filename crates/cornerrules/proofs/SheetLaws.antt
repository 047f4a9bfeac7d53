-- The laws of `specs/Corners.antt`'s `judge_corner_sheet`, `sheet_left`, `judge_corners` and `corners_left`: which test decides, and what a call leaves.
-- No contract cites this file.
use Rattle.std.specs.Prelude.{Err, Ok, None}
use mathlib.Core.Path.{◌≡◌, sym, ap, ap₂, subst, ◌∙◌}
use mathlib.Core.List.{List}
use Prim.Native.Nat.{ℕ, ◌^◌, ◌≤◌, ◌<◌}
use native.Mathlib.Omega.{arith}
use borrow.Author.Tests.{leb-true, lt-ltb, le-ltb, le-leb, lt-leb, ltb-true}
use lib.IntN.{ℤ}
use lib.ListN.{length}
use Rattle.numbers.specs.Below.{over}
use Rattle.refusals.specs.declared.Refusal.{Refusal}
use Rattle.refusals.specs.Answers.{said_judgement}
use Rattle.refusals.specs.Refusals.{Judged, too_short, no_corners, Ruling}
use Rattle.refusals.proofs.RefusalLaws.{passed_is, then_passed, then_next, then_refused, either_passed, either_refused, unless_passed, unless_ok, unless_refused, need_enough, need_short}
use Rattle.tablerules.specs.Table.{Table, front, factors_at, judge_lent}
use Rattle.tablerules.specs.Good.{Good}
use Rattle.tablerules.proofs.GoodLaws.{judged_good, told_judged}
use Rattle.cornerrules.specs.Corners.{sheet_borders_most, part_of, flows_of, judge_corner_sheet, judge_corners, flows_left, sheet_left, corners_left}
use Rattle.cornerrules.specs.Listed.{FlowsListed}
use Rattle.cornerrules.proofs.CornerLaws.{flows_length}

-- ---- what is known of a table that has a sheet for a row
pub record Sheet (t : Table) (row : ℕ) : Type 0 where
  pub good : Good t
  pub few : t.header.borders ≤ sheet_borders_most
  pub has : row < t.header.rows

pub flows_long : {t : Table} {row : ℕ} → Sheet t row → length (flows_of (factors_at t row) t.borders) ≡ 2 ^ t.header.borders
flows_long {t} {row} s = flows_length (part_of (factors_at t row) t.borders) (length t.borders) ∙ ap (λ (n : ℕ). 2 ^ n) s.good.exact.borders_long

-- ---- judge_corner_sheet: which test decides
module _ (t : Table) (row : ℕ) where
  pub borders_refused : sheet_borders_most < t.header.borders → judge_corner_sheet t row ≡ Err (no_corners t.header.borders)
  borders_refused h = unless_refused _ _ (lt-leb _ _ h)

  pub row_refused : t.header.borders ≤ sheet_borders_most → t.header.rows ≤ row → judge_corner_sheet t row ≡ Err (no_corners row)
  row_refused few h = unless_ok _ _ (le-leb _ _ few) ∙ unless_refused _ _ (le-ltb _ _ h)

  pub sheet_passed : Sheet t row → judge_corner_sheet t row ≡ Ok t
  sheet_passed s = unless_ok _ _ (le-leb _ _ s.few) ∙ unless_ok _ _ (lt-ltb _ _ s.has)

  pub passed_sheet : Good t → (u : Table) → judge_corner_sheet t row ≡ Ok u → Sheet u row
  passed_sheet good u e =
      let q = unless_passed u _ _ _ e in
      let s = unless_passed u _ _ _ q.1 in
      subst (λ (v : Table). Sheet v row) (passed_is _ _ s.1) (record { good = good; few = leb-true _ _ q.0; has = ltb-true _ _ s.0 })

-- ---- sheet_left, by what the judging comes to
module _ (judged : Judged Table) (row : ℕ) (out : List ℤ) where
  pub sheet_refused : (w : Refusal) → judged ≡ Err w → sheet_left judged row out ≡ flows_left (Err w) out
  unfolding sheet_left
  sheet_refused w e = either_refused _ _ (then_refused _ e)

  module _ (t : Table) (e : judged ≡ Ok t) (s : Sheet t row) where
    abbrev flows : List ℤ
    flows = flows_of (factors_at t row) t.borders

    pub sheet_short : (needed : ℕ) → needed ≡ 2 ^ t.header.borders → length out < needed → sheet_left judged row out ≡ flows_left (Err (too_short needed)) out
    unfolding sheet_left
    sheet_short needed n h =
        let m : length flows ≡ needed = flows_long s ∙ sym n in
        either_refused _ _ (then_next _ e ∙ need_short _ (length flows) (length out) (omega arith))
        ∙ ap (λ (k : ℕ). flows_left (Err (too_short k)) out) m

    pub sheet_all : 2 ^ t.header.borders ≤ length out → sheet_left judged row out ≡ flows_left (Ok (length flows)) (over flows out)
    unfolding sheet_left
    sheet_all h = either_passed _ _ (then_next _ e ∙ need_enough _ (length flows) (length out) (omega (arith, flows_long s)))

    pub sheet_listed : 2 ^ t.header.borders ≤ length out → {count : ℕ} {out' : List ℤ} → FlowsListed flows out count out' → flows_left (Ok count) out' ≡ sheet_left judged row out
    sheet_listed h l = ap₂ (λ (k : ℕ) (o : List ℤ). flows_left (Ok k) o) l.counted l.wrote ∙ sym (sheet_all h)

-- ---- judge_corners and corners_left: the table's own judging, and then the sheet of the front
pub judged_sheet : (given : Table) (row : ℕ) (t : Table) → judge_corners given row ≡ Ok t → Sheet t row
unfolding judge_corners
judged_sheet given row t e =
    let p = then_passed (judge_lent given) _ t e in
    passed_sheet p.it row (judged_good given p.it p.first) t p.second

module _ (given : Table) (row : ℕ) (r : Ruling) (said : said_judgement r (front given) ≡ judge_lent given) where
  pub corners_refused : (w : Refusal) → r ≡ Err w → (out : List ℤ) → flows_left (Err w) out ≡ corners_left given row out
  unfolding judge_corners corners_left
  corners_refused w e out = sym (sheet_refused _ row out w (then_refused _ (sym said ∙ ap (λ (j : Ruling). said_judgement j (front given)) e)))

  -- lent tables that were judged good have the sheet of their front
  pub corners_passed : r ≡ (Ok tt) → judge_corner_sheet (front given) row ≡ judge_corners given row
  unfolding judge_corners
  corners_passed ok = sym (then_next _ (told_judged None given r said ok))

  pub corners_left_lem : r ≡ (Ok tt) → (out : List ℤ) → sheet_left (judge_corner_sheet (front given) row) row out ≡ corners_left given row out
  unfolding corners_left
  corners_left_lem ok out = ap (λ (j : Judged Table). sheet_left j row out) (corners_passed ok)
