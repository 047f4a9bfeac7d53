-- With all borders marked, in any order, the answer is the ordinary one (02, E13): a good list of as many marks as there are borders marks each of them, since no two
-- of its marks are the same.
use Rattle.std.specs.Prelude.{Err, Ok}
use mathlib.Core.Path.{◌≡◌, refl, sym, ap, subst, ◌∙◌}
use mathlib.Core.Bool.{Bool, true, false, cond, not, false≢true}
use mathlib.Core.List.{List, []}
use Prim.Native.Nat.{ℕ, zero, suc, ◌≤◌, ◌<◌}
use native.Mathlib.Omega.{arith}
use borrow.Author.Tests.{ltb-true, eq-eqb, not-false}
use lib.Dec.{ltb, eqb}
use lib.IntN.{ℤ}
use lib.ListN.{length}
use Rattle.numbers.specs.Below.{at, sum, some_below}
use Rattle.numbers.proofs.BelowLaws.{sum_cong, sum_strict}
use Rattle.numbers.proofs.TestLaws.{or_neither, some_false}
use Rattle.refusals.specs.Refusals.{Judged, then, either}
use Rattle.refusals.proofs.RefusalLaws.{then_next}
use Rattle.marks.specs.Marks.{marked_by, faulty_mark}
use Rattle.marks.proofs.MarkLaws.{asked_then, marks_passed}
use Rattle.tablerules.specs.Table.{Table}
use Rattle.tablerules.proofs.GoodLaws.{judged_front}
use Rattle.extractrules.specs.Start.{every}
use Rattle.extractrules.specs.Extraction.{Result, outcome_marked, outcome_of, outcome_for, judge_extract, leaves, result_room, result_stored, extract_for, extract_left, extract_marked_left}
use Rattle.extractrules.proofs.LentLaws.{judged_lent}
use Rattle.extractrules.proofs.MarkedLaws.{outcome_agree}
use Rattle.promises.specs.Marked.{AllMarked}
use Rattle.theorems.proofs.PlaceLaws.{sum_places}

-- ---- each border is marked
sum_ones : (n : ℕ) → sum n (λ k. 1) ≡ n
unfolding sum
sum_ones zero = refl
sum_ones (suc n) = omega (arith, sum_ones n)

-- 1 at every place but c
abbrev but : (c k : ℕ) → ℕ
but c k = cond (eqb k c) 0 1

but_le : (c k : ℕ) → but c k ≤ 1
but_le c k = go (eqb k c)
  where
    go : (t : Bool) → cond t 0 1 ≤ 1
    go true = omega arith
    go false = omega arith

but_here : (c : ℕ) → but c c ≡ 0
but_here c = rw (eq-eqb c c refl)

module _ (borders : ℕ) (marks : List ℕ) (good : (k : ℕ) → k < length marks → faulty_mark borders marks k ≡ false) where
  mark-below : (k : ℕ) → k < length marks → at marks k < borders
  unfolding faulty_mark
  mark-below k h = ltb-true (at marks k) borders (not-false (ltb (at marks k) borders) (or_neither _ _ (good k h)).0)

  marks-differ : (k e : ℕ) → e < k → k < length marks → at marks e ≡ at marks k → ⊥
  unfolding faulty_mark
  marks-differ k e l h q = false≢true (sym (some_false k (λ e. eqb (at marks e) (at marks k)) (or_neither (not (ltb (at marks k) borders)) _ (good k h)).1 e l) ∙ eq-eqb _ _ q)

  -- if no mark names a border, the marks are one too few
  none_left : length marks ≡ borders → (c : ℕ) → c < borders → ((k : ℕ) → k < length marks → eqb (at marks k) c ≡ false) → ⊥
  none_left n c h none =
      omega (
        arith,
        n,
        sum_places (length marks) borders (at marks) (but c) mark-below marks-differ,
        sum_cong (length marks) (λ k. but c (at marks k)) (λ k. 1) (λ k l. ap (λ (t : Bool). cond t 0 1) (none k l)),
        sum_ones (length marks),
        sum_strict borders (but c) (λ k. 1) (λ k l. but_le c k) c h (omega (arith, but_here c)),
        sum_ones borders,
      )

  every-mark : length marks ≡ borders → (b : ℕ) → b < borders → marked_by marks b ≡ true
  unfolding marked_by
  every-mark n b h = go (some_below (length marks) (λ k. eqb (at marks k) b)) refl
    where
      go : (t : Bool) → some_below (length marks) (λ k. eqb (at marks k) b) ≡ t → t ≡ true
      go true e = refl
      go false e = absurd (none_left n b h (some_false (length marks) (λ k. eqb (at marks k) b) e))

-- ---- the outcome of a table, and what the call leaves
pub all_marked_outcome : (marks : List ℕ) (t : Table) → AllMarked t.header.borders marks → outcome_for false marks t ≡ outcome_of t
unfolding outcome_for outcome_of
all_marked_outcome marks t all =
    let borders = t.header.borders in
    sym (asked_then false borders marks marks (outcome_marked (marked_by marks) t)) ∙ then_next _ all.good
    ∙ outcome_agree (marked_by marks) every t (every-mark borders marks (marks_passed borders marks (Ok marks) marks all.good).0 all.long)

-- every border, with no list
pub ordinary_outcome : (t : Table) → outcome_for true [] t ≡ outcome_of t
unfolding outcome_for outcome_of
ordinary_outcome t = refl

pub all_marked : (given : Table) (marks : List ℕ) → AllMarked given.header.borders marks → (ps : List ℕ) (atcs lefts : List (List ℤ))
    → extract_marked_left given marks ps atcs lefts ≡ extract_left given ps atcs lefts
unfolding extract_marked_left extract_left extract_for then
all_marked given marks all ps atcs lefts =
    ap (λ (j : Judged Result). either j (result_stored ps atcs lefts) (λ w. leaves (Err w) ps atcs lefts)) (go (judge_extract given (length ps)) refl)
  where
    go : (j : Judged Table) → judge_extract given (length ps) ≡ j → then j (λ t. then (outcome_for false marks t) (result_room atcs lefts)) ≡ then j (λ t. then (outcome_for true [] t) (result_room atcs lefts))
    go (Err w) e = refl
    go (Ok t) e =
        let front = judged_front given t (judged_lent given t (length ps) e) in
        ap (λ (o : Judged Result). then o (result_room atcs lefts)) (all_marked_outcome marks t (subst (λ (u : Table). AllMarked u.header.borders marks) (sym front) all) ∙ sym (ordinary_outcome t))
