-- The laws of `specs/Marks.antt`: a judgement of marks hands on what comes next, and flags say which borders may rise. No contract cites this file.
use Rattle.std.specs.Prelude.{Err, IsTrue, None, Ok, Option, Some, ◌↔◌}
use Rattle.std.specs.List.{Contains}
use Rattle.std.proofs.lemmas.List.{get_or_default}
use mathlib.Core.Path.{◌≡◌, refl, sym, ap, ◌∙◌}
use mathlib.Core.Bool.{Bool, true, false, cond, not, false≢true}
use mathlib.Core.List.{List}
use Prim.Native.Nat.{ℕ, ◌+◌, ◌≤◌, ◌<◌}
use native.Mathlib.Omega.{arith}
use borrow.Author.Tests.{lt-ltb, le-ltb, eq-eqb, eqb-true}
use lib.Dec.{ltb, eqb}
use lib.ListN.{length, take}
use lib.Seq.{get_or-take, length-take-le}
use Rattle.numbers.specs.Below.{at, first_from, given, some_below}
use Rattle.numbers.proofs.BelowLaws.{first_none, first_cong, table_get}
use Rattle.numbers.proofs.FirstLaws.{first_within, first_holds}
use Rattle.refusals.specs.Refusals.{Judged, then, unless, refuse_at, refuse_first, bad_mark}
use Rattle.refusals.proofs.RefusalLaws.{unless_passed, unless_ok, unless_refused, first_found, first_none_next, none_passed}
use Rattle.marks.specs.Marks.{faulty_mark, judge_marks, judge_asked, may_rise, flag_of, flags_of, flagged}

-- ---- whether a list has a mark, as `contains` answers it
module _ (xs : List ℕ) (b : ℕ) where
  no-such : first_from (length xs) 0 (λ k. eqb (at xs k) b) ≡ None → Contains xs b → ⊥
  no-such e (k, h, same) = false≢true (sym (first_none (length xs) _ e k h) ∙ eq-eqb _ _ (get_or_default xs k 0 b h ∙ same))

  pub contained : (r : Bool) → (IsTrue r ↔ Contains xs b) → r ≡ some_below (length xs) (λ k. eqb (at xs k) b)
  unfolding given
  contained r h = go r h (first_from (length xs) 0 (λ k. eqb (at xs k) b)) refl
    where
      go : (r : Bool) → (IsTrue r ↔ Contains xs b) → (o : Option ℕ) → first_from (length xs) 0 (λ k. eqb (at xs k) b) ≡ o → r ≡ given o
      go true h None e = absurd (no-such e (h.0 refl))
      go true h (Some k) e = refl
      go false h None e = refl
      go false h (Some k) e = absurd (false≢true (h.1 (k, first_within (length xs) _ (sym e), get_or_default xs k b 0 (first_within (length xs) _ (sym e)) ∙ eqb-true _ _ (first_holds (length xs) _ (sym e)))))

-- the same of the first k marks
pub contained_front : (xs : List ℕ) (k b : ℕ) (r : Bool) → k ≤ length xs → (IsTrue r ↔ Contains (take k xs) b) → r ≡ some_below k (λ e. eqb (at xs e) b)
contained_front xs k b r h has =
    let long : length (take k xs) ≡ k = length-take-le _ _ h in
    contained (take k xs) b r has
    ∙ ap (λ (n : ℕ). some_below n (λ e. eqb (at (take k xs) e) b)) long
    ∙ ap given (first_cong k _ _ (λ e l. ap (λ (v : ℕ). eqb v b) (get_or-take k xs e 0 l)))

-- ---- what comes next, after marks that were judged
pub asked_then : {A B : Type 0} (all : Bool) (borders : ℕ) (marks : List ℕ) (a : A) (next : Judged B) → then (judge_asked all borders marks (Ok a)) (λ a. next) ≡ judge_asked all borders marks next
unfolding judge_marks refuse_first then unless refuse_at
asked_then {A} {B} all borders marks a next = go all (ltb 0 (length marks)) (first_from (length marks) 0 (faulty_mark borders marks))
  where
    go : (all some-mark : Bool) (o : Option ℕ)
        → then (cond all (Ok a) (unless some-mark (bad_mark 0) (refuse_at o (λ k. bad_mark (k + 1)) (Ok a)))) (λ a. next) ≡ cond all next (unless some-mark (bad_mark 0) (refuse_at o (λ k. bad_mark (k + 1)) next))
    go true m o = refl
    go false false o = refl
    go false true (Some k) = refl
    go false true None = refl

-- ---- which judgement decides
module _ {A : Type 0} (borders : ℕ) (marks : List ℕ) (next : Judged A) where
  pub none_given : length marks ≡ 0 → Err (bad_mark 0) ≡ judge_marks borders marks next
  unfolding judge_marks
  none_given e = sym (unless_refused _ _ (le-ltb 0 (length marks) (omega arith)))

  module _ (some-mark : 0 < length marks) where
    past-none : judge_marks borders marks next ≡ refuse_first (length marks) (faulty_mark borders marks) (λ k. bad_mark (k + 1)) next
    unfolding judge_marks
    past-none = unless_ok _ _ (lt-ltb 0 (length marks) some-mark)

    pub mark_faulty : {k : ℕ} → Some k ≡ first_from (length marks) 0 (faulty_mark borders marks) → Err (bad_mark (k + 1)) ≡ judge_marks borders marks next
    mark_faulty e = sym (past-none ∙ first_found _ _ _ (λ k. bad_mark (k + 1)) (sym e))

    pub marks_good : None ≡ first_from (length marks) 0 (faulty_mark borders marks) → next ≡ judge_marks borders marks next
    marks_good e = sym (past-none ∙ first_none_next _ _ _ _ (sym e))

-- no mark is faulty, of those that passed
pub marks_passed : {A : Type 0} (borders : ℕ) (marks : List ℕ) (next : Judged A) (a : A) → judge_marks borders marks next ≡ Ok a → ((k : ℕ) → k < length marks → faulty_mark borders marks k ≡ false) × (next ≡ Ok a)
unfolding judge_marks
marks_passed borders marks next a e = none_passed _ _ _ _ a (unless_passed a _ _ _ e).1

pub asked_passed : {A : Type 0} (all : Bool) (borders : ℕ) (marks : List ℕ) (next : Judged A) (a : A) → judge_asked all borders marks next ≡ Ok a → next ≡ Ok a
asked_passed true borders marks next a e = e
asked_passed false borders marks next a e = (marks_passed borders marks next a e).1

-- ---- flags
flag_told : (m : Bool) → not (eqb (cond m 1 0) 0) ≡ m
flag_told true = refl
flag_told false = refl

-- the flags of the first borders, out of the flags of the most borders
pub flags_tell : (all : Bool) (marks : List ℕ) {flags : List ℕ} {most : ℕ} (borders : ℕ) → flags ≡ flags_of most all marks → borders ≤ most → (b : ℕ) → b < borders → flagged (take borders flags) b ≡ may_rise all marks b
unfolding flagged
flags_tell all marks {flags} {most} borders e h b l =
    ap (λ (v : ℕ). not (eqb v 0)) (get_or-take borders flags b 0 l ∙ ap (λ (fs : List ℕ). at fs b) e ∙ table_get most (flag_of all marks) b 0 (omega arith))
    ∙ flag_told (may_rise all marks b)
