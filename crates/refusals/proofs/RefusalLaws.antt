-- The laws of `specs/Refusals.antt`: what is known where a chain of judgements has passed, and what one judgement comes to. No contract cites this file.
-- In order: `Judged`; `then` and `either`; `unless`; `refuse_first`; `need`. `-passed` opens a chain that passed, the others take a step of one.
use Rattle.std.specs.Prelude.{Err, None, Ok, Option, Some}
use mathlib.Core.Path.{◌≡◌, refl, sym, subst, ◌∙◌}
use mathlib.Core.Bool.{Bool, true, false, cond}
use Prim.Native.Nat.{ℕ, ◌≤◌, ◌<◌}
use borrow.Author.Tests.{ltb-false, lt-ltb, le-ltb}
use lib.Dec.{ltb}
use Rattle.numbers.specs.Below.{first_from}
use Rattle.numbers.proofs.BelowLaws.{first_none, first_nothing}
use Rattle.refusals.specs.declared.Refusal.{Refusal}
use Rattle.refusals.specs.Refusals.{too_short, Judged, then, either, unless, refuse_at, refuse_first, need}

-- ---- Judged

pub passed_is : {A : Type 0} (a b : A) → ◌≡◌ {A = Judged A} (Ok a) (Ok b) → a ≡ b
passed_is a b e = cc

pub refused_is : {A : Type 0} (w v : Refusal) → ◌≡◌ {A = Judged A} (Err w) (Err v) → w ≡ v
refused_is w v e = cc

pub not_passed : {A : Type 0} (w : Refusal) (a : A) → ◌≡◌ {A = Judged A} (Err w) (Ok a) → ⊥
not_passed {A} w a e = subst (λ (j : Judged A). is j) e tt
  where
    is : Judged A → Type 0
    is (Ok a) = ⊥
    is (Err w) = Unit {0}

-- ---- then, either

pub record Then {A B : Type 0} (j : Judged A) (next : A → Judged B) (b : B) : Type 0 where
  pub it : A
  pub first : j ≡ Ok it
  pub second : next it ≡ Ok b

module _ {A B : Type 0} where
  pub then_passed : (j : Judged A) (next : A → Judged B) (b : B) → then j next ≡ Ok b → Then j next b
  unfolding then
  then_passed (Ok a) next b e = record { it = a; first = refl; second = e }
  then_passed (Err w) next b e = absurd (not_passed w b e)

  pub then_next : {j : Judged A} {a : A} (next : A → Judged B) → j ≡ Ok a → then j next ≡ next a
  unfolding then
  then_next next e = rw e

  pub then_refused : {j : Judged A} {w : Refusal} (next : A → Judged B) → j ≡ Err w → then j next ≡ Err w
  unfolding then
  then_refused next e = rw e

  pub either_passed : {j : Judged A} {a : A} (yes_of : A → B) (no_of : Refusal → B) → j ≡ Ok a → either j yes_of no_of ≡ yes_of a
  unfolding either
  either_passed yes_of no_of e = rw e

  pub either_refused : {j : Judged A} {w : Refusal} (yes_of : A → B) (no_of : Refusal → B) → j ≡ Err w → either j yes_of no_of ≡ no_of w
  unfolding either
  either_refused yes_of no_of e = rw e

-- what a call leaves of a judgement: an answer that passed came from what passed
pub answer_passed : {A B C : Type 0} (j : Judged A) (yes_of : A → B) (no_of : Refusal → B) (answer : B → Judged C) (c : C) → ((w : Refusal) → answer (no_of w) ≡ Err w)
    → answer (either j yes_of no_of) ≡ Ok c → (a : A) × (j ≡ Ok a) × (answer (yes_of a) ≡ Ok c)
unfolding either
answer_passed (Ok a) yes_of no_of answer c h e = (a, refl, e)
answer_passed (Err w) yes_of no_of answer c h e = absurd (not_passed w c (sym (h w) ∙ e))

-- ---- unless, refuse_first, need

module _ {A : Type 0} (a : A) where
  pub unless_passed : (ok : Bool) (w : Refusal) (next : Judged A) → unless ok w next ≡ Ok a → (ok ≡ true) × (next ≡ Ok a)
  unfolding unless
  unless_passed true w next e = (refl, e)
  unless_passed false w next e = absurd (not_passed w a e)

  at-passed : (o : Option ℕ) (w : ℕ → Refusal) (next : Judged A) → refuse_at o w next ≡ Ok a → (o ≡ None) × (next ≡ Ok a)
  unfolding refuse_at
  at-passed None w next e = (refl, e)
  at-passed (Some i) w next e = absurd (not_passed (w i) a e)

  pub first_passed : (n : ℕ) (faulty : ℕ → Bool) (w : ℕ → Refusal) (next : Judged A) → refuse_first n faulty w next ≡ Ok a → (first_from n 0 faulty ≡ None) × (next ≡ Ok a)
  unfolding refuse_first
  first_passed n faulty w next e = at-passed (first_from n 0 faulty) w next e

  pub need_passed : (n has : ℕ) (next : Judged A) → need n has next ≡ Ok a → (n ≤ has) × (next ≡ Ok a)
  unfolding need
  need_passed n has next e = go (ltb has n) refl e
    where
      go : (t : Bool) → ltb has n ≡ t → cond t (Err (too_short n)) next ≡ Ok a → (n ≤ has) × (next ≡ Ok a)
      go true q e = absurd (not_passed (too_short n) a e)
      go false q e = (ltb-false has n q, e)

module _ {A : Type 0} (next : Judged A) where
  pub unless_ok : {ok : Bool} (w : Refusal) → ok ≡ true → unless ok w next ≡ next
  unfolding unless
  unless_ok w e = rw e

  pub unless_refused : {ok : Bool} (w : Refusal) → ok ≡ false → unless ok w next ≡ Err w
  unfolding unless
  unless_refused w e = rw e

  pub first_none_next : (n : ℕ) (faulty : ℕ → Bool) (w : ℕ → Refusal) → first_from n 0 faulty ≡ None → refuse_first n faulty w next ≡ next
  unfolding refuse_first refuse_at
  first_none_next n faulty w e = rw e

  pub first_found : (n : ℕ) (faulty : ℕ → Bool) (w : ℕ → Refusal) {i : ℕ} → first_from n 0 faulty ≡ Some i → refuse_first n faulty w next ≡ Err (w i)
  unfolding refuse_first refuse_at
  first_found n faulty w e = rw e

  pub need_enough : (n has : ℕ) → n ≤ has → need n has next ≡ next
  unfolding need
  need_enough n has h = rw (le-ltb has n h)

  pub need_short : (n has : ℕ) → has < n → need n has next ≡ Err (too_short n)
  unfolding need
  need_short n has h = rw (lt-ltb has n h)

-- ---- refuse_first, by what holds of each index
module _ {A : Type 0} (n : ℕ) (faulty : ℕ → Bool) (w : ℕ → Refusal) (next : Judged A) where
  pub none_passed : (a : A) → refuse_first n faulty w next ≡ Ok a → ((i : ℕ) → i < n → faulty i ≡ false) × (next ≡ Ok a)
  none_passed a e = let f = first_passed a n faulty w next e in (first_none n faulty f.0, f.1)

  pub none_next : ((i : ℕ) → i < n → faulty i ≡ false) → refuse_first n faulty w next ≡ next
  none_next h = first_none_next next n faulty w (first_nothing n faulty h)
