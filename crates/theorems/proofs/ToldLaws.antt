-- What is true of the number of every refusal that a chain of judgements can tell, put together step by step. No contract cites this file.
use Rattle.std.specs.Prelude.{Err, None, Ok, Option, Some}
use mathlib.Core.Path.{◌≡◌, refl}
use mathlib.Core.Bool.{Bool, true, false, cond}
use Prim.Native.Nat.{ℕ}
use lib.Dec.{ltb}
use Rattle.numbers.specs.Below.{first_from}
use Rattle.refusals.specs.declared.Refusal.{Refusal}
use Rattle.refusals.specs.Refusals.{Judged, number_of, then, unless, refuse_at, refuse_first, need, too_short}

abbrev pub Says : {A : Type 0} → (P : ℕ → Type 0) → Judged A → Type 0
Says P (Ok a) = Unit {0}
Says P (Err w) = P (number_of w)

pub record Told {A : Type 0} (P : ℕ → Type 0) (j : Judged A) : Type 0 where
  pub says : Says P j

module _ {P : ℕ → Type 0} where
  pub told_passed : {A : Type 0} (a : A) → Told P (Ok a)
  told_passed a = record { says = tt }

  pub told_then : {A B : Type 0} (j : Judged A) (next : A → Judged B) → Told P j → ((a : A) → j ≡ Ok a → Told P (next a)) → Told P (then j next)
  unfolding then
  told_then (Ok a) next n h = h a refl
  told_then (Err w) next n h = record { says = n.says }

  pub told_unless : {A : Type 0} (ok : Bool) (w : Refusal) (next : Judged A) → P (number_of w) → Told P next → Told P (unless ok w next)
  unfolding unless
  told_unless true w next h n = n
  told_unless false w next h n = record { says = h }

  pub told_first : {A : Type 0} (k : ℕ) (faulty : ℕ → Bool) (w : ℕ → Refusal) (next : Judged A) → ((i : ℕ) → P (number_of (w i))) → Told P next → Told P (refuse_first k faulty w next)
  unfolding refuse_first refuse_at
  told_first k faulty w next h n = go (first_from k 0 faulty)
    where
      go : (o : Option ℕ) → Told P (refuse_at o w next)
      go None = n
      go (Some i) = record { says = h i }

  pub told_need : {A : Type 0} (k has : ℕ) (next : Judged A) → P 8 → Told P next → Told P (need k has next)
  unfolding need
  told_need k has next h n = go (ltb has k)
    where
      go : (t : Bool) → Told P (cond t (Err (too_short k)) next)
      go true = record { says = h }
      go false = n
