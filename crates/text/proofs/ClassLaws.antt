-- The laws of `specs/Class.antt`'s `class_of`: what a reader learns of a byte from its class. No contract cites this file.
use mathlib.Core.Path.{◌≡◌, refl, ◌∙◌, ap}
use mathlib.Core.Bool.{Bool, true, false, cond}
use Prim.Native.Nat.{ℕ, ◌-◌}
use lib.Dec.{eqb}
use borrow.Author.Tests.{eqb-true}
use Rattle.text.specs.declared.Class.{Class}
use Rattle.text.specs.declared.Class.TheVariants.{Digit, Minus, Tab, Feed, Other}
use Rattle.text.specs.Fields.{is_digit}
use Rattle.text.specs.Class.{class_of}
use Rattle.text.proofs.NumberTrip.{zero_one}

module _ (b : ℕ) (r : Class) (is : r ≡ class_of b) where
  pub class_digit : (d : ℕ) → r ≡ Digit d → (is_digit b ≡ true) × (d ≡ b - 48)
  class_digit d e = go (is_digit b) (eqb b 45) (eqb b 9) (eqb b 10) is
    where
      go : (t u v w : Bool) → r ≡ cond t (Digit (b - 48)) (cond u Minus (cond v Tab (cond w Feed Other))) → (t ≡ true) × (d ≡ b - 48)
      go true u v w q = (refl, cc)
      go false true v w q = let z : ◌≡◌ {A = ℕ} 0 1 = cc in absurd (zero_one z)
      go false false true w q = let z : ◌≡◌ {A = ℕ} 0 1 = cc in absurd (zero_one z)
      go false false false true q = let z : ◌≡◌ {A = ℕ} 0 1 = cc in absurd (zero_one z)
      go false false false false q = let z : ◌≡◌ {A = ℕ} 0 1 = cc in absurd (zero_one z)

  pub class_not_digit : ((d : ℕ) → r ≡ Digit d → ⊥) → is_digit b ≡ false
  class_not_digit h = go (is_digit b) refl
    where
      go : (t : Bool) → is_digit b ≡ t → is_digit b ≡ false
      go true e = let q : class_of b ≡ Digit (b - 48) = rw e in absurd (h (b - 48) (is ∙ q))
      go false e = e

  pub class_minus : r ≡ Minus → eqb b 45 ≡ true
  class_minus e = go (is_digit b) (eqb b 45) (eqb b 9) (eqb b 10) is
    where
      go : (t u v w : Bool) → r ≡ cond t (Digit (b - 48)) (cond u Minus (cond v Tab (cond w Feed Other))) → u ≡ true
      go true u v w q = let z : ◌≡◌ {A = ℕ} 0 1 = cc in absurd (zero_one z)
      go false true v w q = refl
      go false false true w q = let z : ◌≡◌ {A = ℕ} 0 1 = cc in absurd (zero_one z)
      go false false false true q = let z : ◌≡◌ {A = ℕ} 0 1 = cc in absurd (zero_one z)
      go false false false false q = let z : ◌≡◌ {A = ℕ} 0 1 = cc in absurd (zero_one z)

  pub class_not_minus : (r ≡ Minus → ⊥) → eqb b 45 ≡ false
  class_not_minus h = go (eqb b 45) refl
    where
      go : (t : Bool) → eqb b 45 ≡ t → eqb b 45 ≡ false
      go true e = absurd (h (is ∙ ap class_of (eqb-true b 45 e)))
      go false e = e
