-- The BOMs and blanks that a text begins with, one after another. No contract cites this file.
use mathlib.Core.Path.{◌≡◌, refl, sym, ap, ◌∙◌}
use mathlib.Core.Logic.{⊎_elim}
use mathlib.Core.List.{List, [], ◌∷◌}
use Prim.Native.Nat.{ℕ, zero, suc, ◌-◌, ◌≤◌, ◌<◌}
use native.Mathlib.Nat.{not-suc-le-zero}
use native.Mathlib.Omega.{arith}
use lib.ListN.{length, drop, length-drop}
use Rattle.numbers.proofs.BelowLaws.{le_or_lt}
use Rattle.tidyrules.specs.Tidied.{mark, unmarked_by, unmarked}
use Rattle.tidyrules.proofs.MarkLaws.{unmarked_stays}

-- as many steps as a text has bytes are enough: more change nothing
fuel : (m n : ℕ) (s : List ℕ) → length s ≤ m → length s ≤ n → unmarked_by m s ≡ unmarked_by n s
fuel m n [] h k = unmarked_stays m [] refl ∙ sym (unmarked_stays n [] refl)
fuel zero n (b ∷ s) h k = absurd (not-suc-le-zero {n = 0} (omega arith))
fuel (suc m) zero (b ∷ s) h k = absurd (not-suc-le-zero {n = 0} (omega arith))
fuel (suc m) (suc n) (b ∷ s) h k =
    ⊎_elim
    (λ (none : mark (b ∷ s) ≤ 0). unmarked_stays (suc m) (b ∷ s) (omega arith) ∙ sym (unmarked_stays (suc n) (b ∷ s) (omega arith)))
    (λ (some : 0 < mark (b ∷ s)). fuel m n (drop (mark (b ∷ s)) (b ∷ s)) (omega (arith, length-drop (mark (b ∷ s)) (b ∷ s))) (omega (arith, length-drop (mark (b ∷ s)) (b ∷ s))))
    (le_or_lt (mark (b ∷ s)) 0)

unmarked_by-le : (n : ℕ) (s : List ℕ) → length (unmarked_by n s) ≤ length s
unmarked_by-le zero s = omega arith
unmarked_by-le (suc n) s = omega (arith, unmarked_by-le n (drop (mark s) s), length-drop (mark s) s)

module _ (s : List ℕ) where
  pub unmarked_le : length (unmarked s) ≤ length s
  unfolding unmarked
  unmarked_le = unmarked_by-le (length s) s

  pub unmarked_none : mark s ≡ 0 → s ≡ unmarked s
  unfolding unmarked
  unmarked_none e = sym (unmarked_stays (length s) s e)

  pub unmarked_more : (rest : List ℕ) → 0 < mark s → rest ≡ drop (mark s) s → unmarked rest ≡ unmarked s
  unfolding unmarked
  unmarked_more rest h e =
      let n : length rest ≡ length s - mark s = ap length e ∙ length-drop (mark s) s in
      fuel (length rest) (length s) rest (omega arith) (omega arith) ∙ ap (unmarked_by (length s)) e ∙ go s h
    where
      go : (t : List ℕ) → 0 < mark t → unmarked_by (length t) (drop (mark t) t) ≡ unmarked_by (length t) t
      go [] q = refl
      go (b ∷ t) q = fuel (suc (length t)) (length t) (drop (mark (b ∷ t)) (b ∷ t)) (omega (arith, length-drop (mark (b ∷ t)) (b ∷ t))) (omega (arith, length-drop (mark (b ∷ t)) (b ∷ t)))
