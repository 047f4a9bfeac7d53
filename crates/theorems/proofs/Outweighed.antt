-- The argument of E10 over any rows: where multiplied rows outweigh D times a row, net positions that sum to zero and load none of them beyond its RAM
-- load that row within its own. No contract cites this file.
use mathlib.Core.Path.{◌≡◌, sym, ap, ap₂, subst, ◌∙◌}
use Prim.Native.Nat.{ℕ, suc, ◌-◌, ◌<◌}
use native.Mathlib.Omega.{arith}
use lib.IntN.{ℤ, pos, ◌+ℤ◌, ◌-ℤ◌, ◌*ℤ◌, nat_abs, +ℤ_idl, *ℤ-zero, -ℤ-+ℤ_cancel}
use lib.Signed.{◌≤ℤ◌}
use Rattle.numbers.specs.Ints.{sum_ℤ}
use Rattle.numbers.proofs.BelowLaws.{sum_ℤ_cong}
use Rattle.numbers.proofs.IntLaws.{Between}
use Rattle.theorems.proofs.SignedSums.{add_mul_ℤ, mul_assoc_ℤ, sum_ℤ_add, sum_ℤ_left, sum_ℤ_right, sum_ℤ_swap, sum_ℤ_mono, trans_le_ℤ, times_le_ℤ, cancel_le_ℤ}

-- n rows: row j has the factors f j, and its load is taken m j times; the claimed row has the factors g and is taken d times
module _ (zones n : ℕ) (f : ℕ → ℕ → ℤ) (m : ℕ → ℤ) (g : ℕ → ℤ) (d : ℤ) (q : ℕ → ℤ) where
  abbrev load : (ℕ → ℤ) → ℤ
  load h = sum_ℤ zones (λ z. h z *ℤ q z)

  -- the multiplied loads are the load of the multiplied factors
  loads : sum_ℤ n (λ j. m j *ℤ load (f j)) ≡ load (λ z. sum_ℤ n (λ j. m j *ℤ f j z))
  loads =
      sum_ℤ_cong n (λ j. m j *ℤ load (f j)) (λ j. sum_ℤ zones (λ z. m j *ℤ f j z *ℤ q z))
      (λ j l. sym (sum_ℤ_left zones (m j) (λ z. f j z *ℤ q z)) ∙ sum_ℤ_cong zones _ _ (λ z h. sym (mul_assoc_ℤ (m j) (f j z) (q z))))
      ∙ sum_ℤ_swap n zones (λ j z. m j *ℤ f j z *ℤ q z)
      ∙ sum_ℤ_cong zones _ _ (λ z h. sum_ℤ_right n (λ j. m j *ℤ f j z) (q z))

  -- one and the same number in each zone puts no load on any row
  module _ (e : ℤ) (same : (z : ℕ) → z < zones → sum_ℤ n (λ j. m j *ℤ f j z) -ℤ d *ℤ g z ≡ e) (none : sum_ℤ zones q ≡ pos 0) where
    term : (z : ℕ) → z < zones → sum_ℤ n (λ j. m j *ℤ f j z) *ℤ q z ≡ e *ℤ q z +ℤ d *ℤ (g z *ℤ q z)
    term z h =
        ap (λ (x : ℤ). x *ℤ q z) (sym (-ℤ-+ℤ_cancel (sum_ℤ n (λ j. m j *ℤ f j z)) (d *ℤ g z)) ∙ ap (λ (x : ℤ). x +ℤ d *ℤ g z) (same z h))
        ∙ add_mul_ℤ e (d *ℤ g z) (q z)
        ∙ ap (λ (x : ℤ). e *ℤ q z +ℤ x) (mul_assoc_ℤ d (g z) (q z))

    pub balanced : sum_ℤ n (λ j. m j *ℤ load (f j)) ≡ d *ℤ load g
    balanced =
        loads
        ∙ sum_ℤ_cong zones _ (λ z. e *ℤ q z +ℤ d *ℤ (g z *ℤ q z)) term
        ∙ sum_ℤ_add zones (λ z. e *ℤ q z) (λ z. d *ℤ (g z *ℤ q z))
        ∙ ap₂ (λ (x y : ℤ). x +ℤ y) (sum_ℤ_left zones e q ∙ ap (λ (x : ℤ). e *ℤ x) none ∙ *ℤ-zero e) (sum_ℤ_left zones d (λ z. g z *ℤ q z))
        ∙ +ℤ_idl (d *ℤ load g)

    -- the claimed row's load is within its RAM where the loads of the n rows are
    pub outweighed : (ram : ℕ → ℤ) (own : ℤ) {k l : ℕ} → Between 1 k d → ((j : ℕ) → j < n → Between 1 l (m j))
        → ((j : ℕ) → j < n → load (f j) ≤ℤ ram j) → sum_ℤ n (λ j. m j *ℤ ram j) ≤ℤ (d *ℤ own) → load g ≤ℤ own
    outweighed ram own dr mr within top = cancelled d dr (trans_le_ℤ _ _ _ (subst (λ (x : ℤ). x ≤ℤ sum_ℤ n (λ j. m j *ℤ ram j)) balanced more) top)
      where
        times : (x y v : ℤ) {l : ℕ} → Between 1 l v → x ≤ℤ y → (v *ℤ x) ≤ℤ (v *ℤ y)
        times x y v b h = subst (λ (w : ℤ). (w *ℤ x) ≤ℤ (w *ℤ y)) (sym b.is) (times_le_ℤ (nat_abs v) x y h)

        more : sum_ℤ n (λ j. m j *ℤ load (f j)) ≤ℤ sum_ℤ n (λ j. m j *ℤ ram j)
        more = sum_ℤ_mono n _ _ (λ j h. times (load (f j)) (ram j) (m j) (mr j h) (within j h))

        cancelled : (v : ℤ) {k : ℕ} → Between 1 k v → (v *ℤ load g) ≤ℤ (v *ℤ own) → load g ≤ℤ own
        cancelled v b h =
            let one : nat_abs v ≡ suc (nat_abs v - 1) = omega (arith, b.least) in
            cancel_le_ℤ (nat_abs v - 1) (load g) own (subst (λ (w : ℤ). (w *ℤ load g) ≤ℤ (w *ℤ own)) (b.is ∙ ap pos one) h)
