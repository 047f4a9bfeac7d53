-- The laws of `specs/Written.antt`'s `decimal` and `decimal_ℤ` that their writers cite: digit by digit from the last, and the bound of a length.
-- No contract cites this file.
use mathlib.Core.Path.{◌≡◌, refl, sym, ap, ap₂, subst, ◌∙◌}
use mathlib.Core.Bool.{true, false, false≢true}
use mathlib.Core.List.{List, [], ◌∷◌, ◌++◌}
use Prim.Native.Nat.{ℕ, zero, suc, ◌+◌, ◌-◌, ◌/◌, ◌%◌, ◌^◌, ◌≤◌, ◌<◌, ◌*◌, max}
use native.Mathlib.Nat.{lt_of_lt_of_le, not-suc-le-zero, pow-suc, pow-le-pow_right}
use native.Mathlib.Omega.{arith}
use borrow.Author.Tests.{ltb-true}
use lib.Dec.{lit≤, lit<}
use lib.IntN.{ℤ, pos, negsuc, nat_abs}
use lib.ListN.{length, set, length-append, length-set}
use lib.Signed.{lt_z, mag}
use mir.Syntax.{w64}
use mir.Val.{hbits}
use Rattle.text.specs.Fields.{dash}
use Rattle.text.specs.Written.{decimal, decimal_ℤ}
use Rattle.text.specs.Put.{put, Put}
use Rattle.text.proofs.NumberTrip.{text_one, text_more, under_pow, decimal_of, decimal_some}
use Rattle.text.proofs.PutLaws.{put_byte, put_last, put_more}
use Rattle.text.proofs.WrittenLaws.{decimal_long, decimal_ℤ_long}

-- ---- decimal: the last digit, and the digits before it
pub decimal_one : (n : ℕ) → n < 10 → decimal n ≡ (48 + n) ∷ []
unfolding decimal
decimal_one n h = text_one n n h

pub decimal_more : (n : ℕ) → 10 ≤ n → decimal n ≡ decimal (n / 10) ++ ((48 + n % 10) ∷ [])
unfolding decimal
decimal_more zero h = absurd (not-suc-le-zero h)
decimal_more (suc f) h =
    let small : suc f / 10 < 10 ^ suc f = omega (arith, under_pow f) in
    text_more (suc f) (suc f) h ∙ ap (λ (l : List ℕ). l ++ ((48 + suc f % 10) ∷ [])) (sym (decimal_of f (suc f / 10) small))

pub decimal_longer : (n : ℕ) → 10 ≤ n → length (decimal n) ≡ length (decimal (n / 10)) + 1
decimal_longer n h = ap length (decimal_more n h) ∙ length-append (decimal (n / 10)) ((48 + n % 10) ∷ [])

-- a u64 has at most twenty digits
pub decimal_u64 : (n : ℕ) → n < 2 ^ 64 → length (decimal n) ≤ 20
decimal_u64 n h = decimal_long 19 n (lt_of_lt_of_le h (lit≤ tt))

-- how many digits a number has, by the power of ten at or below it; 0 has as many as 1
decimal_size : (k n : ℕ) → 10 ^ k ≤ n → n < 10 * 10 ^ k → length (decimal n) ≡ k + 1
decimal_size zero n l h = ap length (decimal_one n h)
decimal_size (suc k) n l h =
    let p : 10 ^ suc k ≡ 10 ^ k * 10 = pow-suc 10 k in
    let low : 0 ≤ k = omega arith in
    let one : 1 ≤ 10 ^ k = pow-le-pow_right {n = 10} (lit< tt) low in
    omega (arith, decimal_longer n (omega (arith, l, p, one)), decimal_size k (n / 10) (omega (arith, l, p)) (omega (arith, h, p)))

pub decimal_count : (n k : ℕ) → 10 ^ k ≤ max n 1 → max n 1 < 10 * 10 ^ k → k + 1 ≡ length (decimal n)
decimal_count zero k l h = sym (decimal_size k 1 l h) ∙ ap length (decimal_one 1 (lit< tt)) ∙ sym (ap length (decimal_one 0 (lit< tt)))
decimal_count (suc n) k l h = let m : max (suc n) 1 ≡ suc n = omega arith in sym (decimal_size k (suc n) (rw m at l) (rw m at h))

-- writing the digits, the last first: what is left, written before place i, gives the whole
pub record DigitsPut (n at : ℕ) (out₀ out : List ℕ) (left i : ℕ) : Type 0 where
  pub place : i ≡ at + length (decimal left)
  pub rest : put (decimal left) at out ≡ put (decimal n) at out₀
  pub room : at + length (decimal left) ≤ length out
  pub kept : length out ≡ length out₀

pub digits_put_none : (n at : ℕ) (out : List ℕ) (i : ℕ) → i ≡ at + length (decimal n) → at + length (decimal n) ≤ length out → DigitsPut n at out out n i
digits_put_none n at out i e h = record { place = e; rest = refl; room = h; kept = refl }

module _ {n at : ℕ} {out₀ out : List ℕ} {left i : ℕ} (u : DigitsPut n at out₀ out left i) where
  pub digits_put_some : at < i
  digits_put_some = omega (arith, u.place, decimal_some left)

  pub digits_put_more : (d : ℕ) → d ≡ 48 + left % 10 → 10 ≤ left → DigitsPut n at out₀ (set out (i - 1) d) (left / 10) (i - 1)
  digits_put_more d e h =
      let last = decimal_longer left h in
      let j : i - 1 ≡ at + length (decimal (left / 10)) = omega (arith, u.place) in
      record {
        place = j;
        rest = ap₂ (λ (k x : ℕ). put (decimal (left / 10)) at (set out k x)) j e
            ∙ put_last (48 + left % 10) at out (decimal (left / 10)) (omega (arith, u.room))
            ∙ ap (λ (l : List ℕ). put l at out) (sym (decimal_more left h))
            ∙ u.rest;
        room = omega (arith, u.room, length-set out (i - 1) d);
        kept = length-set out (i - 1) d ∙ u.kept;
      }

  pub digits_put_all : (d next : ℕ) → d ≡ 48 + left → left < 10 → next ≡ at + length (decimal n) → Put (decimal n) at out₀ next (set out at d)
  digits_put_all d next e h q =
      let text = decimal_one left h in
      record {
        after = q;
        wrote = ap (set out at) e ∙ put_byte (48 + left) at out (omega (arith, u.room, ap length text)) ∙ ap (λ (l : List ℕ). put l at out) (sym text) ∙ u.rest;
      }

-- ---- decimal_ℤ: the sign, and the digits
module _ (z : ℤ) where
  pub below_text : lt_z z (pos 0) ≡ true → decimal_ℤ z ≡ dash ∷ decimal (nat_abs z)
  unfolding decimal_ℤ
  below_text e = go z e
    where
      go : (z : ℤ) → lt_z z (pos 0) ≡ true → decimal_ℤ z ≡ dash ∷ decimal (nat_abs z)
      go (pos n) e = absurd (not-suc-le-zero (ltb-true n 0 e))
      go (negsuc n) e = refl

  pub above_text : lt_z z (pos 0) ≡ false → decimal_ℤ z ≡ decimal (nat_abs z)
  unfolding decimal_ℤ
  above_text e = go z e
    where
      go : (z : ℤ) → lt_z z (pos 0) ≡ false → decimal_ℤ z ≡ decimal (nat_abs z)
      go (pos n) e = refl
      go (negsuc n) e = absurd (false≢true (sym e))

  module _ {d : ℕ} (q : d ≡ nat_abs z) where
    below : lt_z z (pos 0) ≡ true → (dash ∷ []) ++ decimal d ≡ decimal_ℤ z
    below e = ap (λ (k : ℕ). dash ∷ decimal k) q ∙ sym (below_text e)

    above : lt_z z (pos 0) ≡ false → decimal d ≡ decimal_ℤ z
    above e = ap decimal q ∙ sym (above_text e)

    pub below_length : lt_z z (pos 0) ≡ true → length (decimal d) + 1 ≡ length (decimal_ℤ z)
    below_length e = omega (arith, ap length (below e))

    pub above_length : lt_z z (pos 0) ≡ false → length (decimal d) ≡ length (decimal_ℤ z)
    above_length e = ap length (above e)

    module _ {at n : ℕ} {out out' : List ℕ} where
      pub below_put : {m : ℕ} {mid : List ℕ} → lt_z z (pos 0) ≡ true → at ≤ length out → Put (dash ∷ []) at out m mid → Put (decimal d) m mid n out' → Put (decimal_ℤ z) at out n out'
      below_put e h p r = subst (λ (l : List ℕ). Put l at out n out') (below e) (put_more p h r)

      pub above_put : lt_z z (pos 0) ≡ false → Put (decimal d) at out n out' → Put (decimal_ℤ z) at out n out'
      above_put e r = subst (λ (l : List ℕ). Put l at out n out') (above e) r

-- an i64 has at most twenty bytes, its minus among them
pub decimal_i64 : (z : ℤ) → mag z < 2 ^ hbits w64 → length (decimal_ℤ z) ≤ 20
decimal_i64 (pos n) h = decimal_ℤ_long 18 (pos n) (omega arith)
decimal_i64 (negsuc n) h = decimal_ℤ_long 18 (negsuc n) (omega arith)
