-- The laws of `specs/Written.antt`: what is written of a number holds no LF; and lengths. No contract cites this file.
use mathlib.Core.Path.{◌≡◌, refl, ap}
use mathlib.Core.Bool.{true}
use mathlib.Core.List.{List, [], ◌∷◌}
use Prim.Native.Nat.{ℕ, suc, ◌^◌, ◌≤◌, ◌<◌}
use native.Mathlib.Omega.{arith}
use lib.IntN.{ℤ, pos, negsuc, nat_abs}
use lib.ListN.{length, drop, length-drop}
use borrow.Author.Tests.{ne_eqb, le-leb}
use Rattle.text.specs.Fields.{digits}
use Rattle.text.specs.Line.{ended}
use Rattle.text.specs.Written.{decimal, decimal_ℤ, share_text}
use Rattle.text.proofs.LineLaws.{HasNoFeed}
use Rattle.text.proofs.NumberTrip.{digit_range, digits_cons, decimal_digits, decimal_of, text_le}

-- ---- no LF
digits_no_feed : (s : List ℕ) → digits s ≡ s → HasNoFeed s
digits_no_feed [] e = tt
digits_no_feed (b ∷ s) e =
    let k = digits_cons b s e in
    (ne_eqb b 10 (λ q. omega (arith, digit_range b k.0)), digits_no_feed s k.1)

pub decimal_no_feed : (n : ℕ) → HasNoFeed (decimal n)
decimal_no_feed n = digits_no_feed (decimal n) (decimal_digits n)

pub decimal_ℤ_no_feed : (z : ℤ) → HasNoFeed (decimal_ℤ z)
unfolding decimal_ℤ
decimal_ℤ_no_feed (pos n) = decimal_no_feed n
decimal_ℤ_no_feed (negsuc n) = (refl, decimal_no_feed (suc n))

pub share_no_feed : (r : ℤ) → HasNoFeed (share_text r)
share_no_feed (pos n) = decimal_no_feed n
share_no_feed (negsuc n) = (refl, tt)

-- ---- a written line ends where nothing follows
pub ended_text : (line : List ℕ) (next : ℕ) → drop next line ≡ [] → ended line next ≡ true
ended_text line next e = le-leb (length line) next (omega (arith, length-drop next line, ap length e))

-- ---- lengths
pub decimal_long : (f n : ℕ) → n < 10 ^ suc f → length (decimal n) ≤ suc f
decimal_long f n h = rw (decimal_of f n h) (text_le (suc f) n)

-- a signed number has one byte more, for the minus
pub decimal_ℤ_long : (f : ℕ) (z : ℤ) → nat_abs z < 10 ^ suc f → length (decimal_ℤ z) ≤ suc (suc f)
unfolding decimal_ℤ
decimal_ℤ_long f (pos n) h = omega (arith, decimal_long f n h)
decimal_ℤ_long f (negsuc n) h = omega (arith, decimal_long f (suc n) h)

pub pos_long : (f : ℕ) (z : ℤ) → z ≡ pos (nat_abs z) → nat_abs z < 10 ^ suc f → length (decimal_ℤ z) ≤ suc f
unfolding decimal_ℤ
pos_long f (pos n) e h = decimal_long f n h
pos_long f (negsuc n) e h = absurd (not-pos n (suc n) e)
  where
    not-pos : (n m : ℕ) → negsuc n ≡ pos m → ⊥
    not-pos n m e = let x : ◌≡◌ {A = ℕ} 0 1 = cc in omega arith
