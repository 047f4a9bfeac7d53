-- The laws of `specs/Fields.antt`'s `number_at` and `share_at` that readers of fields cite, here and in the crates above. No contract cites this file.
-- In order: bytes within a line; how large a number that was read is; a field by its first byte; signed numbers in 64 bits.
use Prim.Native.Nat.{ℕ, zero, suc, ◌+◌, ◌^◌, ◌≤◌, ◌<◌}
use mathlib.Core.Path.{◌≡◌, refl, sym}
use mathlib.Core.Bool.{true, false}
use mathlib.Core.List.{List}
use mathlib.Core.Logic.{⊎_elim}
use native.Mathlib.Omega.{arith}
use lib.Dec.{eqb, lit<}
use lib.IntN.{pos, neg_ℤ}
use lib.ListN.{length, get_or, get_or-eq_default}
use mir.Syntax.{w64}
use mir.Val.{SFits, to_z}
use mir.Facts.{to_z_pos}
use borrow.Author.Tests.{eqb-true, eq-eqb, ne_eqb}
use Rattle.numbers.specs.Ints.{minus}
use Rattle.numbers.proofs.BelowLaws.{le_or_lt}
use Rattle.text.specs.Fields.{Parsed, positive, with_number, number_at, share_at}
use Rattle.text.proofs.NumberTrip.{number_read}
use Rattle.std.specs.Prelude.{Ok, Err}

-- a byte that is not 0 stands in the line, not past its end
pub some_within : (line : List ℕ) (at : ℕ) → 0 < get_or line at 0 → at < length line
some_within line at e =
    ⊎_elim
    (λ (h : length line ≤ at). absurd (omega (arith, get_or-eq_default line 0 h)))
    (λ (h : at < length line). h)
    (le_or_lt (length line) at)

-- a minus stands in the line, not past its end
pub dash_within : (line : List ℕ) (at : ℕ) → eqb (get_or line at 0) 45 ≡ true → at < length line
dash_within line at e = some_within line at (omega (arith, eqb-true (get_or line at 0) 45 e))

-- ---- how large a number that was read is
module _ (line : List ℕ) (at stop : ℕ) where
  module _ (v next : ℕ) (is : number_at line at stop ≡ Ok (v, next)) where
    pub number_lt : v < 10 ^ 10
    number_lt = (number_read line at stop v next (sym is)).small

  -- the bound on a number's value, whatever stands at the place
  pub value_lt : with_number (number_at line at stop) 0 (λ v next. v) < 10 ^ 10
  value_lt = go (number_at line at stop) refl
    where
      go : (n : Parsed ℕ) → number_at line at stop ≡ n → with_number n 0 (λ v next. v) < 10 ^ 10
      go (Ok (v, next)) e = number_lt v next e
      go (Err place) e = lit< tt

  -- ---- a field by its first byte
  pub share_plus : eqb (get_or line at 0) 45 ≡ false → positive (number_at line at stop) ≡ share_at line at stop
  unfolding share_at
  share_plus e = rw e

  pub share_alone : eqb (get_or line at 0) 45 ≡ true → get_or line (at + 1) 0 ≡ stop → Ok (minus 1, at + 2) ≡ share_at line at stop
  unfolding share_at
  share_alone e f = rw (e, eq-eqb (get_or line (at + 1) 0) stop f)

  pub share_other : eqb (get_or line at 0) 45 ≡ true → (get_or line (at + 1) 0 ≡ stop → ⊥) → Err (at + 1) ≡ share_at line at stop
  unfolding share_at
  share_other e f = rw (e, ne_eqb (get_or line (at + 1) 0) stop f)

-- ---- signed numbers in 64 bits
pub fits_pos : (v : ℕ) → v < 10 ^ 10 → SFits w64 (pos v)
fits_pos v h = record { sfits = omega arith }

pub read_back : (v : ℕ) → v < 10 ^ 10 → to_z w64 v ≡ pos v
read_back v h = to_z_pos w64 (omega arith)

pub fits_neg : (v : ℕ) → v < 10 ^ 10 → SFits w64 (neg_ℤ (pos v))
fits_neg zero h = record { sfits = lit< tt }
fits_neg (suc v) h = record { sfits = omega arith }
