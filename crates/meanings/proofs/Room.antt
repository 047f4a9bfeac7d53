-- Room for the words of a refusal (specs/Meanings.antt) that is never too short. No contract cites this file.
use mathlib.Core.Path.{◌≡◌, refl}
use mathlib.Core.Bool.{Bool, true, false, cond}
use Prim.Native.Nat.{ℕ, ◌≤◌, ◌<◌}
use native.Mathlib.Omega.{arith}
use lib.Dec.{ltb, leb, lit<}
use lib.ListN.{length}
use borrow.Author.Tests.{leb-true, ltb-false}
use Rattle.numbers.specs.Below.{first_from, given}
use Rattle.numbers.proofs.TestLaws.{all_true_lem}
use Rattle.meanings.specs.Meanings.{lines_of, meanings, last_number, words_at, meaning_of}

-- the bytes of the longest words
abbrev pub meaning_most : ℕ
meaning_most = 215

few : (k : ℕ) → k < 16 → length (words_at (lines_of meanings) k) ≤ meaning_most
unfolding first_from given
few k h = leb-true _ _ (all_true_lem 16 (λ j. leb (length (words_at (lines_of meanings) j)) meaning_most) refl k h)

pub meaning_most_lem : (number : ℕ) → length (meaning_of number) ≤ meaning_most
unfolding meaning_of
meaning_most_lem number = go (ltb last_number number) refl
  where
    go : (t : Bool) → ltb last_number number ≡ t → length (words_at (lines_of meanings) (cond t 15 number)) ≤ meaning_most
    go true e = few 15 (lit< tt)
    go false e = few number (omega (arith, ltb-false last_number number e))
