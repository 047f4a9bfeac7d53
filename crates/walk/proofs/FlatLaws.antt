-- The rows of a flat table of factors, as slices. No contract cites this file.
use mathlib.Core.Path.{◌≡◌, ap, ◌∙◌}
use mathlib.Core.List.{List}
use Prim.Native.Nat.{ℕ, zero, suc, ◌+◌, ◌*◌, ◌≤◌, ◌<◌}
use native.Mathlib.Nat.{mul-le-mul_right, suc-mul}
use native.Mathlib.Omega.{arith}
use mir.Val.{bool_byte}
use borrow.Author.Tests.{lt-ltb}
use lib.Dec.{ltb}
use lib.ListN.{length, take, drop, length-drop}
use lib.Seq.{length-take-le, get_or-take, get_or-drop}
use Rattle.numbers.specs.Below.{at, table}
use Rattle.numbers.proofs.BelowLaws.{table_long, table_get, table_of}
use Rattle.rounds.specs.AllRounds.{flat}
use Rattle.rounds.proofs.Loops.{place_inside, Counted, counted_up, counted_on}

-- one more item of those that are counted; d is 1 where it is above 0
pub counted_more : {f : ℕ → ℕ} {k i n : ℕ} → Counted f k i n → (v d : ℕ) → i < k → v ≡ f i → d ≡ bool_byte (ltb 0 v) → Counted f k (i + 1) (n + d)
counted_more u zero d h e b = counted_on u zero _ h e (omega arith) (omega arith)
counted_more u (suc v) d h e b = let one : d ≡ 1 = b ∙ ap bool_byte (lt-ltb 0 (suc v) (omega arith)) in counted_up u (suc v) _ h e (omega arith) (omega arith)

-- the slice of row i is its factors, n of them as the code computes n
pub row_is : (rows borders : ℕ) (p : List ℕ) (i n : ℕ) → rows * borders ≤ length p → i < rows → n ≡ borders → take n (drop (i * borders) p) ≡ table borders ((flat rows borders p).p i)
row_is rows borders p i n l h e =
    let room : (b : ℕ) → b < borders → i * borders + b < length p = λ b hb. place_inside rows borders i b (length p) l h hb in
    let fits : borders ≤ length (drop (i * borders) p) = rw (length-drop (i * borders) p) (omega (arith, mul-le-mul_right borders h, suc-mul i borders)) in
    rw e
    (table_of borders ((flat rows borders p).p i) (take borders (drop (i * borders) p)) 0 (length-take-le borders (drop (i * borders) p) fits)
    (λ b hb. get_or-take borders (drop (i * borders) p) b 0 hb ∙ get_or-drop (i * borders) p b 0))

module _ (g : ℕ → ℕ) {borders : ℕ} {row : List ℕ} (e : row ≡ table borders g) where
  pub row_long : length row ≡ borders
  row_long = ap length e ∙ table_long borders g

  pub row_at : (b : ℕ) → b < borders → at row b ≡ g b
  row_at b h = ap (λ (l : List ℕ). at l b) e ∙ table_get borders g b 0 h
