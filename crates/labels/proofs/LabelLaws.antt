-- The laws of `specs/Labels.antt`: what the library says of all bytes; and that a label has neither a tab nor an LF. No contract cites this file.
use mathlib.Core.Path.{◌≡◌, refl, ap}
use mathlib.Core.Bool.{Bool, true, false, false≢true, ◌&&◌}
use mathlib.Core.List.{List, [], ◌∷◌}
use Prim.Native.Nat.{ℕ, ◌≤◌}
use native.Mathlib.Omega.{arith}
use borrow.Author.Tests.{leb-true, ne_eqb}
use Rattle.std.specs.List.{list_all}
use Rattle.text.specs.Fields.{tab, feed}
use Rattle.text.proofs.LineLaws.{HasNoFeed}
use Rattle.daylines.proofs.FiledLaws.{NoTab}
use Rattle.labels.specs.Labels.{label_byte, label_bytes}

-- ---- both of two tests
pub both : (a b : Bool) → (a && b) ≡ true → (a ≡ true) × (b ≡ true)
both true b e = (refl, e)
both false b e = absurd (false≢true e)

-- ---- the bytes, one by one
pub list_all-label_byte : (sheet : Bool) (text : List ℕ) → list_all (label_byte sheet) text ≡ label_bytes sheet text
unfolding label_bytes
list_all-label_byte sheet [] = refl
list_all-label_byte sheet (b ∷ text) = ap (λ r. label_byte sheet b && r) (list_all-label_byte sheet text)

-- ---- a label has neither a tab nor an LF
byte_high : (sheet : Bool) (b : ℕ) → label_byte sheet b ≡ true → 32 ≤ b
unfolding label_byte
byte_high sheet b e = leb-true 32 b (both _ _ (both _ _ e).0).0

pub plain_bytes : (sheet : Bool) (text : List ℕ) → label_bytes sheet text ≡ true → HasNoFeed text × NoTab text
unfolding label_bytes
plain_bytes sheet [] e = (tt, tt)
plain_bytes sheet (b ∷ text) e =
    let p = both (label_byte sheet b) (label_bytes sheet text) e in
    let h = byte_high sheet b p.0 in
    let rest = plain_bytes sheet text p.1 in
    ((ne_eqb b feed (λ q. omega arith), rest.0), (ne_eqb b tab (λ q. omega arith), rest.1))
