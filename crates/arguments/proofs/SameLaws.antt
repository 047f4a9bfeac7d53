-- `same_bytes` of `specs/Same.antt` is what `==` says of two slices: it holds of equal texts and of no others.
use mathlib.Core.Path.{◌≡◌, refl, ap, subst}
use mathlib.Core.Bool.{true, ◌&&◌}
use mathlib.Core.List.{List, [], ◌∷◌}
use Prim.Native.Nat.{ℕ}
use lib.Dec.{eqb}
use Rattle.std.specs.Bool.{Decides}
use Rattle.std.specs.Str.{bytes_eq}
use Rattle.std.proofs.lemmas.Slice.Eq.{bytes_eq-Decides}
use Rattle.arguments.specs.Same.{same_bytes}

pub bytes_eq-same : (x y : List ℕ) → bytes_eq x y ≡ same_bytes x y
unfolding same_bytes
bytes_eq-same [] [] = refl
bytes_eq-same [] (b ∷ y) = refl
bytes_eq-same (a ∷ x) [] = refl
bytes_eq-same (a ∷ x) (b ∷ y) = ap (λ r. eqb a b && r) (bytes_eq-same x y)

decides : (x y : List ℕ) → Decides (same_bytes x y) (x ≡ y)
decides x y = subst (λ r. Decides r (x ≡ y)) (bytes_eq-same x y) (bytes_eq-Decides x y)

pub same_is : (x y : List ℕ) → same_bytes x y ≡ true → x ≡ y
same_is x y = (decides x y).0

pub is_same : (x y : List ℕ) → x ≡ y → same_bytes x y ≡ true
is_same x y = (decides x y).1
