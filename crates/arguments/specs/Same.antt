-- Whether two texts hold the same bytes: `same_bytes` is what contracts cite. That it holds of equal texts and of no others is proved (proofs/SameLaws).
use Rattle.std.specs.Prelude.{Bool, true, false, ◌&&◌, List, [], ◌∷◌, ℕ, eqb}

unfoldable pub same_bytes : (x y : List ℕ) → Bool
same_bytes [] [] = true
same_bytes [] (b ∷ y) = false
same_bytes (a ∷ x) [] = false
same_bytes (a ∷ x) (b ∷ y) = eqb a b && same_bytes x y
