-- The laws of `specs/Heard.antt`: what the code's three tests come to. No contract cites this file.
use mathlib.Core.Path.{◌≡◌, refl}
use mathlib.Core.List.{List, [], ◌∷◌}
use Prim.Native.Nat.{ℕ}
use native.Mathlib.Omega.{arith}
use lib.ListN.{length, get_or}
use borrow.Author.Tests.{eq-eqb, ne_eqb}
use Rattle.output.specs.declared.Ended.TheVariants.{Answered}
use Rattle.output.specs.Heard.{letter_e, refusal_in, heard_of}

pub heard_none : (printed : List ℕ) → length printed ≡ 0 → Answered ≡ heard_of printed
unfolding heard_of
heard_none [] h = refl
heard_none (b ∷ bs) h = absurd (omega arith)

pub heard_refusal : (printed : List ℕ) → get_or printed 0 0 ≡ letter_e → refusal_in printed ≡ heard_of printed
unfolding heard_of
heard_refusal printed h = rw (eq-eqb (get_or printed 0 0) letter_e h)

pub heard_other : (printed : List ℕ) → (get_or printed 0 0 ≡ letter_e → ⊥) → Answered ≡ heard_of printed
unfolding heard_of
heard_other printed h = rw (ne_eqb (get_or printed 0 0) letter_e h)
