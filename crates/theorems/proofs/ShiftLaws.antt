-- Rows whose factors differ by one and the same number: it is an equivalence, and such rows have one spread. No contract cites this file.
use mathlib.Core.Path.{◌≡◌, refl, ap, ap₂, ◌∙◌}
use mathlib.Core.Bool.{Bool, true, false, cond}
use mathlib.Core.List.{List, [], ◌∷◌}
use Prim.Native.Nat.{ℕ, suc, ◌<◌}
use native.Mathlib.Omega.{arith}
use lib.IntN.{ℤ, ◌-ℤ◌}
use lib.ListN.{length}
use lib.Signed.{lt_z}
use Rattle.numbers.specs.Ints.{max_ℤ, min_ℤ, same_ℤ}
use Rattle.numbers.proofs.IntLaws.{diff, diffs, zarith, same_true, same_self, lt_z_true, lt_z_false, lt_lt_z, le_lt_z}
use Rattle.numbers.proofs.TestLaws.{all_true_lem, true_all}
use Rattle.types.specs.Ranges.{at_ℤ}
use Rattle.marginrules.proofs.MarginLaws.{max_less, lt_less, le_less}
use Rattle.staterules.specs.States.{highest, lowest, spread_of, shifted}

-- ---- shifted: each zone differs as zone 0 does
abbrev pub Alike : (fs gs : List ℤ) → Type 0
Alike fs gs = (z : ℕ) → z < length fs → at_ℤ fs z -ℤ at_ℤ gs z ≡ at_ℤ fs 0 -ℤ at_ℤ gs 0

abbrev same_there : (fs gs : List ℤ) → (z : ℕ) → Bool
same_there fs gs z = same_ℤ (at_ℤ fs z -ℤ at_ℤ gs z) (at_ℤ fs 0 -ℤ at_ℤ gs 0)

pub shifted_alike : (fs gs : List ℤ) → shifted fs gs ≡ true → Alike fs gs
unfolding shifted
shifted_alike fs gs e z h = same_true (at_ℤ fs z -ℤ at_ℤ gs z) (at_ℤ fs 0 -ℤ at_ℤ gs 0) (all_true_lem (length fs) (same_there fs gs) e z h)

pub alike_shifted : (fs gs : List ℤ) → Alike fs gs → shifted fs gs ≡ true
unfolding shifted
alike_shifted fs gs h =
    true_all (length fs) (same_there fs gs)
    (λ z l. ap (λ (x : ℤ). same_ℤ x (at_ℤ fs 0 -ℤ at_ℤ gs 0)) (h z l) ∙ same_self (at_ℤ fs 0 -ℤ at_ℤ gs 0))

pub shifted_self : (fs : List ℤ) → shifted fs fs ≡ true
shifted_self fs = alike_shifted fs fs (λ z h. self_less (at_ℤ fs z) (at_ℤ fs 0))
  where
    self_less : (x y : ℤ) → x -ℤ x ≡ y -ℤ y
    self_less x y = rw (diff x, diff y) (simp diffs (omega zarith))

turn : (a b c d : ℤ) → a -ℤ b ≡ c -ℤ d → b -ℤ a ≡ d -ℤ c
turn a b c d e =
    let e' = simp diffs at (rw (diff a, diff b, diff c, diff d) at e) in
    rw (diff a, diff b, diff c, diff d) (simp diffs (omega (zarith, e')))

chain : (a b c d e f : ℤ) → a -ℤ b ≡ d -ℤ e → b -ℤ c ≡ e -ℤ f → a -ℤ c ≡ d -ℤ f
chain a b c d e f p q =
    let p' = simp diffs at (rw (diff a, diff b, diff d, diff e) at p) in
    let q' = simp diffs at (rw (diff b, diff c, diff e, diff f) at q) in
    rw (diff a, diff c, diff d, diff f) (simp diffs (omega (zarith, p', q')))

pub shifted_back : (fs gs : List ℤ) → length gs ≡ length fs → shifted fs gs ≡ true → shifted gs fs ≡ true
shifted_back fs gs long e = alike_shifted gs fs (λ z h. turn (at_ℤ fs z) (at_ℤ gs z) (at_ℤ fs 0) (at_ℤ gs 0) (shifted_alike fs gs e z (omega arith)))

pub shifted_on : (fs gs hs : List ℤ) → length gs ≡ length fs → shifted fs gs ≡ true → shifted gs hs ≡ true → shifted fs hs ≡ true
shifted_on fs gs hs long e q = alike_shifted fs hs (λ z h. chain (at_ℤ fs z) (at_ℤ gs z) (at_ℤ hs z) (at_ℤ fs 0) (at_ℤ gs 0) (at_ℤ hs 0) (shifted_alike fs gs e z h) (shifted_alike gs hs q z (omega arith)))

-- ---- one spread
min_less : (x y c : ℤ) → min_ℤ (x -ℤ c) (y -ℤ c) ≡ min_ℤ x y -ℤ c
unfolding min_ℤ
min_less x y c = go (lt_z x y) refl
  where
    go : (t : Bool) → lt_z x y ≡ t → cond (lt_z (x -ℤ c) (y -ℤ c)) (x -ℤ c) (y -ℤ c) ≡ cond t x y -ℤ c
    go true e = ap (λ (t : Bool). cond t (x -ℤ c) (y -ℤ c)) (lt_lt_z (lt_less x y c (lt_z_true e)))
    go false e = ap (λ (t : Bool). cond t (x -ℤ c) (y -ℤ c)) (le_lt_z (le_less x y c (lt_z_false e)))

-- fs has what gs has, each less c
Less : (c : ℤ) → (fs gs : List ℤ) → Type 0
Less c fs gs = (z : ℕ) → z < length fs → at_ℤ fs z ≡ at_ℤ gs z -ℤ c

module _ (c : ℤ) where
  highest-less : (m : ℤ) (fs gs : List ℤ) → length gs ≡ length fs → Less c fs gs → highest (m -ℤ c) fs ≡ highest m gs -ℤ c
  unfolding highest Less
  highest-less m [] [] long h = refl
  highest-less m [] (g ∷ gs) long h = absurd (omega arith)
  highest-less m (f ∷ fs) [] long h = absurd (omega arith)
  highest-less m (f ∷ fs) (g ∷ gs) long h =
      ap (λ (x : ℤ). highest (max_ℤ (m -ℤ c) x) fs) (h 0 (omega arith)) ∙ ap (λ (x : ℤ). highest x fs) (max_less m g c)
      ∙ highest-less (max_ℤ m g) fs gs (omega arith) (λ z l. h (suc z) (omega arith))

  lowest-less : (m : ℤ) (fs gs : List ℤ) → length gs ≡ length fs → Less c fs gs → lowest (m -ℤ c) fs ≡ lowest m gs -ℤ c
  unfolding lowest Less
  lowest-less m [] [] long h = refl
  lowest-less m [] (g ∷ gs) long h = absurd (omega arith)
  lowest-less m (f ∷ fs) [] long h = absurd (omega arith)
  lowest-less m (f ∷ fs) (g ∷ gs) long h =
      ap (λ (x : ℤ). lowest (min_ℤ (m -ℤ c) x) fs) (h 0 (omega arith)) ∙ ap (λ (x : ℤ). lowest x fs) (min_less m g c)
      ∙ lowest-less (min_ℤ m g) fs gs (omega arith) (λ z l. h (suc z) (omega arith))

  both-less : (x y : ℤ) → (x -ℤ c) -ℤ (y -ℤ c) ≡ x -ℤ y
  both-less x y = rw (diff x, diff y, diff c) (simp diffs (omega zarith))

  spread-less : (fs gs : List ℤ) → length gs ≡ length fs → Less c fs gs → spread_of fs ≡ spread_of gs
  unfolding spread_of Less
  spread-less [] [] long h = refl
  spread-less [] (g ∷ gs) long h = absurd (omega arith)
  spread-less (f ∷ fs) [] long h = absurd (omega arith)
  spread-less (f ∷ fs) (g ∷ gs) long h =
      let rest : Less c fs gs = λ z l. h (suc z) (omega arith) in
      ap (λ (x : ℤ). highest x fs -ℤ lowest x fs) (h 0 (omega arith))
      ∙ ap₂ ◌-ℤ◌ (highest-less g fs gs (omega arith) rest) (lowest-less g fs gs (omega arith) rest)
      ∙ both-less (highest g gs) (lowest g gs)

apart : (a b c d : ℤ) → a -ℤ b ≡ c -ℤ d → a ≡ b -ℤ (d -ℤ c)
apart a b c d e =
    let e' = simp diffs at (rw (diff a, diff b, diff c, diff d) at e) in
    rw (diff a, diff b, diff c, diff d) (simp diffs (omega (zarith, e')))

pub shifted_spread : (fs gs : List ℤ) → length gs ≡ length fs → shifted fs gs ≡ true → spread_of fs ≡ spread_of gs
unfolding Less
shifted_spread fs gs long e = spread-less (at_ℤ gs 0 -ℤ at_ℤ fs 0) fs gs long (λ z h. apart (at_ℤ fs z) (at_ℤ gs z) (at_ℤ fs 0) (at_ℤ gs 0) (shifted_alike fs gs e z h))
