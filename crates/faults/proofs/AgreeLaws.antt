-- Two lines that agree up to a place, and a line continued from a place on: the lists behind `Could` of `specs/FirstBad.antt`. No contract cites this file.
use mathlib.Core.Path.{◌≡◌, sym, ap, ap₂, ◌∙◌}
use mathlib.Core.List.{List, ◌++◌}
use Prim.Native.Nat.{ℕ, ◌+◌, ◌≤◌, ◌<◌}
use native.Mathlib.Omega.{arith}
use lib.ListN.{length, get_or, take, drop, length-take, get_or-append}
use lib.Seq.{get_or-take, take-take, take-add, take_at, drop_at, length-take-le}

-- ---- lines that agree in their first n bytes
module _ (line other : List ℕ) (n : ℕ) (a : take n other ≡ take n line) where
  pub agree_at : (i : ℕ) → i < n → get_or other i 0 ≡ get_or line i 0
  agree_at i h = sym (get_or-take n other i 0 h) ∙ ap (λ (l : List ℕ). get_or l i 0) a ∙ get_or-take n line i 0 h

  pub agree_long : (at : ℕ) → at ≤ n → at ≤ length line → at ≤ length other
  agree_long at h l = omega (arith, sym (length-take n other) ∙ ap length a ∙ length-take n line)

  pub agree_less : (m : ℕ) → m ≤ n → take m other ≡ take m line
  agree_less m h = sym (take-take m n other h) ∙ ap (take m) a ∙ take-take m n line h

pub agree_drop : (line other : List ℕ) (at m : ℕ) → at ≤ length line → take (at + m) other ≡ take (at + m) line → take m (drop at other) ≡ take m (drop at line)
agree_drop line other at m h a = sym (cut other (agree_long line other (at + m) a at (omega arith) h)) ∙ ap (drop at) a ∙ cut line h
  where
    cut : (l : List ℕ) → at ≤ length l → drop at (take (at + m) l) ≡ take m (drop at l)
    cut l h = ap (drop at) (take-add at m l) ∙ drop_at (take at l) (take m (drop at l)) at (length-take-le at l h)

-- ---- the line up to place p, and then t
module _ (line : List ℕ) (p : ℕ) (h : p ≤ length line) (t : List ℕ) where
  pub built_drop : drop p (take p line ++ t) ≡ t
  built_drop = drop_at (take p line) t p (length-take-le p line h)

  pub built_take : (m : ℕ) → take m t ≡ take m (drop p line) → take (p + m) (take p line ++ t) ≡ take (p + m) line
  built_take m e =
      take-add p m (take p line ++ t)
      ∙ ap₂ (λ (x y : List ℕ). x ++ y) (take_at (take p line) t p (length-take-le p line h)) (ap (take m) built_drop ∙ e)
      ∙ sym (take-add p m line)

  pub built_at : (i : ℕ) → i < p → get_or (take p line ++ t) i 0 ≡ get_or line i 0
  built_at i l = get_or-append (take p line) t 0 i (omega (arith, length-take-le p line h)) ∙ get_or-take p line i 0 l
