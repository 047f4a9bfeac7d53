use mathlib.Core.Path.{◌≡◌, refl, sym, ap, ◌∙◌}
use Prim.Native.Nat.{ℕ, ◌+◌, ◌≤◌}
use mathlib.Core.List.{List}
use native.Mathlib.Numerals.{add-one}
use native.Mathlib.Omega.{arith}
use lib.ListN.{length, drop, length-drop}
use Rattle.text.specs.Line.{line_at, after}
use Rattle.text.proofs.LineLaws.{line_le_length}
use Rattle.meanings.specs.Meanings.{line_begin}
use Rattle.meanings.proofs.line_begin.Goals as goal

within-list : (list : List ℕ) (at : ℕ) → at ≤ length list → after list at ≤ length list
within-list list at h = omega (arith, line_le_length (drop at list), length-drop at list)

begun_more : (list line : List ℕ) (k at i : ℕ) → record { high : i ≤ k; here : at ≡ line_begin list i; within : at ≤ length list } → line ≡ line_at list at → i + 1 ≤ k → record { high : i + 1 ≤ k; here : at + length line ≡ line_begin list (i + 1); within : at + length line ≤ length list }
begun_more list line k at i u e h = let next : at + length line ≡ after list at = ap (λ (l : List ℕ). at + length l) e in
    record { high = h; here = next ∙ ap (after list) u.here ∙ ap (line_begin list) (sym (add-one i)); within = omega (arith, next, within-list list at u.within) }

begun_all : (list : List ℕ) (k at i : ℕ) → record { high : i ≤ k; here : at ≡ line_begin list i; within : at ≤ length list } → k ≤ i → (at ≡ line_begin list k) × (at ≤ length list)
begun_all list k at i u h = let e : i ≡ k = omega (arith, u.high) in (u.here ∙ ap (line_begin list) e, u.within)

pub loop-init : goal.loop-init
loop-init c = record { high = omega arith; here = refl; within = omega arith }

pub line_at-requires : goal.line_at-requires
line_at-requires c = c.loop.invariant.within

pub overflow_add-at : goal.overflow_add-at
overflow_add-at c = omega (arith, (begun_more _ _ _ _ _ c.loop.invariant c.line_at.ensures (omega arith)).within)

pub loop-preserved : goal.loop-preserved
loop-preserved c = begun_more _ _ _ _ _ c.loop.invariant c.line_at.ensures (omega arith)

pub returns : goal.returns
returns c = begun_all _ _ _ _ c.loop.invariant c.loop-test.false
