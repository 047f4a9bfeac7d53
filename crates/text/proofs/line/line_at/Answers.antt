-- `text::line::line_at` meets its contract: the part of the text from p up to the line's end is the line (`line-take`).
use Prim.Native.Nat.{ℕ, ◌-◌}
use mathlib.Core.Path.{◌≡◌, ap, ◌∙◌}
use native.Mathlib.Omega.{arith}
use lib.ListN.{length, take, drop, length-drop}
use Rattle.text.specs.Line.{line_of}
use Rattle.text.proofs.LineLaws.{line_take, line_le_length}
use Rattle.text.proofs.line.line_at.Goals as goal

pub slice_bounds-result-end : goal.slice_bounds-result-end
slice_bounds-result-end c = omega (arith, line_le_length (drop c.args.p c.args.text.now), length-drop c.args.p c.args.text.now)

pub returns : goal.returns
returns c = let s = drop c.args.p c.args.text.now in
    let k : c.line_end-end.result - c.args.p ≡ length (line_of s) = omega (arith, c.line_end-end.ensures) in
    ap (λ (n : ℕ). take n s) k ∙ line_take s
