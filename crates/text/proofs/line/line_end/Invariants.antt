-- `text::line::line_end` meets its contract. The invariant: what is left of the line from i on, with what is passed, is the line at p.
use Prim.Native.Nat.{◌+◌, ◌≤◌}
use mathlib.Core.Path.{◌≡◌}
use lib.ListN.{length, drop}
use Rattle.text.specs.Line.{line_of}
use Rattle.text.proofs.line.line_end.Given as goal

abbrev pub invariant-loop-i : goal.invariant-loop-i
invariant-loop-i l = (l.i ≤ length l.text) × (l.p + length (line_of (drop l.p l.text)) ≡ l.i + length (line_of (drop l.i l.text)))
