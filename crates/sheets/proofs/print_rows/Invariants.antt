-- `sheets::print_rows` is safe and ends. The invariant: the buffer is as long as it came. The measure is the number of rows left.
use mathlib.Core.Path.{◌≡◌}
use lib.ListN.{length}
use Rattle.sheets.proofs.print_rows.Given as goal

abbrev pub invariant-loop-k : goal.invariant-loop-k
invariant-loop-k l = length l.out ≡ length l.initial.out
