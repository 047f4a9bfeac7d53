-- `claimline::tabs_in` meets its contract. The invariant: the tabs of the first i bytes are counted (`Summed`). The measure is the bytes that are left.
use lib.ListN.{length}
use Rattle.numbers.proofs.BelowLaws.{Summed}
use Rattle.claimline.specs.ClaimText.{is_tab}
use Rattle.claimline.proofs.tabs_in.Given as goal

abbrev pub invariant-loop-i : goal.invariant-loop-i
invariant-loop-i l = Summed (is_tab l.line) (length l.line) l.i l.tabs
