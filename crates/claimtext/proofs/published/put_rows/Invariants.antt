-- `claimtext::published::put_rows` meets its contract. The loop's invariant: the lines of the first i rows are written. The measure is the rows that are left.
use Prim.Native.Nat.{◌≤◌}
use lib.ListN.{length}
use Rattle.text.specs.Put.{Put}
use Rattle.text.specs.Written.{lines_text}
use Rattle.staterules.specs.Standings.{standings_with}
use Rattle.claimtext.specs.Published.{published_line}
use Rattle.claims.specs.Unflagged.{unflagged}
use Rattle.claimtext.proofs.published.put_rows.Given as goal

abbrev pub invariant-loop-i : goal.invariant-loop-i
invariant-loop-i l = (l.i ≤ length l.states) × Put (lines_text l.i 0 (published_line (standings_with l.rams l.states) (unflagged l.states l.named))) 0 l.initial.out l.next l.out
