-- `walk::list_all` meets its contract: the first items are their own place (`Filled`).
use Prim.Native.Nat.{ℕ}
use lib.ListN.{length}
use Rattle.numbers.proofs.ListLaws.{Filled}
use Rattle.walk.proofs.list_all.Given as goal

abbrev pub invariant-loop-b : goal.invariant-loop-b
invariant-loop-b l = Filled (λ (b : ℕ). b) (length l.initial.rising) l.initial.rising l.rising l.b
