-- `write_rows` has one answer: no second one, and no second content of the lent bytes, satisfies its contract.
-- The theorem is about the contract as the check reads it from the source (`reads.Post`), and not about a copy.
use mathlib.Core.Path.{◌≡◌}
use contract.Lifetimes.{Lfts}
use denote.Triple.Clauses.{AtExit}
use borrow.Fn.World.{ArgsD, ResD}
use borrow.Fn.Kinds.{ended_of}
use Rattle.text.proofs.LeftLaws.{said_once}
use Rattle.rowsheet.specs.contracts.write_rows.{signature}
use Rattle.rowsheet.proofs.write_rows.Kinds as kinds
use Rattle.rowsheet.proofs.write_rows.Reads as reads

-- `out` is the call's fourth argument
pub write_rows_once : (κs : Lfts 3) (x : ArgsD signature κs) (r r' : ResD signature κs) (s s' : AtExit (ended_of 3 kinds.ps kinds.r) κs)
    → reads.Post κs x r s → reads.Post κs x r' s' → (r ≡ r') × (s.1.1.1.0.now ≡ s'.1.1.1.0.now)
write_rows_once κs x r r' s s' p q = said_once _ _ _ _ _ p q
