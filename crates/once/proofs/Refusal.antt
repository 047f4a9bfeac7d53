-- No second answer, and no second content of the lent bytes, satisfies the contract of `write_refusal`, which crates above call.
-- The theorem is about the contract as the check reads it from the source (`reads.Post`), and not about a copy.
use mathlib.Core.Path.{◌≡◌}
use contract.Lifetimes.{Lfts}
use denote.Triple.Clauses.{AtExit}
use borrow.Fn.World.{ArgsD, ResD}
use borrow.Fn.Kinds.{ended_of}
use Rattle.text.proofs.LeftLaws.{said_once}
use Rattle.result.specs.contracts.refusal.write_refusal as write-refusal
use Rattle.result.proofs.refusal.write_refusal.Kinds as write-refusal-kinds
use Rattle.result.proofs.refusal.write_refusal.Reads as write-refusal-reads

-- besides the equation it says how many bytes it asks for at most
pub write_refusal_once : (κs : Lfts 1) (x : ArgsD write-refusal.signature κs) (r r' : ResD write-refusal.signature κs) (s s' : AtExit (ended_of 1 write-refusal-kinds.ps write-refusal-kinds.r) κs)
    → write-refusal-reads.Post κs x r s → write-refusal-reads.Post κs x r' s' → (r ≡ r') × (s.1.1.1.0.now ≡ s'.1.1.1.0.now)
write_refusal_once κs x r r' s s' p q = said_once _ _ _ _ _ p.0 q.0
