-- No second answer, and no second content of the lent bytes, satisfies the contract of `write` or of `rewrite_corrected`.
-- The theorems are about the contracts as the checker reads them from the source (`reads.Post`), and not about copies.
use mathlib.Core.Path.{◌≡◌}
use contract.Lifetimes.{Lfts}
use denote.Triple.Clauses.{AtExit}
use borrow.Fn.World.{ArgsD, ResD}
use borrow.Fn.Kinds.{ended_of}
use Rattle.text.proofs.LeftLaws.{said_once}
use Rattle.writing.specs.contracts.write.{signature}
use Rattle.writing.proofs.write.Kinds as kinds
use Rattle.writing.proofs.write.Reads as reads
use Rattle.rewriting.specs.contracts.rewrite_corrected as rewrite
use Rattle.rewriting.proofs.rewrite_corrected.Kinds as rewrite-kinds
use Rattle.rewriting.proofs.rewrite_corrected.Reads as rewrite-reads

-- `out` is the call's second argument
pub write_once : (κs : Lfts 3) (x : ArgsD signature κs) (r r' : ResD signature κs) (s s' : AtExit (ended_of 3 kinds.ps kinds.r) κs)
    → reads.Post κs x r s → reads.Post κs x r' s' → (r ≡ r') × (s.1.0.now ≡ s'.1.0.now)
write_once κs x r r' s s' p q = said_once _ _ _ _ _ p q

-- `out` is the call's third argument; both texts have one lifetime
pub rewrite_corrected_once : (κs : Lfts 2) (x : ArgsD rewrite.signature κs) (r r' : ResD rewrite.signature κs) (s s' : AtExit (ended_of 2 rewrite-kinds.ps rewrite-kinds.r) κs)
    → rewrite-reads.Post κs x r s → rewrite-reads.Post κs x r' s' → (r ≡ r') × (s.1.1.0.now ≡ s'.1.1.0.now)
rewrite_corrected_once κs x r r' s s' p q = said_once _ _ _ _ _ p q
