-- No second answer, and no second content of the lent bytes, satisfies the contract of `corner_text`.
-- The theorem is about the contract itself as the checker reads it (`reads.Post`), and not about a copy.
use mathlib.Core.Path.{◌≡◌}
use contract.Lifetimes.{Lfts}
use denote.Triple.Clauses.{AtExit}
use borrow.Fn.World.{ArgsD, ResD}
use borrow.Fn.Kinds.{ended_of}
use Rattle.text.proofs.LeftLaws.{said_once}
use Rattle.cornertext.specs.contracts.corner_text.{signature}
use Rattle.cornertext.proofs.corner_text.Kinds as kinds
use Rattle.cornertext.proofs.corner_text.Reads as reads

pub corner_text_once : (κs : Lfts 3) (x : ArgsD signature κs) (r r' : ResD signature κs) (s s' : AtExit (ended_of 3 kinds.ps kinds.r) κs)
    → reads.Post κs x r s → reads.Post κs x r' s'
    → (r ≡ r') × (s.1.1.0.now ≡ s'.1.1.0.now)
corner_text_once κs x r r' s s' p q = said_once _ _ _ _ _ p q
