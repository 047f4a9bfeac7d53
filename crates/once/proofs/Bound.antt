-- No second answer satisfies the contract of `bound`, of `bound_marked` or of `bound_for`.
-- The theorems are about the contracts themselves as the checker reads them (`reads.Post`), and not about copies.
use Rattle.std.specs.Prelude.{Err, Ok}
use mathlib.Core.Path.{◌≡◌, refl, sym, ap, ◌∙◌}
use contract.Lifetimes.{Lfts}
use denote.Triple.Clauses.{AtExit}
use borrow.Fn.World.{ArgsD, ResD}
use borrow.Fn.Kinds.{ended_of}
use Rattle.refusals.specs.Refusals.{Judged}
use Rattle.tightrules.specs.declared.RoundsMost.{RoundsMost}
use Rattle.doors.specs.contracts.bound as every
use Rattle.doors.proofs.bound.Kinds as every-kinds
use Rattle.doors.proofs.bound.Reads as every-reads
use Rattle.doors.specs.contracts.bound_marked as some
use Rattle.doors.proofs.bound_marked.Kinds as some-kinds
use Rattle.doors.proofs.bound_marked.Reads as some-reads
use Rattle.doors.specs.contracts.bound_for as asked
use Rattle.doors.proofs.bound_for.Kinds as asked-kinds
use Rattle.doors.proofs.bound_for.Reads as asked-reads

-- an answer can be read back from what it says
bounded_of : Judged RoundsMost → Judged RoundsMost
bounded_of (Ok b) = Ok b
bounded_of (Err w) = Err w

back : (r : Judged RoundsMost) → bounded_of r ≡ r
unfolding bounded_of
back (Ok b) = refl
back (Err w) = refl

one : (said : Judged RoundsMost) (r r' : Judged RoundsMost) → r ≡ said → r' ≡ said → r ≡ r'
one said r r' p q = sym (back r) ∙ ap bounded_of (p ∙ sym q) ∙ back r'

pub bound_once : (κs : Lfts 2) (x : ArgsD every.signature κs) (r r' : ResD every.signature κs) (s s' : AtExit (ended_of 2 every-kinds.ps every-kinds.r) κs)
    → every-reads.Post κs x r s → every-reads.Post κs x r' s' → r ≡ r'
bound_once κs x r r' s s' p q = one _ _ _ p q

pub bound_marked_once : (κs : Lfts 3) (x : ArgsD some.signature κs) (r r' : ResD some.signature κs) (s s' : AtExit (ended_of 3 some-kinds.ps some-kinds.r) κs)
    → some-reads.Post κs x r s → some-reads.Post κs x r' s' → r ≡ r'
bound_marked_once κs x r r' s s' p q = one _ _ _ p q

pub bound_for_once : (κs : Lfts 3) (x : ArgsD asked.signature κs) (r r' : ResD asked.signature κs) (s s' : AtExit (ended_of 3 asked-kinds.ps asked-kinds.r) κs)
    → asked-reads.Post κs x r s → asked-reads.Post κs x r' s' → r ≡ r'
bound_for_once κs x r r' s s' p q = one _ _ _ p q
