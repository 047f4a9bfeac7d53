-- No second answer, and no second content of a lent buffer, satisfies the contract of `extract`, of `extract_marked` or of `extract_for`.
-- The theorems are about the contracts themselves, as the check reads them from the source (`reads.Post`), and not about copies.
use Rattle.refusals.specs.Refusals.{Judged}
use mathlib.Core.Path.{◌≡◌, sym, ap, ◌∙◌}
use mathlib.Core.List.{List}
use Prim.Native.Nat.{ℕ}
use lib.IntN.{ℤ}
use contract.Lifetimes.{Lfts}
use denote.Triple.Clauses.{AtExit}
use borrow.Fn.World.{ArgsD, ResD}
use borrow.Fn.Kinds.{ended_of}
use Rattle.extractrules.specs.Extraction.{ExtractLeft, leaves}
use Rattle.doors.specs.contracts.extract.{signature}
use Rattle.doors.proofs.extract.Kinds as kinds
use Rattle.doors.proofs.extract.Reads as reads
use Rattle.doors.specs.contracts.extract_marked as marked
use Rattle.doors.proofs.extract_marked.Kinds as marked-kinds
use Rattle.doors.proofs.extract_marked.Reads as marked-reads
use Rattle.doors.specs.contracts.extract_for as asked
use Rattle.doors.proofs.extract_for.Kinds as asked-kinds
use Rattle.doors.proofs.extract_for.Reads as asked-reads

-- whatever the contract allows a call to leave, it is one thing
one : (may : ExtractLeft) (r r' : Judged ℕ) (ps ps' : List ℕ) (atcs atcs' lefts lefts' : List (List ℤ)) → leaves r ps atcs lefts ≡ may → leaves r' ps' atcs' lefts' ≡ may
    → (r ≡ r') × ((ps ≡ ps') × ((atcs ≡ atcs') × (lefts ≡ lefts')))
one may r r' ps ps' atcs atcs' lefts lefts' p q =
    let e = p ∙ sym q in
    ((ap (λ (l : ExtractLeft). l.answer) e), (ap (λ (l : ExtractLeft). l.p) e, (ap (λ (l : ExtractLeft). l.atcs) e, ap (λ (l : ExtractLeft). l.lefts) e)))

pub extract_once : (κs : Lfts 5) (x : ArgsD signature κs) (r r' : ResD signature κs) (s s' : AtExit (ended_of 5 kinds.ps kinds.r) κs) → reads.Post κs x r s → reads.Post κs x r' s'
    → (r ≡ r')
    × ((s.1.0.now ≡ s'.1.0.now)
    × ((s.1.1.0.now ≡ s'.1.1.0.now)
    × (s.1.1.1.0.now ≡ s'.1.1.1.0.now)))
extract_once κs x r r' s s' p q = one _ r r' _ _ _ _ _ _ p q

-- the marks stand between p and the results
pub extract_marked_once : (κs : Lfts 6) (x : ArgsD marked.signature κs) (r r' : ResD marked.signature κs) (s s' : AtExit (ended_of 6 marked-kinds.ps marked-kinds.r) κs)
    → marked-reads.Post κs x r s → marked-reads.Post κs x r' s'
    → (r ≡ r')
    × ((s.1.0.now ≡ s'.1.0.now)
    × ((s.1.1.1.0.now ≡ s'.1.1.1.0.now)
    × (s.1.1.1.1.0.now ≡ s'.1.1.1.1.0.now)))
extract_marked_once κs x r r' s s' p q = one _ r r' _ _ _ _ _ _ p q

-- `extract_for`: the marks, where there are any, stand before p
pub extract_for_once : (κs : Lfts 6) (x : ArgsD asked.signature κs) (r r' : ResD asked.signature κs) (s s' : AtExit (ended_of 6 asked-kinds.ps asked-kinds.r) κs)
    → asked-reads.Post κs x r s → asked-reads.Post κs x r' s'
    → (r ≡ r')
    × ((s.1.1.0.now ≡ s'.1.1.0.now)
    × ((s.1.1.1.0.now ≡ s'.1.1.1.0.now)
    × (s.1.1.1.1.0.now ≡ s'.1.1.1.1.0.now)))
extract_for_once κs x r r' s s' p q = one _ r r' _ _ _ _ _ _ p q
