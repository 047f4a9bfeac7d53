-- No second answer, and no second content of a lent buffer, satisfies the contract of `why`, of `why_marked` or of `why_for`.
-- The theorems are about the contracts themselves, as the check reads them from the source (`reads.Post`), and not about copies.
use Rattle.std.specs.Prelude.{Err, Ok}
use mathlib.Core.Path.{◌≡◌, refl, sym, ap, ◌∙◌}
use mathlib.Core.List.{List}
use Prim.Native.Nat.{ℕ}
use lib.IntN.{ℤ}
use contract.Lifetimes.{Lfts}
use denote.Triple.Clauses.{AtExit}
use borrow.Fn.World.{ArgsD, ResD}
use borrow.Fn.Kinds.{ended_of}
use Rattle.refusals.specs.Refusals.{Judged}
use Rattle.holding.specs.declared.Reasons.{Reasons}
use Rattle.why.specs.Why.{WhyLeft, leaves}
use Rattle.doors.specs.contracts.reasons.why as every
use Rattle.doors.proofs.reasons.why.Kinds as every-kinds
use Rattle.doors.proofs.reasons.why.Reads as every-reads
use Rattle.doors.specs.contracts.reasons.why_marked as some
use Rattle.doors.proofs.reasons.why_marked.Kinds as some-kinds
use Rattle.doors.proofs.reasons.why_marked.Reads as some-reads
use Rattle.doors.specs.contracts.reasons.why_for as asked
use Rattle.doors.proofs.reasons.why_for.Kinds as asked-kinds
use Rattle.doors.proofs.reasons.why_for.Reads as asked-reads

-- an answer can be read back from what it says
explained_of : Judged Reasons → Judged Reasons
explained_of (Ok r) = Ok r
explained_of (Err w) = Err w

back : (r : Judged Reasons) → explained_of r ≡ r
unfolding explained_of
back (Ok r) = refl
back (Err w) = refl

-- whatever a call may leave
one : (may : WhyLeft) (r r' : Judged Reasons) (ps ps' : List ℕ) (ends ends' rows rows' : List (List ℤ)) → leaves r ps ends rows ≡ may → leaves r' ps' ends' rows' ≡ may
    → (r ≡ r') × ((ps ≡ ps') × ((ends ≡ ends') × (rows ≡ rows')))
one may r r' ps ps' ends ends' rows rows' p q =
    let e = p ∙ sym q in
    (sym (back r) ∙ ap explained_of (ap (λ (l : WhyLeft). l.answer) e) ∙ back r', (ap (λ (l : WhyLeft). l.p) e, (ap (λ (l : WhyLeft). l.ends) e, ap (λ (l : WhyLeft). l.rows) e)))

-- the border stands before p
pub why_once : (κs : Lfts 5) (x : ArgsD every.signature κs) (r r' : ResD every.signature κs) (s s' : AtExit (ended_of 5 every-kinds.ps every-kinds.r) κs) → every-reads.Post κs x r s → every-reads.Post κs x r' s'
    → (r ≡ r')
    × ((s.1.1.0.now ≡ s'.1.1.0.now)
    × ((s.1.1.1.0.now ≡ s'.1.1.1.0.now)
    × (s.1.1.1.1.0.now ≡ s'.1.1.1.1.0.now)))
why_once κs x r r' s s' p q = one _ r r' _ _ _ _ _ _ p q

-- the same arguments after the marks
pub why_marked_once : (κs : Lfts 6) (x : ArgsD some.signature κs) (r r' : ResD some.signature κs) (s s' : AtExit (ended_of 6 some-kinds.ps some-kinds.r) κs) → some-reads.Post κs x r s → some-reads.Post κs x r' s'
    → (r ≡ r')
    × ((s.1.1.1.0.now ≡ s'.1.1.1.0.now)
    × ((s.1.1.1.1.0.now ≡ s'.1.1.1.1.0.now)
    × (s.1.1.1.1.1.0.now ≡ s'.1.1.1.1.1.0.now)))
why_marked_once κs x r r' s s' p q = one _ r r' _ _ _ _ _ _ p q

-- the same arguments after the marks, where there are any
pub why_for_once : (κs : Lfts 6) (x : ArgsD asked.signature κs) (r r' : ResD asked.signature κs) (s s' : AtExit (ended_of 6 asked-kinds.ps asked-kinds.r) κs) → asked-reads.Post κs x r s → asked-reads.Post κs x r' s'
    → (r ≡ r')
    × ((s.1.1.1.0.now ≡ s'.1.1.1.0.now)
    × ((s.1.1.1.1.0.now ≡ s'.1.1.1.1.0.now)
    × (s.1.1.1.1.1.0.now ≡ s'.1.1.1.1.1.0.now)))
why_for_once κs x r r' s s' p q = one _ r r' _ _ _ _ _ _ p q
