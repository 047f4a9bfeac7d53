-- No second answer, and no second content of the lent records, satisfies the contract of `margins`.
-- The theorem is about the contract itself as the checker reads it (`reads.Post`), and not about a copy.
use Rattle.refusals.specs.Refusals.{Ruling}
use mathlib.Core.Path.{◌≡◌, sym, ap, ◌∙◌}
use mathlib.Core.List.{List}
use lib.IntN.{ℤ}
use contract.Lifetimes.{Lfts}
use denote.Triple.Clauses.{AtExit}
use borrow.Fn.World.{ArgsD, ResD}
use borrow.Fn.Kinds.{ended_of}
use Rattle.refusals.specs.Answers.{said_judgement}
use Rattle.refusals.proofs.AnswerLaws.{said_judgement_injective}
use Rattle.partrules.specs.Parts.{MarginsLeft, leaves}
use Rattle.parts.specs.contracts.margins.{signature}
use Rattle.parts.proofs.margins.Kinds as kinds
use Rattle.parts.proofs.margins.Reads as reads

one : (left : MarginsLeft) (r r' : Ruling) (o o' : List (List ℤ)) → leaves (said_judgement r tt) o ≡ left → leaves (said_judgement r' tt) o' ≡ left → (r ≡ r') × (o ≡ o')
one left r r' o o' p q =
    let e = p ∙ sym q in
    (said_judgement_injective tt r r' (ap (λ (l : MarginsLeft). l.answer) e), ap (λ (l : MarginsLeft). l.out) e)

pub margins_once : (κs : Lfts 3) (x : ArgsD signature κs) (r r' : ResD signature κs) (s s' : AtExit (ended_of 3 kinds.ps kinds.r) κs)
    → reads.Post κs x r s → reads.Post κs x r' s' → (r ≡ r') × (s.1.0.now ≡ s'.1.0.now)
margins_once κs x r r' s s' p q = one _ _ _ _ _ p q
