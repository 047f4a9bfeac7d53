-- No second answer satisfies the contract of `judge_claims`. It writes to nothing that is lent.
-- The theorem is about the contract itself, as the check reads it from the source (`reads.Post`), and not about a copy.
use mathlib.Core.Path.{◌≡◌, sym, ◌∙◌}
use contract.Lifetimes.{Lfts}
use denote.Triple.Clauses.{AtExit}
use borrow.Fn.World.{ArgsD, ResD}
use borrow.Fn.Kinds.{ended_of}
use Rattle.refusals.proofs.AnswerLaws.{said_judgement_injective}
use Rattle.claims.specs.contracts.judge_claims.{signature}
use Rattle.claims.proofs.judge_claims.Kinds as kinds
use Rattle.claims.proofs.judge_claims.Reads as reads

pub judge_claims_once : (κs : Lfts 3) (x : ArgsD signature κs) (r r' : ResD signature κs) (s s' : AtExit (ended_of 3 kinds.ps kinds.r) κs)
    → reads.Post κs x r s → reads.Post κs x r' s' → r ≡ r'
judge_claims_once κs x r r' s s' p q = said_judgement_injective _ r r' (p ∙ sym q)
