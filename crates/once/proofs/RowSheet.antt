-- `read_rows` has one answer: no second one, and no second content of a lent table, satisfies its contract.
-- The theorem is about the contract as the check reads it from the source (`reads.Post`), and not about a copy.
use Rattle.refusals.specs.Refusals.{Ruling}
use mathlib.Core.Path.{◌≡◌, sym, ap, ◌∙◌}
use mathlib.Core.List.{List}
use lib.IntN.{ℤ}
use contract.Lifetimes.{Lfts}
use denote.Triple.Clauses.{AtExit}
use borrow.Fn.World.{ArgsD, ResD}
use borrow.Fn.Kinds.{ended_of}
use Rattle.refusals.proofs.AnswerLaws.{said_judgement_injective}
use Rattle.rowsheet.specs.RowSheet.{RowsLeft, rows_said}
use Rattle.rowsheet.specs.contracts.read_rows.{signature}
use Rattle.rowsheet.proofs.read_rows.Kinds as kinds
use Rattle.rowsheet.proofs.read_rows.Reads as reads

-- what is left tells the answer and each table
left_once : (r r' : Ruling) (c c' : List (List ℤ)) (f f' : List ℤ) (x : RowsLeft) → rows_said r c f ≡ x → rows_said r' c' f' ≡ x → (r ≡ r') × ((c ≡ c') × (f ≡ f'))
left_once r r' c c' f f' x p q =
    let e = p ∙ sym q in
    (said_judgement_injective tt r r' (ap (λ (y : RowsLeft). y.answer) e), (ap (λ (y : RowsLeft). y.c) e, ap (λ (y : RowsLeft). y.f) e))

pub read_rows_once : (κs : Lfts 3) (x : ArgsD signature κs) (r r' : ResD signature κs) (s s' : AtExit (ended_of 3 kinds.ps kinds.r) κs) → reads.Post κs x r s → reads.Post κs x r' s'
    → (r ≡ r') × ((s.1.1.0.now ≡ s'.1.1.0.now) × (s.1.1.1.0.now ≡ s'.1.1.1.0.now))
read_rows_once κs x r r' s s' p q = left_once _ _ _ _ _ _ _ p q
