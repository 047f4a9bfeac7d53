-- `read` and `read_corrected` have one answer each: no second one, and no second content of a lent table, satisfies the contract.
-- The theorems are about the contracts as the check reads them from the source (`reads.Post`), and not about copies.
use Rattle.refusals.specs.Refusals.{Judged}
use Rattle.types.specs.declared.Header.{Header}
use mathlib.Core.Path.{◌≡◌, sym, ap, ◌∙◌}
use mathlib.Core.List.{List}
use lib.IntN.{ℤ}
use contract.Lifetimes.{Lfts}
use denote.Triple.Clauses.{AtExit}
use borrow.Fn.World.{ArgsD, ResD}
use borrow.Fn.Kinds.{ended_of}
use Rattle.reading.specs.Reading.{ReadLeft}
use Rattle.reading.specs.Places.{read_said}
use Rattle.lending.specs.contracts.read.{signature}
use Rattle.lending.proofs.read.Kinds as kinds
use Rattle.lending.proofs.read.Reads as reads
use Rattle.lending.specs.contracts.read_corrected as corrected
use Rattle.lending.proofs.read_corrected.Kinds as corrected-kinds
use Rattle.lending.proofs.read_corrected.Reads as corrected-reads

-- what is left tells the answer and each table
left_once : (r r' : Judged Header) (z z' t t' : List ℤ) (b b' c c' : List (List ℤ)) (f f' : List ℤ) (x : ReadLeft) → read_said r z t b c f ≡ x → read_said r' z' t' b' c' f' ≡ x
    → (r ≡ r') × ((z ≡ z') × ((t ≡ t') × ((b ≡ b') × ((c ≡ c') × (f ≡ f')))))
left_once r r' z z' t t' b b' c c' f f' x p q =
    let e = p ∙ sym q in (
      (ap (λ (y : ReadLeft). y.answer) e),
      (ap (λ (y : ReadLeft). y.z) e, (ap (λ (y : ReadLeft). y.t) e, (ap (λ (y : ReadLeft). y.b) e, (ap (λ (y : ReadLeft). y.c) e, ap (λ (y : ReadLeft). y.f) e)))),
    )

pub read_once : (κs : Lfts 6) (x : ArgsD signature κs) (r r' : ResD signature κs) (s s' : AtExit (ended_of 6 kinds.ps kinds.r) κs) → reads.Post κs x r s → reads.Post κs x r' s'
    → (r ≡ r')
    × ((s.1.0.now ≡ s'.1.0.now)
    × ((s.1.1.0.now ≡ s'.1.1.0.now)
    × ((s.1.1.1.0.now ≡ s'.1.1.1.0.now)
    × ((s.1.1.1.1.0.now ≡ s'.1.1.1.1.0.now)
    × (s.1.1.1.1.1.0.now ≡ s'.1.1.1.1.1.0.now)))))
read_once κs x r r' s s' p q = left_once _ _ _ _ _ _ _ _ _ _ _ _ _ p q

pub read_corrected_once : (κs : Lfts 6) (x : ArgsD corrected.signature κs) (r r' : ResD corrected.signature κs) (s s' : AtExit (ended_of 6 corrected-kinds.ps corrected-kinds.r) κs)
    → corrected-reads.Post κs x r s → corrected-reads.Post κs x r' s'
    → (r ≡ r')
    × ((s.1.1.0.now ≡ s'.1.1.0.now)
    × ((s.1.1.1.0.now ≡ s'.1.1.1.0.now)
    × ((s.1.1.1.1.0.now ≡ s'.1.1.1.1.0.now)
    × ((s.1.1.1.1.1.0.now ≡ s'.1.1.1.1.1.0.now)
    × (s.1.1.1.1.1.1.0.now ≡ s'.1.1.1.1.1.1.0.now)))))
read_corrected_once κs x r r' s s' p q = left_once _ _ _ _ _ _ _ _ _ _ _ _ _ p q
