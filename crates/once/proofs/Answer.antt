-- No second answer, and no second content of the lent bytes, satisfies the contract of `result_text` or of `answer`, of one of them with marks
-- or with a correction sheet, or of `answer_good`, which crates above call.
-- The theorems are about the contracts as the check reads them from the source (`reads.Post`), and not about copies.
use Rattle.refusals.specs.Refusals.{Judged, Ruling}
use mathlib.Core.Path.{◌≡◌, sym, ap₂, ◌∙◌}
use mathlib.Core.List.{List}
use Prim.Native.Nat.{ℕ}
use contract.Lifetimes.{Lfts}
use denote.Triple.Clauses.{AtExit}
use borrow.Fn.World.{ArgsD, ResD}
use borrow.Fn.Kinds.{ended_of}
use Rattle.text.specs.Left.{TextLeft, text_said}
use Rattle.text.proofs.LeftLaws.{said_once}
use Rattle.answer.specs.declared.Answered.{Answered}
use Rattle.answer.specs.contracts.result_text as result-text
use Rattle.answer.proofs.result_text.Kinds as result-text-kinds
use Rattle.answer.proofs.result_text.Reads as result-text-reads
use Rattle.answer.specs.contracts.result_text_marked as result-text-marked
use Rattle.answer.proofs.result_text_marked.Kinds as result-text-marked-kinds
use Rattle.answer.proofs.result_text_marked.Reads as result-text-marked-reads
use Rattle.answer.specs.contracts.answer as answer
use Rattle.answer.proofs.answer.Kinds as answer-kinds
use Rattle.answer.proofs.answer.Reads as answer-reads
use Rattle.answer.specs.contracts.answer_marked as answer-marked
use Rattle.answer.proofs.answer_marked.Kinds as answer-marked-kinds
use Rattle.answer.proofs.answer_marked.Reads as answer-marked-reads
use Rattle.answer.specs.contracts.answer_corrected as answer-corrected
use Rattle.answer.proofs.answer_corrected.Kinds as answer-corrected-kinds
use Rattle.answer.proofs.answer_corrected.Reads as answer-corrected-reads
use Rattle.answer.specs.contracts.answer_good as answer-good
use Rattle.answer.proofs.answer_good.Kinds as answer-good-kinds
use Rattle.answer.proofs.answer_good.Reads as answer-good-reads

-- what was written, and what it tells
answered_once : (left : TextLeft) (told : Ruling) (r r' : Answered) (out out' : List ℕ) → (text_said r.written out ≡ left) × (r.told ≡ told) → (text_said r'.written out' ≡ left) × (r'.told ≡ told)
    → (r ≡ r') × (out ≡ out')
answered_once left told r r' out out' p q =
    let one = said_once left r.written r'.written out out' p.0 q.0 in
    (ap₂ {C = Answered} (λ (w : Judged ℕ) (t : Ruling). record { written = w; told = t }) one.0 (p.1 ∙ sym q.1), one.1)

-- `out` is the call's second argument
pub result_text_once : (κs : Lfts 3) (x : ArgsD result-text.signature κs) (r r' : ResD result-text.signature κs) (s s' : AtExit (ended_of 3 result-text-kinds.ps result-text-kinds.r) κs)
    → result-text-reads.Post κs x r s → result-text-reads.Post κs x r' s' → (r ≡ r') × (s.1.0.now ≡ s'.1.0.now)
result_text_once κs x r r' s s' p q = said_once _ _ _ _ _ p q

-- `out` is the call's second argument
pub answer_once : (κs : Lfts 2) (x : ArgsD answer.signature κs) (r r' : ResD answer.signature κs) (s s' : AtExit (ended_of 2 answer-kinds.ps answer-kinds.r) κs)
    → answer-reads.Post κs x r s → answer-reads.Post κs x r' s' → (r ≡ r') × (s.1.0.now ≡ s'.1.0.now)
answer_once κs x r r' s s' p q = answered_once _ _ _ _ _ _ p q

-- `out` comes after the marks
pub result_text_marked_once : (κs : Lfts 4) (x : ArgsD result-text-marked.signature κs) (r r' : ResD result-text-marked.signature κs)
    (s s' : AtExit (ended_of 4 result-text-marked-kinds.ps result-text-marked-kinds.r) κs)
    → result-text-marked-reads.Post κs x r s → result-text-marked-reads.Post κs x r' s' → (r ≡ r') × (s.1.1.0.now ≡ s'.1.1.0.now)
result_text_marked_once κs x r r' s s' p q = said_once _ _ _ _ _ p q

pub answer_marked_once : (κs : Lfts 3) (x : ArgsD answer-marked.signature κs) (r r' : ResD answer-marked.signature κs) (s s' : AtExit (ended_of 3 answer-marked-kinds.ps answer-marked-kinds.r) κs)
    → answer-marked-reads.Post κs x r s → answer-marked-reads.Post κs x r' s' → (r ≡ r') × (s.1.1.0.now ≡ s'.1.1.0.now)
answer_marked_once κs x r r' s s' p q = answered_once _ _ _ _ _ _ p q

-- both texts have one lifetime
pub answer_corrected_once : (κs : Lfts 2) (x : ArgsD answer-corrected.signature κs) (r r' : ResD answer-corrected.signature κs) (s s' : AtExit (ended_of 2 answer-corrected-kinds.ps answer-corrected-kinds.r) κs)
    → answer-corrected-reads.Post κs x r s → answer-corrected-reads.Post κs x r' s' → (r ≡ r') × (s.1.1.0.now ≡ s'.1.1.0.now)
answer_corrected_once κs x r r' s s' p q = answered_once _ _ _ _ _ _ p q

-- besides the equation it says how many bytes it asks for at most
pub answer_good_once : (κs : Lfts 4) (x : ArgsD answer-good.signature κs) (r r' : ResD answer-good.signature κs) (s s' : AtExit (ended_of 4 answer-good-kinds.ps answer-good-kinds.r) κs)
    → answer-good-reads.Post κs x r s → answer-good-reads.Post κs x r' s' → (r ≡ r') × (s.1.1.1.0.now ≡ s'.1.1.1.0.now)
answer_good_once κs x r r' s s' p q = said_once _ _ _ _ _ p.0 q.0
