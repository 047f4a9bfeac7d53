-- No second answer, and no second content of a lent buffer, satisfies the contract of a call for C.
-- The theorems are about the contracts as the check reads them from the source (`reads.Post`), and not about copies.
use mathlib.Core.Path.{◌≡◌, sym, ap, ◌∙◌}
use mathlib.Core.List.{List}
use Prim.Native.Nat.{ℕ}
use lib.IntN.{ℤ}
use contract.Lifetimes.{Lfts}
use denote.Triple.Clauses.{AtExit}
use borrow.Fn.World.{ArgsD, ResD}
use borrow.Fn.Kinds.{ended_of}
use Rattle.coded.specs.declared.KeravnothRead.{KeravnothRead}
use Rattle.coded.specs.declared.KeravnothExtracted.{KeravnothExtracted}
use Rattle.coded.specs.declared.KeravnothJudged.{KeravnothJudged}
use Rattle.coded.specs.Coded.{ReadCoded, read_found, OutCoded, out_found, ExtractCoded, extract_found, RowsCoded, rows_found}
use Rattle.cabi.specs.contracts.keravnoth_1_read as read
use Rattle.cabi.proofs.keravnoth_1_read.Kinds as read-kinds
use Rattle.cabi.proofs.keravnoth_1_read.Reads as read-reads
use Rattle.cabi.specs.contracts.keravnoth_1_read_corrected as read-corrected
use Rattle.cabi.proofs.keravnoth_1_read_corrected.Kinds as read-corrected-kinds
use Rattle.cabi.proofs.keravnoth_1_read_corrected.Reads as read-corrected-reads
use Rattle.cabi.specs.contracts.keravnoth_1_write as write
use Rattle.cabi.proofs.keravnoth_1_write.Kinds as write-kinds
use Rattle.cabi.proofs.keravnoth_1_write.Reads as write-reads
use Rattle.cabi.specs.contracts.keravnoth_1_rewrite_corrected as rewrite-corrected
use Rattle.cabi.proofs.keravnoth_1_rewrite_corrected.Kinds as rewrite-corrected-kinds
use Rattle.cabi.proofs.keravnoth_1_rewrite_corrected.Reads as rewrite-corrected-reads
use Rattle.cabi.specs.contracts.keravnoth_1_extract as extract
use Rattle.cabi.proofs.keravnoth_1_extract.Kinds as extract-kinds
use Rattle.cabi.proofs.keravnoth_1_extract.Reads as extract-reads
use Rattle.cabi.specs.contracts.keravnoth_1_extract_marked as extract-marked
use Rattle.cabi.proofs.keravnoth_1_extract_marked.Kinds as extract-marked-kinds
use Rattle.cabi.proofs.keravnoth_1_extract_marked.Reads as extract-marked-reads
use Rattle.cabi.specs.contracts.keravnoth_1_result_text as result-text
use Rattle.cabi.proofs.keravnoth_1_result_text.Kinds as result-text-kinds
use Rattle.cabi.proofs.keravnoth_1_result_text.Reads as result-text-reads
use Rattle.cabi.specs.contracts.keravnoth_1_result_text_marked as result-text-marked
use Rattle.cabi.proofs.keravnoth_1_result_text_marked.Kinds as result-text-marked-kinds
use Rattle.cabi.proofs.keravnoth_1_result_text_marked.Reads as result-text-marked-reads
use Rattle.cabi.specs.contracts.keravnoth_1_answer as answer
use Rattle.cabi.proofs.keravnoth_1_answer.Kinds as answer-kinds
use Rattle.cabi.proofs.keravnoth_1_answer.Reads as answer-reads
use Rattle.cabi.specs.contracts.keravnoth_1_answer_marked as answer-marked
use Rattle.cabi.proofs.keravnoth_1_answer_marked.Kinds as answer-marked-kinds
use Rattle.cabi.proofs.keravnoth_1_answer_marked.Reads as answer-marked-reads
use Rattle.cabi.specs.contracts.keravnoth_1_answer_corrected as answer-corrected
use Rattle.cabi.proofs.keravnoth_1_answer_corrected.Kinds as answer-corrected-kinds
use Rattle.cabi.proofs.keravnoth_1_answer_corrected.Reads as answer-corrected-reads
use Rattle.cabi.specs.contracts.keravnoth_1_corner_flows as corner-flows
use Rattle.cabi.proofs.keravnoth_1_corner_flows.Kinds as corner-flows-kinds
use Rattle.cabi.proofs.keravnoth_1_corner_flows.Reads as corner-flows-reads
use Rattle.cabi.specs.contracts.keravnoth_1_corner_text as corner-text
use Rattle.cabi.proofs.keravnoth_1_corner_text.Kinds as corner-text-kinds
use Rattle.cabi.proofs.keravnoth_1_corner_text.Reads as corner-text-reads
use Rattle.cabi.specs.contracts.keravnoth_1_published_text as published-text
use Rattle.cabi.proofs.keravnoth_1_published_text.Kinds as published-text-kinds
use Rattle.cabi.proofs.keravnoth_1_published_text.Reads as published-text-reads
use Rattle.cabi.specs.contracts.keravnoth_1_claims as claims
use Rattle.cabi.proofs.keravnoth_1_claims.Kinds as claims-kinds
use Rattle.cabi.proofs.keravnoth_1_claims.Reads as claims-reads
use Rattle.cabi.specs.contracts.keravnoth_1_read_rows as read-rows
use Rattle.cabi.proofs.keravnoth_1_read_rows.Kinds as read-rows-kinds
use Rattle.cabi.proofs.keravnoth_1_read_rows.Reads as read-rows-reads
use Rattle.cabi.specs.contracts.keravnoth_1_write_rows as write-rows
use Rattle.cabi.proofs.keravnoth_1_write_rows.Kinds as write-rows-kinds
use Rattle.cabi.proofs.keravnoth_1_write_rows.Reads as write-rows-reads
use Rattle.cabi.specs.contracts.keravnoth_1_bound as bound
use Rattle.cabi.proofs.keravnoth_1_bound.Kinds as bound-kinds
use Rattle.cabi.proofs.keravnoth_1_bound.Reads as bound-reads
use Rattle.cabi.specs.contracts.keravnoth_1_bound_marked as bound-marked
use Rattle.cabi.proofs.keravnoth_1_bound_marked.Kinds as bound-marked-kinds
use Rattle.cabi.proofs.keravnoth_1_bound_marked.Reads as bound-marked-reads
use Rattle.cabi.specs.contracts.keravnoth_1_margins as margins
use Rattle.cabi.proofs.keravnoth_1_margins.Kinds as margins-kinds
use Rattle.cabi.proofs.keravnoth_1_margins.Reads as margins-reads
use Rattle.coded.specs.declared.KeravnothExplained.{KeravnothExplained}
use Rattle.coded.specs.Coded.{ExplainedCoded, explained_found}
use Rattle.cabi.specs.contracts.keravnoth_1_refusal_text as refusal-text
use Rattle.cabi.proofs.keravnoth_1_refusal_text.Kinds as refusal-text-kinds
use Rattle.cabi.proofs.keravnoth_1_refusal_text.Reads as refusal-text-reads
use Rattle.cabi.specs.contracts.keravnoth_version as the-version
use Rattle.cabi.proofs.keravnoth_version.Kinds as version-kinds
use Rattle.cabi.proofs.keravnoth_version.Reads as version-reads
use Rattle.cabi.specs.contracts.keravnoth_1_why as why
use Rattle.cabi.proofs.keravnoth_1_why.Kinds as why-kinds
use Rattle.cabi.proofs.keravnoth_1_why.Reads as why-reads
use Rattle.cabi.specs.contracts.keravnoth_1_why_marked as why-marked
use Rattle.cabi.proofs.keravnoth_1_why_marked.Kinds as why-marked-kinds
use Rattle.cabi.proofs.keravnoth_1_why_marked.Reads as why-marked-reads

-- ---- whatever the contract allows a call to leave, it is one thing
read_one : (may : ReadCoded) (r r' : KeravnothRead) (z z' t t' : List ℤ) (b b' c c' : List (List ℤ)) (f f' : List ℤ) → read_found r z t b c f ≡ may → read_found r' z' t' b' c' f' ≡ may
    → (r ≡ r') × ((z ≡ z') × ((t ≡ t') × ((b ≡ b') × ((c ≡ c') × (f ≡ f')))))
read_one may r r' z z' t t' b b' c c' f f' p q =
    let e = p ∙ sym q in
    (ap (λ (l : ReadCoded). l.answer) e, (ap (λ (l : ReadCoded). l.z) e, (ap (λ (l : ReadCoded). l.t) e, (ap (λ (l : ReadCoded). l.b) e, (ap (λ (l : ReadCoded). l.c) e, ap (λ (l : ReadCoded). l.f) e)))))

out_one : {A B : Type 0} (may : OutCoded A B) (r r' : A) (out out' : List B) → out_found r out ≡ may → out_found r' out' ≡ may → (r ≡ r') × (out ≡ out')
out_one {A} {B} may r r' out out' p q = let e = p ∙ sym q in (ap (λ (l : OutCoded A B). l.answer) e, ap (λ (l : OutCoded A B). l.out) e)

extract_one : (may : ExtractCoded) (r r' : KeravnothExtracted) (ps ps' : List ℕ) (atcs atcs' lefts lefts' : List (List ℤ)) → extract_found r ps atcs lefts ≡ may → extract_found r' ps' atcs' lefts' ≡ may
    → (r ≡ r') × ((ps ≡ ps') × ((atcs ≡ atcs') × (lefts ≡ lefts')))
extract_one may r r' ps ps' atcs atcs' lefts lefts' p q =
    let e = p ∙ sym q in
    (ap (λ (l : ExtractCoded). l.answer) e, (ap (λ (l : ExtractCoded). l.p) e, (ap (λ (l : ExtractCoded). l.atcs) e, ap (λ (l : ExtractCoded). l.lefts) e)))

rows_one : (may : RowsCoded) (r r' : KeravnothJudged) (c c' : List (List ℤ)) (f f' : List ℤ) → rows_found r c f ≡ may → rows_found r' c' f' ≡ may → (r ≡ r') × ((c ≡ c') × (f ≡ f'))
rows_one may r r' c c' f f' p q = let e = p ∙ sym q in (ap (λ (l : RowsCoded). l.answer) e, (ap (λ (l : RowsCoded). l.c) e, ap (λ (l : RowsCoded). l.f) e))

-- ---- the calls; the tables that `keravnoth_read` fills are its second to sixth arguments
pub keravnoth_read_once : (κs : Lfts 6) (x : ArgsD read.signature κs) (r r' : ResD read.signature κs) (s s' : AtExit (ended_of 6 read-kinds.ps read-kinds.r) κs)
    → read-reads.Post κs x r s → read-reads.Post κs x r' s'
    → (r ≡ r')
    × ((s.1.0.now ≡ s'.1.0.now)
    × ((s.1.1.0.now ≡ s'.1.1.0.now)
    × ((s.1.1.1.0.now ≡ s'.1.1.1.0.now)
    × ((s.1.1.1.1.0.now ≡ s'.1.1.1.1.0.now)
    × (s.1.1.1.1.1.0.now ≡ s'.1.1.1.1.1.0.now)))))
keravnoth_read_once κs x r r' s s' p q = read_one _ _ _ _ _ _ _ _ _ _ _ _ _ p q

-- the tables that `keravnoth_read_corrected` fills are its third to seventh arguments; its two texts have one lifetime
pub keravnoth_read_corrected_once : (κs : Lfts 6) (x : ArgsD read-corrected.signature κs) (r r' : ResD read-corrected.signature κs) (s s' : AtExit (ended_of 6 read-corrected-kinds.ps read-corrected-kinds.r) κs)
    → read-corrected-reads.Post κs x r s → read-corrected-reads.Post κs x r' s'
    → (r ≡ r')
    × ((s.1.1.0.now ≡ s'.1.1.0.now)
    × ((s.1.1.1.0.now ≡ s'.1.1.1.0.now)
    × ((s.1.1.1.1.0.now ≡ s'.1.1.1.1.0.now)
    × ((s.1.1.1.1.1.0.now ≡ s'.1.1.1.1.1.0.now)
    × (s.1.1.1.1.1.1.0.now ≡ s'.1.1.1.1.1.1.0.now)))))
keravnoth_read_corrected_once κs x r r' s s' p q = read_one _ _ _ _ _ _ _ _ _ _ _ _ _ p q

-- `out` is the seventh argument
pub keravnoth_write_once : (κs : Lfts 6) (x : ArgsD write.signature κs) (r r' : ResD write.signature κs) (s s' : AtExit (ended_of 6 write-kinds.ps write-kinds.r) κs)
    → write-reads.Post κs x r s → write-reads.Post κs x r' s' → (r ≡ r') × (s.1.1.1.1.1.1.0.now ≡ s'.1.1.1.1.1.1.0.now)
keravnoth_write_once κs x r r' s s' p q = out_one _ _ _ _ _ p q

-- `out` is the third argument
pub keravnoth_rewrite_corrected_once : (κs : Lfts 2) (x : ArgsD rewrite-corrected.signature κs) (r r' : ResD rewrite-corrected.signature κs) (s s' : AtExit (ended_of 2 rewrite-corrected-kinds.ps rewrite-corrected-kinds.r) κs)
    → rewrite-corrected-reads.Post κs x r s → rewrite-corrected-reads.Post κs x r' s' → (r ≡ r') × (s.1.1.0.now ≡ s'.1.1.0.now)
keravnoth_rewrite_corrected_once κs x r r' s s' p q = out_one _ _ _ _ _ p q

-- p is the seventh, and the results are the eighth and the ninth
pub keravnoth_extract_once : (κs : Lfts 8) (x : ArgsD extract.signature κs) (r r' : ResD extract.signature κs) (s s' : AtExit (ended_of 8 extract-kinds.ps extract-kinds.r) κs)
    → extract-reads.Post κs x r s → extract-reads.Post κs x r' s'
    → (r ≡ r')
    × ((s.1.1.1.1.1.1.0.now ≡ s'.1.1.1.1.1.1.0.now)
    × ((s.1.1.1.1.1.1.1.0.now ≡ s'.1.1.1.1.1.1.1.0.now) × (s.1.1.1.1.1.1.1.1.0.now ≡ s'.1.1.1.1.1.1.1.1.0.now)))
keravnoth_extract_once κs x r r' s s' p q = extract_one _ _ _ _ _ _ _ _ _ p q

-- p is the seventh, and the results are the ninth and the tenth
pub keravnoth_extract_marked_once : (κs : Lfts 9) (x : ArgsD extract-marked.signature κs) (r r' : ResD extract-marked.signature κs) (s s' : AtExit (ended_of 9 extract-marked-kinds.ps extract-marked-kinds.r) κs)
    → extract-marked-reads.Post κs x r s → extract-marked-reads.Post κs x r' s' → (r ≡ r') × ((s.1.1.1.1.1.1.0.now ≡ s'.1.1.1.1.1.1.0.now) × ((s.1.1.1.1.1.1.1.1.0.now ≡ s'.1.1.1.1.1.1.1.1.0.now) × (s.1.1.1.1.1.1.1.1.1.0.now ≡ s'.1.1.1.1.1.1.1.1.1.0.now)))
keravnoth_extract_marked_once κs x r r' s s' p q = extract_one _ _ _ _ _ _ _ _ _ p q

-- `out` is the seventh argument
pub keravnoth_result_text_once : (κs : Lfts 6) (x : ArgsD result-text.signature κs) (r r' : ResD result-text.signature κs) (s s' : AtExit (ended_of 6 result-text-kinds.ps result-text-kinds.r) κs)
    → result-text-reads.Post κs x r s → result-text-reads.Post κs x r' s' → (r ≡ r') × (s.1.1.1.1.1.1.0.now ≡ s'.1.1.1.1.1.1.0.now)
keravnoth_result_text_once κs x r r' s s' p q = out_one _ _ _ _ _ p q

-- `out` is the eighth argument
pub keravnoth_result_text_marked_once : (κs : Lfts 7) (x : ArgsD result-text-marked.signature κs) (r r' : ResD result-text-marked.signature κs) (s s' : AtExit (ended_of 7 result-text-marked-kinds.ps result-text-marked-kinds.r) κs)
    → result-text-marked-reads.Post κs x r s → result-text-marked-reads.Post κs x r' s' → (r ≡ r') × (s.1.1.1.1.1.1.1.0.now ≡ s'.1.1.1.1.1.1.1.0.now)
keravnoth_result_text_marked_once κs x r r' s s' p q = out_one _ _ _ _ _ p q

-- `out` is the second argument
pub keravnoth_answer_once : (κs : Lfts 2) (x : ArgsD answer.signature κs) (r r' : ResD answer.signature κs) (s s' : AtExit (ended_of 2 answer-kinds.ps answer-kinds.r) κs)
    → answer-reads.Post κs x r s → answer-reads.Post κs x r' s' → (r ≡ r') × (s.1.0.now ≡ s'.1.0.now)
keravnoth_answer_once κs x r r' s s' p q = out_one _ _ _ _ _ p q

-- `out` is the third argument
pub keravnoth_answer_marked_once : (κs : Lfts 3) (x : ArgsD answer-marked.signature κs) (r r' : ResD answer-marked.signature κs) (s s' : AtExit (ended_of 3 answer-marked-kinds.ps answer-marked-kinds.r) κs)
    → answer-marked-reads.Post κs x r s → answer-marked-reads.Post κs x r' s' → (r ≡ r') × (s.1.1.0.now ≡ s'.1.1.0.now)
keravnoth_answer_marked_once κs x r r' s s' p q = out_one _ _ _ _ _ p q

-- `out` is the third argument
pub keravnoth_answer_corrected_once : (κs : Lfts 2) (x : ArgsD answer-corrected.signature κs) (r r' : ResD answer-corrected.signature κs) (s s' : AtExit (ended_of 2 answer-corrected-kinds.ps answer-corrected-kinds.r) κs)
    → answer-corrected-reads.Post κs x r s → answer-corrected-reads.Post κs x r' s' → (r ≡ r') × (s.1.1.0.now ≡ s'.1.1.0.now)
keravnoth_answer_corrected_once κs x r r' s s' p q = out_one _ _ _ _ _ p q

-- `out` is the eighth argument, also of the text
pub keravnoth_corner_flows_once : (κs : Lfts 6) (x : ArgsD corner-flows.signature κs) (r r' : ResD corner-flows.signature κs) (s s' : AtExit (ended_of 6 corner-flows-kinds.ps corner-flows-kinds.r) κs)
    → corner-flows-reads.Post κs x r s → corner-flows-reads.Post κs x r' s' → (r ≡ r') × (s.1.1.1.1.1.1.1.0.now ≡ s'.1.1.1.1.1.1.1.0.now)
keravnoth_corner_flows_once κs x r r' s s' p q = out_one _ _ _ _ _ p q

pub keravnoth_corner_text_once : (κs : Lfts 6) (x : ArgsD corner-text.signature κs) (r r' : ResD corner-text.signature κs) (s s' : AtExit (ended_of 6 corner-text-kinds.ps corner-text-kinds.r) κs)
    → corner-text-reads.Post κs x r s → corner-text-reads.Post κs x r' s' → (r ≡ r') × (s.1.1.1.1.1.1.1.0.now ≡ s'.1.1.1.1.1.1.1.0.now)
keravnoth_corner_text_once κs x r r' s s' p q = out_one _ _ _ _ _ p q

-- nothing that is lent is written to
pub keravnoth_claims_once : (κs : Lfts 6) (x : ArgsD claims.signature κs) (r r' : ResD claims.signature κs) (s s' : AtExit (ended_of 6 claims-kinds.ps claims-kinds.r) κs)
    → claims-reads.Post κs x r s → claims-reads.Post κs x r' s' → r ≡ r'
keravnoth_claims_once κs x r r' s s' p q = p ∙ sym q

-- `out` is the eighth argument
pub keravnoth_published_text_once : (κs : Lfts 7) (x : ArgsD published-text.signature κs) (r r' : ResD published-text.signature κs) (s s' : AtExit (ended_of 7 published-text-kinds.ps published-text-kinds.r) κs)
    → published-text-reads.Post κs x r s → published-text-reads.Post κs x r' s' → (r ≡ r') × (s.1.1.1.1.1.1.1.0.now ≡ s'.1.1.1.1.1.1.1.0.now)
keravnoth_published_text_once κs x r r' s s' p q = out_one _ _ _ _ _ p q

-- the records and the factors are the third and the fourth argument
pub keravnoth_read_rows_once : (κs : Lfts 3) (x : ArgsD read-rows.signature κs) (r r' : ResD read-rows.signature κs) (s s' : AtExit (ended_of 3 read-rows-kinds.ps read-rows-kinds.r) κs)
    → read-rows-reads.Post κs x r s → read-rows-reads.Post κs x r' s' → (r ≡ r') × ((s.1.1.0.now ≡ s'.1.1.0.now) × (s.1.1.1.0.now ≡ s'.1.1.1.0.now))
keravnoth_read_rows_once κs x r r' s s' p q = rows_one _ _ _ _ _ _ _ p q

-- `out` is the fourth argument
pub keravnoth_write_rows_once : (κs : Lfts 3) (x : ArgsD write-rows.signature κs) (r r' : ResD write-rows.signature κs) (s s' : AtExit (ended_of 3 write-rows-kinds.ps write-rows-kinds.r) κs)
    → write-rows-reads.Post κs x r s → write-rows-reads.Post κs x r' s' → (r ≡ r') × (s.1.1.1.0.now ≡ s'.1.1.1.0.now)
keravnoth_write_rows_once κs x r r' s s' p q = out_one _ _ _ _ _ p q

-- nothing that is lent is written to
pub keravnoth_bound_once : (κs : Lfts 5) (x : ArgsD bound.signature κs) (r r' : ResD bound.signature κs) (s s' : AtExit (ended_of 5 bound-kinds.ps bound-kinds.r) κs)
    → bound-reads.Post κs x r s → bound-reads.Post κs x r' s' → r ≡ r'
keravnoth_bound_once κs x r r' s s' p q = p ∙ sym q

pub keravnoth_bound_marked_once : (κs : Lfts 6) (x : ArgsD bound-marked.signature κs) (r r' : ResD bound-marked.signature κs) (s s' : AtExit (ended_of 6 bound-marked-kinds.ps bound-marked-kinds.r) κs)
    → bound-marked-reads.Post κs x r s → bound-marked-reads.Post κs x r' s' → r ≡ r'
keravnoth_bound_marked_once κs x r r' s s' p q = p ∙ sym q

-- `out` is the seventh argument
pub keravnoth_margins_once : (κs : Lfts 6) (x : ArgsD margins.signature κs) (r r' : ResD margins.signature κs) (s s' : AtExit (ended_of 6 margins-kinds.ps margins-kinds.r) κs)
    → margins-reads.Post κs x r s → margins-reads.Post κs x r' s' → (r ≡ r') × (s.1.1.1.1.1.1.0.now ≡ s'.1.1.1.1.1.1.0.now)
keravnoth_margins_once κs x r r' s s' p q = out_one _ _ _ _ _ p q

-- `out` is the second argument
pub keravnoth_refusal_text_once : (κs : Lfts 1) (x : ArgsD refusal-text.signature κs) (r r' : ResD refusal-text.signature κs) (s s' : AtExit (ended_of 1 refusal-text-kinds.ps refusal-text-kinds.r) κs)
    → refusal-text-reads.Post κs x r s → refusal-text-reads.Post κs x r' s' → (r ≡ r') × (s.1.0.now ≡ s'.1.0.now)
keravnoth_refusal_text_once κs x r r' s s' p q = out_one _ _ _ _ _ p q

-- nothing is lent
pub keravnoth_version_once : (κs : Lfts 0) (x : ArgsD the-version.signature κs) (r r' : ResD the-version.signature κs) (s s' : AtExit (ended_of 0 version-kinds.ps version-kinds.r) κs)
    → version-reads.Post κs x r s → version-reads.Post κs x r' s' → r ≡ r'
keravnoth_version_once κs x r r' s s' p q = p ∙ sym q

-- ---- why a border got no more
explained_one : (may : ExplainedCoded) (r r' : KeravnothExplained) (ps ps' : List ℕ) (ends ends' rows rows' : List (List ℤ)) → explained_found r ps ends rows ≡ may → explained_found r' ps' ends' rows' ≡ may
    → (r ≡ r') × ((ps ≡ ps') × ((ends ≡ ends') × (rows ≡ rows')))
explained_one may r r' ps ps' ends ends' rows rows' p q =
    let e = p ∙ sym q in
    (ap (λ (l : ExplainedCoded). l.answer) e, (ap (λ (l : ExplainedCoded). l.p) e, (ap (λ (l : ExplainedCoded). l.ends) e, ap (λ (l : ExplainedCoded). l.rows) e)))

-- p is the eighth, and the records are the ninth and the tenth
pub keravnoth_why_once : (κs : Lfts 8) (x : ArgsD why.signature κs) (r r' : ResD why.signature κs) (s s' : AtExit (ended_of 8 why-kinds.ps why-kinds.r) κs)
    → why-reads.Post κs x r s → why-reads.Post κs x r' s'
    → (r ≡ r')
    × ((s.1.1.1.1.1.1.1.0.now ≡ s'.1.1.1.1.1.1.1.0.now)
    × ((s.1.1.1.1.1.1.1.1.0.now ≡ s'.1.1.1.1.1.1.1.1.0.now) × (s.1.1.1.1.1.1.1.1.1.0.now ≡ s'.1.1.1.1.1.1.1.1.1.0.now)))
keravnoth_why_once κs x r r' s s' p q = explained_one _ _ _ _ _ _ _ _ _ p q

-- p is the ninth, and the records are the tenth and the eleventh
pub keravnoth_why_marked_once : (κs : Lfts 9) (x : ArgsD why-marked.signature κs) (r r' : ResD why-marked.signature κs) (s s' : AtExit (ended_of 9 why-marked-kinds.ps why-marked-kinds.r) κs)
    → why-marked-reads.Post κs x r s → why-marked-reads.Post κs x r' s'
    → (r ≡ r')
    × ((s.1.1.1.1.1.1.1.1.0.now ≡ s'.1.1.1.1.1.1.1.1.0.now)
    × ((s.1.1.1.1.1.1.1.1.1.0.now ≡ s'.1.1.1.1.1.1.1.1.1.0.now) × (s.1.1.1.1.1.1.1.1.1.1.0.now ≡ s'.1.1.1.1.1.1.1.1.1.1.0.now)))
keravnoth_why_marked_once κs x r r' s s' p q = explained_one _ _ _ _ _ _ _ _ _ p q
