-- 02, E2: "Demands 2 and 3 then read of the merged table", of the answers. Where both texts are taken, answering them is answering the merged text
-- (`merged-answer`), whose table demand 3 then speaks of (`merged-demand-3`); and the merged text is what `rewrite_corrected` leaves (`rewritten-is-merged`).
use Rattle.std.specs.Prelude.{Err, Ok}
use mathlib.Core.Path.{◌≡◌, refl, sym, ap, ◌∙◌}
use mathlib.Core.Bool.{Bool}
use mathlib.Core.List.{List}
use Prim.Native.Char.{code}
use Prim.Native.Nat.{ℕ}
use lib.ListN.{take}
use Rattle.numbers.specs.Below.{at}
use Rattle.refusals.specs.Refusals.{Judged, then, either}
use Rattle.refusals.proofs.RefusalLaws.{not_passed, then_refused}
use Rattle.marks.specs.Marks.{may_rise}
use Rattle.text.specs.Left.{TextLeft, text_left}
use Rattle.text.proofs.LeftLaws.{text_refused}
use Rattle.tablerules.specs.Table.{Table}
use Rattle.reading.specs.Reading.{read_text, read_corrected}
use Rattle.rewriting.specs.Rewriting.{rewrite_corrected_left}
use Rattle.trips.proofs.RoundTrip.{read_write}
use Rattle.trips.proofs.Corrected.{rewritten_reads_back}
use Rattle.extractrules.specs.Extraction.{outcome_for}
use Rattle.result.specs.Refusal.{refusal_text}
use Rattle.answer.specs.Result.{result_text, answer_for, answer_with, answer_for_left, answer_with_left}
use Rattle.theorems.proofs.TextDemand.{TextDemand3, answer_demand_3}
use Rattle.merged.specs.Merged.{merged_text}
use Rattle.merged.proofs.MergedText.{merged_text_lem, merged_reads}

-- a text that reads as two texts do has their answer
same_answer : (all : Bool) (marks merged text sheet : List ℕ) → read_text merged ≡ read_corrected text sheet → answer_for all marks merged ≡ answer_with all marks text sheet
unfolding answer_for answer_with
same_answer all marks merged text sheet e = ap (λ (j : Judged Table). either (then j (outcome_for all marks)) result_text refusal_text) e

-- answering both texts is answering the merged one
pub merged_answer : (all : Bool) (marks text sheet : List ℕ) (t : Table) → read_corrected text sheet ≡ Ok t → answer_for all marks (merged_text text sheet) ≡ answer_with all marks text sheet
merged_answer all marks text sheet t e = same_answer all marks (merged_text text sheet) text sheet (merged_reads text sheet t e ∙ sym e)

-- demand 3 of every answer to two texts that is no E line, said of the merged text
pub merged_demand_3 : (all : Bool) (marks text sheet : List ℕ) → (at (answer_with all marks text sheet) 0 ≡ code "E" → ⊥) → TextDemand3 (may_rise all marks) (read_text (merged_text text sheet)) (answer_with all marks text sheet)
merged_demand_3 all marks text sheet h =
    let d = answer_demand_3 all marks text sheet h in
    record { table = d.table; result = d.result; is = merged_reads text sheet d.table d.is; printed = d.printed; outcome = d.outcome; demand = d.demand; stopped = d.stopped; unmarked = d.unmarked }

-- ---- what `rewrite_corrected` leaves, where it took both texts
module _ (text sheet out : List ℕ) (n : ℕ) (done : (rewrite_corrected_left text sheet out).answer ≡ Ok n) where
  abbrev left : List ℕ
  left = take n (rewrite_corrected_left text sheet out).out

  -- its bytes are those of the merged text
  pub rewritten_is_merged : left ≡ merged_text text sheet
  unfolding rewrite_corrected_left
  rewritten_is_merged = go (read_corrected text sheet) refl
    where
      go : (j : Judged Table) → read_corrected text sheet ≡ j → left ≡ merged_text text sheet
      go (Ok t) q = sym (read_write left t (rewritten_reads_back text sheet out n done ∙ q)) ∙ merged_text_lem text sheet t q
      go (Err w) q = absurd (not_passed w n (ap (λ (l : TextLeft). l.answer) (text_refused out (then_refused _ q)) ∙ done))

  -- answering it is answering both texts, of every border or with marks, byte for byte
  pub rewritten_answer : (all : Bool) (marks : List ℕ) → answer_for all marks left ≡ answer_with all marks text sheet
  rewritten_answer all marks = same_answer all marks left text sheet (rewritten_reads_back text sheet out n done)

  -- the calls leave the same for it as for both texts
  pub rewritten_answer_left : (all : Bool) (marks room : List ℕ) → answer_for_left all marks left room ≡ answer_with_left all marks text sheet room
  unfolding answer_for_left answer_with_left
  rewritten_answer_left all marks room = ap (λ (l : List ℕ). text_left (Ok l) room) (rewritten_answer all marks)
