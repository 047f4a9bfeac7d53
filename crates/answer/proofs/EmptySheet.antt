-- 02, E2: an empty correction sheet changes no answer and nothing that it tells, of every border or with marks.
use Rattle.std.specs.Prelude.{Ok}
use mathlib.Core.Path.{◌≡◌, ap}
use mathlib.Core.Bool.{Bool, true}
use mathlib.Core.List.{List, []}
use Prim.Native.Nat.{ℕ}
use Rattle.refusals.specs.Refusals.{Judged, then, either}
use Rattle.text.specs.Left.{text_left}
use Rattle.tablerules.specs.Table.{Table}
use Rattle.extractrules.specs.Extraction.{outcome_for}
use Rattle.reading.proofs.EmptySheet.{empty_sheet}
use Rattle.result.specs.Refusal.{refusal_text}
use Rattle.answer.specs.Told.{told_of, told_for, told_with}
use Rattle.answer.specs.Result.{result_text, answer_for, answer_with, answer_text, answer_for_left, answer_with_left, answer_left, answer_corrected_left}

pub empty_answer : (all : Bool) (marks text : List ℕ) → answer_with all marks text [] ≡ answer_for all marks text
unfolding answer_with answer_for
empty_answer all marks text = ap (λ (j : Judged Table). either (then j (outcome_for all marks)) result_text refusal_text) (empty_sheet text)

pub empty_told : (all : Bool) (marks text : List ℕ) → told_with all marks text [] ≡ told_for all marks text
unfolding told_with told_for
empty_told all marks text = ap (λ (j : Judged Table). told_of (then j (outcome_for all marks))) (empty_sheet text)

pub empty_answer_left : (all : Bool) (marks text out : List ℕ) → answer_with_left all marks text [] out ≡ answer_for_left all marks text out
unfolding answer_with_left answer_for_left
empty_answer_left all marks text out = ap (λ (l : List ℕ). text_left (Ok l) out) (empty_answer all marks text)

-- the call with an empty sheet is the call without a sheet
pub empty_corrected : (text out : List ℕ) → answer_corrected_left text [] out ≡ answer_left text out
unfolding answer_corrected_left answer_with_left answer_left answer_text
empty_corrected text out = ap (λ (l : List ℕ). text_left (Ok l) out) (empty_answer true [] text)
