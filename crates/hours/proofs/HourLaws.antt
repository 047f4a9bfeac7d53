-- That what the calls leave is an hour's lines, and that no hour's lines are too long. No contract cites this file.
use Rattle.std.specs.Prelude.{Ok}
use mathlib.Core.Path.{◌≡◌, sym, ap, subst, ◌∙◌}
use mathlib.Core.Bool.{Bool, true}
use mathlib.Core.List.{List, []}
use Prim.Native.Nat.{ℕ, ◌≤◌}
use native.Mathlib.Omega.{arith}
use lib.ListN.{length, take}
use Rattle.limits.specs.Limits.{bytes_most}
use Rattle.refusals.specs.Refusals.{either, Judged}
use Rattle.refusals.proofs.RefusalLaws.{passed_is}
use Rattle.text.specs.Left.{text_said}
use Rattle.result.specs.Asked.{bytes_asked}
use Rattle.answer.specs.Result.{answer_for, answer_for_left, answer_with_left}
use Rattle.answer.specs.Printed.{answer_most}
use Rattle.answer.proofs.EmptySheet.{empty_answer_left}
use Rattle.output.specs.Buffer.{Printed, Told}
use Rattle.output.proofs.BufferLaws.{asked_fits, told_printed}
use Rattle.daylines.specs.Label.{label_of}
use Rattle.daylines.specs.Labelled.{labelled, lines_begun}
use Rattle.daylines.specs.Day.{unread_text}
use Rattle.daylines.specs.Room.{label_most, lines_most, hour_room}
use Rattle.daylines.proofs.PutLaws.{hour_fits}
use Rattle.hours.proofs.AnswerLines.{answer_lines}

-- ---- what the call leaves is the answer: it asks for no more bytes than there are
pub answer_left_lem : (all : Bool) (marks text out : List ℕ) (r : Judged ℕ) {out' out'' : List ℕ} {n : ℕ} → text_said r out' ≡ answer_with_left all marks text [] out → bytes_asked r ≤ answer_most
    → bytes_most ≤ length out → Told r out' n out'' → Printed n (answer_for all marks text) out''
unfolding answer_for_left either
answer_left_lem all marks text out r said few room told =
    let left = said ∙ empty_answer_left all marks text out in
    let fits = asked_fits (answer_for all marks text) out _ r left (omega (arith, few, room)) in
    told_printed (Ok (answer_for all marks text)) out r (λ s e. subst (λ (x : List ℕ). length x ≤ length out) (passed_is _ _ e) fits) left told

-- ---- no hour's lines are too long
module _ (name : List ℕ) {label : List ℕ} (is : label ≡ label_of name) (short : length (label_of name) ≤ label_most) (out : List ℕ) (room : hour_room ≤ length out) where
  label-short : length label ≤ label_most
  label-short = omega (arith, ap length is)

  pub answer_fits : (all : Bool) (marks text : List ℕ) {n : ℕ} {answer : List ℕ} → length answer ≡ bytes_most → Printed n (answer_for all marks text) answer
      → length (labelled label (take n answer)) ≤ length out
  answer_fits all marks text {n} {answer} long p =
      let whole : take n answer ≡ answer_for all marks text = p.whole in
      let l = answer_lines all marks text in
      let few : length (answer_for all marks text) ≤ bytes_most = omega (arith, p.within, p.long, ap length whole) in
      subst (λ (s : List ℕ). length (labelled label s) ≤ length out) (sym whole) (omega (arith, hour_fits label (answer_for all marks text) label-short few l.few))

  pub unread_fits : length (labelled label unread_text) ≤ length out
  unfolding lines_begun
  unread_fits =
      let one : lines_begun true unread_text ≤ lines_most = omega arith in
      omega (arith, hour_fits label unread_text label-short (omega arith) one)

-- ---- what is printed, by the label of a name
module _ (name : List ℕ) {label : List ℕ} (is : label ≡ label_of name) {m : ℕ} {out : List ℕ} where
  pub answer_printed : (all : Bool) (marks text : List ℕ) {n : ℕ} {answer : List ℕ} → Printed n (answer_for all marks text) answer → Printed m (labelled label (take n answer)) out
      → Printed m (labelled (label_of name) (answer_for all marks text)) out
  answer_printed all marks text {n} {answer} p q =
      let under : Printed m (labelled label (answer_for all marks text)) out = subst (λ (s : List ℕ). Printed m (labelled label s) out) p.whole q in
      subst (λ (l : List ℕ). Printed m (labelled l (answer_for all marks text)) out) is under

  pub unread_printed : Printed m (labelled label unread_text) out → Printed m (labelled (label_of name) unread_text) out
  unread_printed q = subst (λ (l : List ℕ). Printed m (labelled l unread_text) out) is q
