-- The laws of what `write` leaves (`write_left`): which step refuses, and what is known where none does. No contract cites this file.
use Rattle.std.specs.Prelude.{Err, Ok}
use mathlib.Core.Path.{◌≡◌, refl, sym, ap, ◌∙◌}
use mathlib.Core.List.{List}
use Prim.Native.Nat.{ℕ, ◌≤◌}
use native.Mathlib.Omega.{arith}
use lib.ListN.{length}
use Rattle.numbers.specs.Below.{over}
use Rattle.refusals.specs.declared.Refusal.{Refusal}
use Rattle.refusals.specs.Refusals.{Judged}
use Rattle.refusals.proofs.RefusalLaws.{passed_is, then_passed, then_next, then_refused, answer_passed, need_passed}
use Rattle.text.specs.Left.{TextLeft, text_left}
use Rattle.text.proofs.LeftLaws.{text_refused, text_left_lem}
use Rattle.tablerules.specs.Table.{Table, front, judge_lent}
use Rattle.tablerules.proofs.GoodLaws.{judged_front}
use Rattle.writing.specs.Writing.{table_text, write_left}

module _ (given : Table) (out : List ℕ) where
  pub write_refused : (w : Refusal) → Err w ≡ judge_lent given → ◌≡◌ {A = TextLeft} (record { answer = Err w; out = out }) (write_left given out)
  unfolding write_left
  write_refused w e = text_refused out (then_refused _ (sym e))

  pub write_on : (t : Table) → Ok t ≡ judge_lent given → text_left (Ok (table_text t)) out ≡ write_left given out
  unfolding write_left
  write_on t e = ap (λ (j : Judged (List ℕ)). text_left j out) (sym (then_next _ (sym e)))

  -- what was written is the text of the front of what was lent
  pub record WriteAccepted (n : ℕ) : Type 0 where
    pub judged : judge_lent given ≡ Ok (front given)
    pub bytes : length (table_text (front given)) ≡ n
    pub left : (write_left given out).out ≡ over (table_text (front given)) out

  pub write_accepted : (n : ℕ) → (write_left given out).answer ≡ Ok n → WriteAccepted n
  unfolding write_left text_left
  write_accepted n e =
      let a = answer_passed _ _ _ (λ (l : TextLeft). l.answer) n (λ w. refl) e in
      let r = then_passed _ _ a.0 a.1 in
      let j = then_passed (judge_lent given) _ r.it r.first in
      let room = need_passed a.0 _ _ _ r.second in
      let text : table_text j.it ≡ a.0 = passed_is _ _ j.second ∙ passed_is _ _ room.1 in
      let t : j.it ≡ front given = judged_front given j.it j.first in
      let judged : judge_lent given ≡ Ok (front given) = j.first ∙ ap Ok t in
      let whole : table_text (front given) ≡ a.0 = ap table_text (sym t) ∙ text in
      let short : length (table_text (front given)) ≤ length out = omega (arith, room.0, ap length (passed_is _ _ room.1), ap length whole) in
      record {
        judged = judged;
        bytes = ap length whole ∙ passed_is _ _ a.2;
        left = ap (λ (l : TextLeft). l.out) (sym (write_on (front given) (sym judged)) ∙ text_left_lem (table_text (front given)) out short);
      }
