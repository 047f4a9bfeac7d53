-- The laws of `specs/Left.antt`: a text that was refused, had no room, or was written; and that what is said has one answer. No contract cites this file.
use Rattle.std.specs.Prelude.{Err, Ok}
use mathlib.Core.Path.{◌≡◌, refl, sym, ap, ap₂, ◌∙◌}
use mathlib.Core.List.{List}
use Prim.Native.Nat.{ℕ, ◌≤◌, ◌<◌}
use native.Mathlib.Omega.{arith}
use lib.ListN.{length}
use Rattle.numbers.specs.Below.{over}
use Rattle.refusals.specs.declared.Refusal.{Refusal}
use Rattle.refusals.specs.Refusals.{Judged, too_short}
use Rattle.refusals.proofs.RefusalLaws.{then_next, then_refused, either_passed, either_refused, need_enough, need_short}
use Rattle.text.specs.Left.{TextLeft, text_left, text_said}
use Rattle.text.specs.Put.{Put}
use Rattle.text.proofs.PutLaws.{put_whole}

pub text_refused : {j : Judged (List ℕ)} (out : List ℕ) {w : Refusal} → j ≡ Err w → ◌≡◌ {A = TextLeft} (record { answer = Err w; out = out }) (text_left j out)
unfolding text_left
text_refused out e = sym (either_refused _ _ (then_refused _ e))

module _ (text out : List ℕ) where
  pub text_short : (n : ℕ) → n ≡ length text → length out < n → ◌≡◌ {A = TextLeft} (record { answer = Err (too_short n); out = out }) (text_left (Ok text) out)
  unfolding text_left
  text_short n e h = sym (either_refused _ _ (then_next _ refl ∙ need_short _ _ _ (omega arith) ∙ ap (λ (k : ℕ). Err (too_short k)) (sym e)))

  pub text_left_lem : length text ≤ length out → text_left (Ok text) out ≡ record { answer = Ok (length text); out = over text out }
  unfolding text_left
  text_left_lem h = either_passed _ _ (then_next _ refl ∙ need_enough _ _ _ h)

  pub text_out : {n : ℕ} {out' : List ℕ} → length text ≤ length out → (n ≡ length text) × (out' ≡ over text out)
      → ◌≡◌ {A = TextLeft} (record { answer = Ok n; out = out' }) (text_left (Ok text) out)
  text_out h w = ap₂ {C = TextLeft} (λ (k : ℕ) (o : List ℕ). record { answer = Ok k; out = o }) w.0 w.1 ∙ sym (text_left_lem h)

  pub text_written : {n : ℕ} {out' : List ℕ} → length text ≤ length out → Put text 0 out n out' → ◌≡◌ {A = TextLeft} (record { answer = Ok n; out = out' }) (text_left (Ok text) out)
  text_written h p = text_out h (put_whole p)

-- an answer and bytes that say the same are the same
pub said_once : (left : TextLeft) (r r' : Judged ℕ) (out out' : List ℕ) → text_said r out ≡ left → text_said r' out' ≡ left → (r ≡ r') × (out ≡ out')
said_once left r r' out out' p q =
    let e = p ∙ sym q in
    ((ap (λ (l : TextLeft). l.answer) e), ap (λ (l : TextLeft). l.out) e)
