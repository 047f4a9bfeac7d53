-- That what a call leaves in a buffer is what is to be printed (specs/Buffer.antt). No contract cites this file.
-- In order: a buffer that begins with the text; a text that there is room for; a call that tells its refusal.
use Rattle.std.specs.Prelude.{Err, Ok}
use mathlib.Core.Path.{◌≡◌, refl, sym, ap, subst, ◌∙◌}
use mathlib.Core.List.{List}
use mathlib.Core.Logic.{⊎_elim}
use Prim.Native.Nat.{ℕ, ◌≤◌, ◌<◌}
use native.Mathlib.Omega.{arith}
use lib.ListN.{length, take, drop, length-append}
use lib.Seq.{take_at}
use Rattle.numbers.specs.Below.{over}
use Rattle.numbers.proofs.BelowLaws.{le_or_lt}
use Rattle.refusals.specs.Refusals.{Judged, too_short}
use Rattle.refusals.proofs.RefusalLaws.{either_passed, either_refused}
use Rattle.text.specs.Left.{TextLeft, text_left, text_said}
use Rattle.text.proofs.LeftLaws.{text_left_lem, text_short, text_refused}
use Rattle.result.specs.Asked.{bytes_asked}
use Rattle.result.specs.Refusal.{refusal_text}
use Rattle.output.specs.Buffer.{Printed, bytes_of, told_text, Told}

-- ---- a buffer that begins with the text
pub over_printed : (text out out' : List ℕ) (n : ℕ) → n ≡ length text → out' ≡ over text out → Printed n text out'
over_printed text out out' n e o =
    let long : n ≤ length out' = omega (arith, ap length o, length-append text (drop (length text) out)) in
    let whole : take n out' ≡ text = ap (take n) o ∙ take_at text _ n (sym e) in
    record { within = long; long = e ∙ sym (ap length whole); whole = whole }

-- what is printed, by an equal text
pub printed_as : {n : ℕ} {text text' out : List ℕ} → text ≡ text' → Printed n text out → Printed n text' out
printed_as {n} {out = out} e p = subst (λ (s : List ℕ). Printed n s out) e p

pub told_as : {n : ℕ} {said said' : Judged (List ℕ)} {out : List ℕ} → said ≡ said' → Printed n (told_text said) out → Printed n (told_text said') out
told_as {n} {out = out} e p = subst (λ (j : Judged (List ℕ)). Printed n (told_text j) out) e p

-- ---- a text whose call asks for no more bytes than there are
module _ (text out out' : List ℕ) (r : Judged ℕ) (said : text_said r out' ≡ text_left (Ok text) out) (few : bytes_asked r ≤ length out) where
  not_short : length out < length text → ⊥
  not_short h =
      let l = said ∙ sym (text_short text out (length text) refl h) in
      let asks : r ≡ Err (too_short (length text)) = ap (λ (x : TextLeft). x.answer) l in
      omega (arith, few, ap (λ (x : Judged ℕ). bytes_asked x) asks)

  pub asked_fits : length text ≤ length out
  asked_fits = ⊎_elim (λ (h : length text ≤ length out). h) (λ short. absurd (not_short short)) (le_or_lt (length text) (length out))

  pub text_printed : (n : ℕ) → n ≡ bytes_of r → Printed n text out'
  text_printed n e =
      let l = said ∙ text_left_lem text out asked_fits in
      let bytes : r ≡ Ok (length text) = ap (λ (x : TextLeft). x.answer) l in
      over_printed text out out' n (e ∙ ap (λ (x : Judged ℕ). bytes_of x) bytes) (ap (λ (x : TextLeft). x.out) l)

-- ---- what a call that tells its refusal leaves, where there is room for every text that it may have to write
pub told_printed : (said : Judged (List ℕ)) (out : List ℕ) {out' out'' : List ℕ} (r : Judged ℕ) {n : ℕ} → ((text : List ℕ) → said ≡ Ok text → length text ≤ length out)
    → text_said r out' ≡ text_left said out → Told r out' n out'' → Printed n (told_text said) out''
told_printed (Ok text) out {out'} {out''} r {n} enough left told =
    let l = left ∙ text_left_lem text out (enough text refl) in
    let bytes : r ≡ Ok (length text) = ap (λ (x : TextLeft). x.answer) l in
    let at : Told (Ok (length text)) out' n out'' = subst (λ (x : Judged ℕ). Told x out' n out'') bytes told in
    subst (λ (s : List ℕ). Printed n s out'') (sym (either_passed _ _ refl)) (over_printed text out out'' n at.0 (at.1 ∙ ap (λ (x : TextLeft). x.out) l))
told_printed (Err w) out {out'} {out''} r {n} enough left told =
    let l = left ∙ sym (text_refused out {w = w} refl) in
    let why : r ≡ Err w = ap (λ (x : TextLeft). x.answer) l in
    subst (λ (s : List ℕ). Printed n s out'') (sym (either_refused _ _ refl)) (subst (λ (x : Judged ℕ). Told x out' n out'') why told)
