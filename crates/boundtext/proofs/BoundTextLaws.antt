-- The laws of `specs/BoundText.antt`: how long the line is, and what the bound's answer leaves. No contract cites this file.
use Rattle.std.specs.Prelude.{Err, Ok}
use mathlib.Core.Path.{◌≡◌, sym, ap, ◌∙◌}
use mathlib.Core.List.{List, [], ◌∷◌}
use Prim.Native.Char.{code}
use Prim.Native.Nat.{ℕ, ◌+◌}
use native.Mathlib.Omega.{arith}
use lib.ListN.{length}
use Rattle.refusals.specs.declared.Refusal.{Refusal}
use Rattle.refusals.specs.Refusals.{Judged}
use Rattle.refusals.proofs.RefusalLaws.{then_next, then_refused}
use Rattle.text.specs.Left.{TextLeft, text_left}
use Rattle.text.specs.Written.{decimal}
use Rattle.text.proofs.LeftLaws.{text_refused}
use Rattle.text.proofs.PutLaws.{line_length_lem, tabbed_length, tabbed_empty}
use Rattle.tightrules.specs.declared.RoundsMost.{RoundsMost}
use Rattle.boundtext.specs.BoundText.{bound_line, bound_text, bound_text_of}

pub bound_line_long : (n l rounds sharp : ℕ) → length (bound_line n l rounds sharp) ≡ 6 + length (decimal n) + length (decimal l) + length (decimal rounds) + length (decimal sharp)
bound_line_long n l rounds sharp =
    line_length_lem (code "U") (decimal n ∷ decimal l ∷ decimal rounds ∷ decimal sharp ∷ [])
    ∙ omega (
      arith,
      tabbed_length (decimal n) (decimal l ∷ decimal rounds ∷ decimal sharp ∷ []),
      tabbed_length (decimal l) (decimal rounds ∷ decimal sharp ∷ []),
      tabbed_length (decimal rounds) (decimal sharp ∷ []),
      tabbed_length (decimal sharp) [],
      tabbed_empty,
    )

-- ---- what the answer leaves
module _ (asked : Judged RoundsMost) (out : List ℕ) where
  pub told_refused : (w : Refusal) → asked ≡ Err w → ◌≡◌ {A = TextLeft} (record { answer = Err w; out = out }) (text_left (bound_text_of asked) out)
  told_refused w e = text_refused out (then_refused _ e)

  pub told_rounds : (m : RoundsMost) → asked ≡ Ok m → text_left (Ok (bound_text m)) out ≡ text_left (bound_text_of asked) out
  told_rounds m e = ap (λ (j : Judged (List ℕ)). text_left j out) (sym (then_next _ e))
