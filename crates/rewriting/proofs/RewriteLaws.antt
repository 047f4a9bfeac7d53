-- The laws of what `rewrite_corrected` leaves (`rewrite_corrected_left`): a table that was read is good and is written, and a refusal told. No contract cites this file.
use Rattle.std.specs.Prelude.{Err, Ok}
use mathlib.Core.Path.{◌≡◌, sym, ap, ◌∙◌}
use mathlib.Core.List.{List}
use Prim.Native.Nat.{ℕ}
use lib.IntN.{ℤ}
use Rattle.refusals.specs.declared.Refusal.{Refusal}
use Rattle.refusals.specs.Refusals.{Judged}
use Rattle.refusals.proofs.RefusalLaws.{then_next, then_refused}
use Rattle.types.specs.declared.Header.{Header}
use Rattle.text.specs.Left.{TextLeft, text_left}
use Rattle.text.proofs.LeftLaws.{text_refused}
use Rattle.tablerules.specs.Table.{lent, front}
use Rattle.tablerules.specs.Good.{Good}
use Rattle.reading.specs.Reading.{read_corrected, read_into}
use Rattle.reading.proofs.CorrectedLaws.{corrected_good}
use Rattle.writing.specs.Writing.{table_text}
use Rattle.rewriting.specs.Rewriting.{rewrite_corrected_left}

module _ (text sheet : List ℕ) (r : Judged Header) (z a : List ℤ) (b c : List (List ℤ)) (f : List ℤ) (said : read_into r z a b c f ≡ read_corrected text sheet) where
  module _ (h : Header) (is : r ≡ Ok h) where
    was_read : read_corrected text sheet ≡ Ok (front (lent h z a b c f))
    was_read = sym said ∙ ap (λ (x : Judged Header). read_into x z a b c f) is

    pub rewrite_good : Good (front (lent h z a b c f))
    rewrite_good = corrected_good text sheet _ was_read

    pub rewrite_read : (out : List ℕ) → text_left (Ok (table_text (front (lent h z a b c f)))) out ≡ rewrite_corrected_left text sheet out
    unfolding rewrite_corrected_left
    rewrite_read out = ap (λ (j : Judged (List ℕ)). text_left j out) (sym (then_next _ was_read))

  pub rewrite_refused : (out : List ℕ) (w : Refusal) → r ≡ Err w → ◌≡◌ {A = TextLeft} (record { answer = Err w; out = out }) (rewrite_corrected_left text sheet out)
  unfolding rewrite_corrected_left
  rewrite_refused out w is = text_refused out (then_refused _ (sym said ∙ ap (λ (x : Judged Header). read_into x z a b c f) is))
