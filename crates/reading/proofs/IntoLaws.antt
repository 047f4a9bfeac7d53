-- The laws of `specs/Reading.antt`'s `read_into`: what its answer says of the texts, and that a table that was read is good. No contract cites this file.
use Rattle.std.specs.Prelude.{Err, Ok}
use Rattle.refusals.specs.Refusals.{Judged}
use mathlib.Core.Path.{◌≡◌, sym, ap, ◌∙◌}
use mathlib.Core.List.{List}
use Prim.Native.Nat.{ℕ}
use lib.IntN.{ℤ}
use Rattle.refusals.specs.declared.Refusal.{Refusal}
use Rattle.types.specs.declared.Header.{Header}
use Rattle.tablerules.specs.Table.{lent, front}
use Rattle.tablerules.specs.Good.{Good}
use Rattle.reading.specs.Reading.{read_corrected, read_into}
use Rattle.reading.proofs.CorrectedLaws.{corrected_good}

module _ (text sheet : List ℕ) (r : Judged Header) (z t : List ℤ) (b c : List (List ℤ)) (f : List ℤ) (said : read_into r z t b c f ≡ read_corrected text sheet) where
  pub into_refused : {w : Refusal} → r ≡ Err w → read_corrected text sheet ≡ Err w
  into_refused e = sym said ∙ ap (λ (x : Judged Header). read_into x z t b c f) e

  module _ {h : Header} (is : r ≡ Ok h) where
    pub into_read : read_corrected text sheet ≡ Ok (front (lent h z t b c f))
    into_read = sym said ∙ ap (λ (x : Judged Header). read_into x z t b c f) is

    pub into_good : Good (front (lent h z t b c f))
    into_good = corrected_good text sheet _ into_read
