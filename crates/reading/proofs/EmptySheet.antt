-- 02, E2: an empty correction sheet changes nothing. The call with an empty sheet is the call without a sheet.
use Rattle.std.specs.Prelude.{Err, Ok}
use mathlib.Core.Path.{◌≡◌, refl, sym, ap, ◌∙◌}
use mathlib.Core.List.{List, []}
use Prim.Native.Nat.{ℕ}
use native.Mathlib.Omega.{arith}
use lib.IntN.{ℤ}
use Rattle.refusals.specs.Refusals.{Judged}
use Rattle.tablerules.specs.Table.{Table}
use Rattle.reading.specs.Reading.{read_text, read_corrected, tables_left, read_left, read_corrected_left}
use Rattle.reading.proofs.ReadLaws.{reading}
use Rattle.reading.proofs.CorrectedLaws.{day_refused, sheet_passes}

pub empty_sheet : (text : List ℕ) → read_corrected text [] ≡ read_text text
empty_sheet text = go (read_text text) refl
  where
    go : (j : Judged Table) → read_text text ≡ j → read_corrected text [] ≡ read_text text
    go (Ok t) q = sheet_passes text [] (omega arith) t (sym q) refl ∙ (reading text t q).lines ∙ sym q
    go (Err w) q = sym (day_refused text [] (omega arith) w (sym q)) ∙ sym q

pub empty_left : (text : List ℕ) (z t : List ℤ) (b c : List (List ℤ)) (f : List ℤ) → read_corrected_left text [] z t b c f ≡ read_left text z t b c f
empty_left text z t b c f = ap (λ (j : Judged Table). tables_left j z t b c f) (empty_sheet text)
