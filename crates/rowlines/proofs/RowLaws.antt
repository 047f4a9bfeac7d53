-- The laws of `specs/Rows.antt`: a row's line and the line handed on for it; what rows' lines hold, put together (row after row) and cut up again. No contract cites this file.
use mathlib.Core.Path.{◌≡◌, refl, sym, ap, ap₂, ◌∙◌}
use mathlib.Core.Bool.{true, false}
use mathlib.Core.List.{List, [], ◌∷◌, ◌++◌, append_assoc}
use Prim.Native.Nat.{ℕ, zero, suc, ◌+◌, ◌*◌, ◌<◌}
use native.Mathlib.Nat.{suc-mul, zero-mul, not-suc-le-zero}
use native.Mathlib.Omega.{arith}
use lib.IntN.{ℤ}
use lib.ListN.{length, get_or, set, take, drop, length-append, length-drop, take-append-drop}
use lib.Seq.{length-take-le, take_at, drop_at, take-add, drop-drop}
use Rattle.text.specs.Line.{Line}
use Rattle.sections.specs.Section.{lines_at}
use Rattle.sections.proofs.SectionLaws.{AllFit}
use Rattle.sections.proofs.SectionRecords.{section_same}
use Rattle.tablerules.specs.Table.{stretch}
use Rattle.lines.specs.Lines.{RowLine, row}
use Rattle.lines.specs.SaidRow.{said_row, line_by}
use Rattle.lines.specs.declared.row.RowKind.{RowKind}
use Rattle.corrections.specs.Corrections.{piece, row_in, of_row, handed_by}
use Rattle.corrections.specs.Alongside.{line_for, piece_for}
use Rattle.rowlines.specs.Rows.{values_of, factors_of, cut, instead, corrected_by}
use Rattle.lines.proofs.RowTrip.{RowHeldAt}
use Rattle.std.specs.Prelude.{Ok, Err, Result}
use Rattle.text.specs.declared.LineFault.{LineFault}

-- no row
abbrev pub empty_row : RowLine
empty_row = record { values = []; factors = [] }

-- ---- a line's own fault, or else what the line comes to that is handed on
own_instead : {A : Type 0} (l : Line A) → l ≡ instead l l
own_instead (Ok a) = refl
own_instead (Err bad) = refl

module _ (kind by : RowKind) (n : ℕ) (next day : List ℕ) (i : ℕ) where
  abbrev handed : Line RowLine
  handed = row_in n (piece_for by next (piece kind day) i) i

  -- the sheet has no line of the row
  pub own_handed : of_row by next i ≡ false → line_by kind n (line_for by next day i) i ≡ instead (line_by kind n day i) handed
  own_handed q = rw q (own_instead (line_by kind n day i))

  module _ (r : Result (List ℤ) LineFault) (f : List ℤ) (said : said_row r f ≡ line_by kind n day i) where
    -- it has one, and the day's is good
    pub handed_holds : {raw : List ℤ} → of_row by next i ≡ true → r ≡ Ok raw → line_by by n (line_for by next day i) i ≡ instead (line_by kind n day i) handed
    handed_holds q e = rw (q, ← said, e)

    pub handed_bad : {bad : LineFault} → r ≡ Err bad → Err bad ≡ instead (line_by kind n day i) handed
    handed_bad e = rw (← said, e)

-- with no sheet's line, rows are read as their own lines
pub own_section : (kind : RowKind) (zones first n : ℕ) (text : List ℕ) (p i : ℕ) → lines_at (corrected_by kind zones (handed_by [])) first n text p i ≡ lines_at (line_by kind zones) first n text p i
own_section kind zones first n text p i = section_same _ (line_by kind zones) (λ line i. sym (own_instead (line_by kind zones line i))) first n text p i

-- ---- put together
pub values_long : (cs : List RowLine) → length (values_of cs) ≡ length cs
values_long [] = refl
values_long (c ∷ cs) = ap suc (values_long cs)

pub values_at : (cs : List RowLine) (i : ℕ) → get_or (values_of cs) i [] ≡ (get_or cs i empty_row).values
values_at [] i = refl
values_at (c ∷ cs) zero = refl
values_at (c ∷ cs) (suc i) = values_at cs i

module _ (zones : ℕ) where
  pub factors_long : (cs : List RowLine) (i : ℕ) → AllFit (RowHeldAt zones) i cs → length (factors_of cs) ≡ length cs * zones
  factors_long [] i f = sym (zero-mul zones)
  factors_long (c ∷ cs) i f = length-append c.factors (factors_of cs) ∙ omega (arith, f.0.long, factors_long cs (i + 1) f.1, suc-mul (length cs) zones)

  -- a row's stretch of the factors put together is that row's own
  pub stretch_of : (cs : List RowLine) (i : ℕ) → AllFit (RowHeldAt zones) i cs → (k : ℕ) → k < length cs → stretch zones (factors_of cs) k ≡ (get_or cs k empty_row).factors
  unfolding stretch
  stretch_of [] i f k h = absurd (not-suc-le-zero h)
  stretch_of (c ∷ cs) i f zero h = rw (zero-mul zones) (take_at c.factors (factors_of cs) zones f.0.long)
  stretch_of (c ∷ cs) i f (suc k) h =
      let m : suc k * zones ≡ zones + k * zones = omega (arith, suc-mul k zones) in
      ap (take zones) (ap (λ (j : ℕ). drop j (c.factors ++ factors_of cs)) m ∙ sym (drop-drop (k * zones) zones (c.factors ++ factors_of cs)) ∙ ap (drop (k * zones)) (drop_at c.factors (factors_of cs) zones f.0.long))
      ∙ stretch_of cs (i + 1) f.1 k (omega arith)

  -- ---- cut up
  pub cut_long : (rows : List (List ℤ)) (factors : List ℤ) → length (cut zones rows factors) ≡ length rows
  cut_long [] factors = refl
  cut_long (v ∷ rows) factors = ap suc (cut_long rows (drop zones factors))

  pub cut_values : (rows : List (List ℤ)) (factors : List ℤ) → values_of (cut zones rows factors) ≡ rows
  cut_values [] factors = refl
  cut_values (v ∷ rows) factors = ap (λ (l : List (List ℤ)). v ∷ l) (cut_values rows (drop zones factors))

  pub cut_factors : (rows : List (List ℤ)) (factors : List ℤ) → length factors ≡ length rows * zones → factors_of (cut zones rows factors) ≡ factors
  cut_factors [] [] h = refl
  cut_factors [] (f ∷ factors) h = absurd (not-suc-le-zero {n = length factors} (omega (arith, zero-mul zones)))
  cut_factors (v ∷ rows) factors h =
      ap (λ (l : List ℤ). take zones factors ++ l) (cut_factors rows (drop zones factors) (length-drop zones factors ∙ omega (arith, suc-mul (length rows) zones)))
      ∙ take-append-drop zones factors

  pub cut_at : (rows : List (List ℤ)) (factors : List ℤ) (k : ℕ) → k < length rows → (get_or (cut zones rows factors) k empty_row).factors ≡ stretch zones factors k
  unfolding stretch
  cut_at [] factors k h = absurd (not-suc-le-zero h)
  cut_at (v ∷ rows) factors zero h = rw (zero-mul zones)
  cut_at (v ∷ rows) factors (suc k) h =
      let m : zones + k * zones ≡ suc k * zones = omega (arith, suc-mul k zones) in
      cut_at rows (drop zones factors) k (omega arith) ∙ ap (take zones) (drop-drop (k * zones) zones factors ∙ ap (λ (j : ℕ). drop j factors) m)

  -- one row more in its place: its record, and its stretch as a part that was lent comes back
  pub cut_set : (rows : List (List ℤ)) (factors : List ℤ) (i : ℕ) (v part : List ℤ) → i < length rows → length factors ≡ length rows * zones → length part ≡ zones
      → cut zones (set rows i v) (take (i * zones) factors ++ (part ++ drop zones (drop (i * zones) factors))) ≡ set (cut zones rows factors) i (row v part)
  cut_set [] factors i v part h l wide = absurd (not-suc-le-zero h)
  cut_set (u ∷ rows) factors zero v part h l wide = rw (zero-mul zones, take_at part (drop zones factors) zones wide, drop_at part (drop zones factors) zones wide)
  cut_set (u ∷ rows) factors (suc i) v part h l wide =
      let own = take zones factors in
      let rest = drop zones factors in
      let later = take (i * zones) rest ++ (part ++ drop zones (drop (i * zones) rest)) in
      let long : length own ≡ zones = length-take-le zones factors (omega (arith, suc-mul (length rows) zones)) in
      let m : suc i * zones ≡ zones + i * zones = omega (arith, suc-mul i zones) in
      let whole : take (suc i * zones) factors ++ (part ++ drop zones (drop (suc i * zones) factors)) ≡ own ++ later =
      ap (λ (k : ℕ). take k factors ++ (part ++ drop zones (drop k factors))) m
      ∙ ap₂ (λ (x y : List ℤ). x ++ (part ++ drop zones y)) (take-add zones (i * zones) factors) (sym (drop-drop (i * zones) zones factors))
      ∙ append_assoc own (take (i * zones) rest) (part ++ drop zones (drop (i * zones) rest)) in
      ap (λ (g : List ℤ). row u (take zones g) ∷ cut zones (set rows i v) (drop zones g)) whole
      ∙ ap₂ (λ (x y : List ℤ). row u x ∷ cut zones (set rows i v) y) (take_at own later zones long) (drop_at own later zones long)
      ∙ ap (λ (ls : List RowLine). row u own ∷ ls) (cut_set rows rest i v part (omega arith) (length-drop zones factors ∙ omega (arith, suc-mul (length rows) zones)) wide)
