-- The Z and T lines, of any letter: a line that holds a net position is its text, and that text holds the net position. No contract cites this file.
use mathlib.Core.Path.{◌≡◌, refl, subst}
use mathlib.Core.Bool.{true, false}
use mathlib.Core.List.{List, [], ◌∷◌, ◌++◌}
use Prim.Native.Nat.{ℕ, ◌^◌, ◌<◌}
use native.Mathlib.Omega.{arith}
use lib.Dec.{eqb}
use lib.IntN.{ℤ}
use Rattle.types.specs.LineColumns.{zone_columns}
use Rattle.types.specs.Ranges.{at_ℤ, zone_fits}
use Rattle.types.proofs.RangeLaws.{zone_in}
use Rattle.text.specs.Fields.{tab, feed}
use Rattle.text.specs.Line.{line_of}
use Rattle.columns.specs.declared.Head.TheVariants.{Indexed}
use Rattle.columns.specs.Columns.{values, wrong}
use Rattle.columns.specs.ColumnText.{fields_ended, columns_text}
use Rattle.columns.specs.ColumnLine.{columns_line}
use Rattle.columns.proofs.ColumnTrip.{tab_ends, line_one, judged_read, judged_written}
use Rattle.lines.specs.Lines.{zone_bad, zone_out, position_line}
use Rattle.std.specs.Prelude.{Ok, Err}
use Rattle.text.specs.declared.LineFault.TheVariants.{Form, Range}

abbrev pub zone_text_of : (letter i : ℕ) → (net : ℤ) → List ℕ
zone_text_of letter i net = columns_text tab (Indexed letter i) zone_columns (net ∷ [])

module _ (letter : ℕ) (line : List ℕ) (i : ℕ) where
  pub zone_read_lem : (net : ℤ) → position_line letter line i ≡ Ok net → (line ≡ zone_text_of letter i net) × (zone_fits net ≡ true)
  unfolding position_line columns_text fields_ended
  zone_read_lem net e =
      let h = judged_read (λ zs. zone_fits (at_ℤ zs 0)) (λ zs. at_ℤ zs 0) (zone_bad letter line i) (zone_out line) tab tab_ends (Indexed letter i) zone_columns line net e in
      subst (λ (y : ℤ). (line ≡ zone_text_of letter i y) × (zone_fits y ≡ true)) h.made (h.read.here, h.fit)

  module _ (zs : List ℤ) (next : ℕ) (e : values zs next ≡ columns_line tab (Indexed letter i) zone_columns line) where
    pub zone_holds : zone_fits (at_ℤ zs 0) ≡ true → Ok (at_ℤ zs 0) ≡ position_line letter line i
    unfolding position_line
    zone_holds f = rw (← e, f)

    pub zone_range : zone_fits (at_ℤ zs 0) ≡ false → Err (Range (zone_out line zs)) ≡ position_line letter line i
    unfolding position_line
    zone_range f = rw (← e, f)

  pub zone_form : (place : ℕ) → wrong place ≡ columns_line tab (Indexed letter i) zone_columns line → Err (Form (zone_bad letter line i)) ≡ position_line letter line i
  unfolding position_line
  zone_form place e = rw (← e)

module _ (letter i : ℕ) (net : ℤ) where
  pub zone_written : i < 10 ^ 10 → zone_fits net ≡ true → position_line letter (zone_text_of letter i net) i ≡ Ok net
  unfolding position_line
  zone_written small f = judged_written (λ zs. zone_fits (at_ℤ zs 0)) (λ zs. at_ℤ zs 0) (zone_bad letter (zone_text_of letter i net) i) (zone_out (zone_text_of letter i net)) tab tab_ends (Indexed letter i) zone_columns (net ∷ []) small (omega (arith, (zone_in net f).abs), tt) f

  pub zone_one : eqb letter feed ≡ false → (r : List ℕ) → line_of (zone_text_of letter i net ++ r) ≡ zone_text_of letter i net
  zone_one plain r = line_one tab refl (Indexed letter i) zone_columns (net ∷ []) r (omega arith) plain
