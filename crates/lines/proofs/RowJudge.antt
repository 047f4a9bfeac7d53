-- A row's line by what was read of it, whichever its kind. No contract cites this file.
use mathlib.Core.Path.{◌≡◌, refl, sym, ap, ◌∙◌}
use mathlib.Core.Bool.{true, false, cond}
use mathlib.Core.List.{List, ◌++◌}
use Prim.Native.Nat.{ℕ}
use lib.IntN.{ℤ}
use lib.ListN.{length}
use lib.Seq.{take_at, drop_at}
use Rattle.text.proofs.ChainLaws.{no_fault}
use Rattle.types.specs.LineColumns.{row_items}
use Rattle.text.specs.Line.{Line}
use Rattle.columns.specs.Columns.{values, wrong}
use Rattle.tablerules.specs.Table.{row_good}
use Rattle.lines.specs.Lines.{RowLine, row, row_by, row_line}
use Rattle.lines.specs.SheetLine.{sheet_line}
use Rattle.lines.specs.RowKinds.{values_by, bad_by, out_by}
use Rattle.lines.specs.SaidRow.{judged_of, line_by}
use Rattle.lines.specs.declared.row.RowKind.{RowKind}
use Rattle.lines.specs.declared.row.RowKind.TheVariants.{Table, Sheet}
use Rattle.std.specs.Prelude.{Ok, Err}
use Rattle.text.specs.declared.LineFault.{LineFault}
use Rattle.text.specs.declared.LineFault.TheVariants.{Form, Range}

-- ---- the line by what was read
pub by_values : (kind : RowKind) (zones : ℕ) (line : List ℕ) (i : ℕ) → line_by kind zones line i ≡ row_by (bad_by kind zones line i) (out_by kind line) (values_by kind zones line i)
unfolding row_line sheet_line
by_values Table zones line i = refl
by_values Sheet zones line i = refl

module _ (kind : RowKind) (zones : ℕ) (line : List ℕ) (i : ℕ) where
  pub row_form : (place : ℕ) → wrong place ≡ values_by kind zones line i → line_by kind zones line i ≡ Err (Form (bad_by kind zones line i))
  row_form place e = by_values kind zones line i ∙ rw (← e)

  module _ (raw f : List ℤ) (wide : length raw ≡ row_items) (next : ℕ) (e : values (raw ++ f) next ≡ values_by kind zones line i) where
    row-by : line_by kind zones line i ≡ cond (row_good raw f) (Ok (row raw f)) (Err (Range (out_by kind line raw f)))
    row-by = by_values kind zones line i ∙ rw (← e, take_at raw f row_items wide, drop_at raw f row_items wide)

    pub row_holds : row_good raw f ≡ true → line_by kind zones line i ≡ Ok (row raw f)
    row_holds g = row-by ∙ rw g

    pub row_range : row_good raw f ≡ false → line_by kind zones line i ≡ Err (Range (out_by kind line raw f))
    row_range g = row-by ∙ rw g

-- ---- what an answer says of the line
pub record RowHolds (l : Line RowLine) : Type 0 where
  pub it : RowLine
  pub is : l ≡ Ok it

pub said_holds : (l : Line RowLine) (u : Unit {0}) → judged_of l ≡ Ok u → RowHolds l
said_holds (Ok c) u e = record { it = c; is = refl }
said_holds (Err bad) u e = absurd (no_fault bad u e)

pub said_bad : (l : Line RowLine) (bad : LineFault) → judged_of l ≡ Err bad → l ≡ Err bad
said_bad (Ok c) bad e = absurd (no_fault bad tt (sym e))
said_bad (Err b) bad e = ap Err cc
