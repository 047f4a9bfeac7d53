-- A small good table, two zones, one border and one row, in which a line or a record can be replaced: for examples that differ from it in one place.
use Rattle.std.specs.Prelude.{List, [], ◌∷◌, ◌++◌, ℕ, ℤ, pos}
use Prim.Native.String.{String}
use Rattle.numbers.specs.Ints.{minus}
use Rattle.refusals.specs.Refusals.{Judged}
use Rattle.tablerules.specs.Table.{Table, judge_lent}
use Rattle.answer.specs.Result.{answer_text}
use Rattle.text.specs.Shown.{shown}
use Rattle.figures.specs.Borders.{plain_border}

abbrev pub small_text : (zone border row : List ℕ) → List ℕ
small_text zone border row = shown "H 2 1 1/Z 0 0/" ++ zone ++ border ++ row

abbrev pub zone : List ℕ
zone = shown "Z 1 0/"

abbrev pub border : List ℕ
border = shown "B 0 0 1 100/"

abbrev pub row : List ℕ
row = shown "C 0 10000 0 0 0 0 0 0 20000 0/"

-- what the program says with another line 3, line 4, and from line 5 on
abbrev pub with_zone : String → List ℕ
with_zone s = answer_text (small_text (shown s) border row)

abbrev pub with_border : String → List ℕ
with_border s = answer_text (small_text zone (shown s) row)

abbrev pub with_row : String → List ℕ
with_row s = answer_text (small_text zone border (shown s))

-- the small table as lent, with another border record or row record
abbrev pub small_table : (border row : List ℤ) → Table
small_table border row =
    record {
      header = record { zones = 2; borders = 1; rows = 1; share = minus 1; intraday = 0 };
      nets = pos 0 ∷ pos 0 ∷ [];
      allocated = [];
      borders = border ∷ [];
      rows = row ∷ [];
      factors = pos 20000 ∷ pos 0 ∷ [];
    }

abbrev pub lent_border : (from to lta : ℤ) → Judged Table
lent_border from to lta = judge_lent (small_table (from ∷ to ∷ lta ∷ minus 1 ∷ minus 1 ∷ []) (pos 10000 ∷ pos 0 ∷ pos 0 ∷ pos 0 ∷ pos 0 ∷ pos 0 ∷ pos 0 ∷ []))

abbrev pub lent_hubs : (sending receiving : ℤ) → Judged Table
lent_hubs sending receiving = judge_lent (small_table (pos 0 ∷ pos 1 ∷ pos 100 ∷ sending ∷ receiving ∷ []) (pos 10000 ∷ pos 0 ∷ pos 0 ∷ pos 0 ∷ pos 0 ∷ pos 0 ∷ pos 0 ∷ []))

abbrev pub lent_row : (fmax frm r cva iva : ℤ) → Judged Table
lent_row fmax frm r cva iva = judge_lent (small_table (plain_border 0 1 100) (fmax ∷ frm ∷ pos 0 ∷ pos 0 ∷ r ∷ cva ∷ iva ∷ []))
