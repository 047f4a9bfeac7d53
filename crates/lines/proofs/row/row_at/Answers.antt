-- `lines::row::row_at` meets its contract: the factors' columns are as many as f has items.
use mathlib.Core.Path.{sym, ◌∙◌}
use native.Mathlib.Omega.{arith}
use lib.ListN.{length}
use lib.Seq.{length-take-le}
use Rattle.columns.specs.ColumnLine.{columns_line}
use Rattle.lines.proofs.RowKindLaws.{letters_long, letters_many, parts_by_lem}
use Rattle.lines.proofs.row.row_at.Goals as goal

pub slice_bounds-parts_at-end-2 : goal.slice_bounds-parts_at-end-2
slice_bounds-parts_at-end-2 c = sym (length-take-le 7 c.columns_of.result (omega (arith, letters_long c.args.kind c.columns_of.result c.columns_of.ensures)))

pub parts_at-requires : goal.parts_at-requires
parts_at-requires c = let first = length-take-le 7 c.columns_of.result (omega (arith, letters_long c.args.kind c.columns_of.result c.columns_of.ensures)) in
    let long = letters_many c.args.kind c.columns_of-2.result c.columns_of-2.ensures (length c.args.f.now) c.requires.2 in
    (first ∙ sym c.requires.0, rw long c.requires.1, long)

pub returns : goal.returns
returns c = c.parts_at.ensures
    ∙ parts_by_lem (λ sep head columns. columns_line sep head columns c.args.line.now) c.args.kind c.args.i (length c.args.f.now) c.requires.2 c.sep_of.ensures c.head_of.ensures c.columns_of.result c.columns_of.ensures c.columns_of-2.result c.columns_of-2.ensures
