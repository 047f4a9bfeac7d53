-- `lines::row::row_bad` meets its contract.
use mathlib.Core.Path.{sym, ◌∙◌}
use native.Mathlib.Omega.{arith}
use lib.Seq.{length-take-le}
use Rattle.blame.specs.Blame.{line_byte}
use Rattle.lines.proofs.RowKindLaws.{letters_long, whole_by}
use Rattle.lines.proofs.row.row_bad.Goals as goal

pub slice_bounds-line_byte-end-2 : goal.slice_bounds-line_byte-end-2
slice_bounds-line_byte-end-2 c = sym (length-take-le _ _ (omega (arith, c.requires, letters_long c.args.kind c.columns_of.result c.columns_of.ensures)))

pub returns : goal.returns
returns c = c.line_byte.ensures
    ∙ whole_by (λ sep head columns. line_byte sep head columns c.args.line.now) c.args.kind c.args.i c.args.zones c.requires c.sep_of.ensures c.head_of.ensures c.columns_of.result c.columns_of.ensures
