-- `lines::row::row_out` meets its contract.
use mathlib.Core.Path.{ap, ap₂, ◌∙◌}
use Prim.Native.Nat.{ℕ}
use native.Mathlib.Omega.{arith}
use Rattle.types.specs.Ranges.{row_line_tests}
use Rattle.columns.specs.ColumnText.{head_seps}
use Rattle.blame.specs.RangeBlame.{range_byte}
use Rattle.lines.proofs.RowKindLaws.{seps_few}
use Rattle.lines.proofs.row.row_out.Goals as goal

pub row_range-requires : goal.row_range-requires
row_range-requires c = omega (arith, c.requires, c.head_seps-k.ensures, seps_few c.head_of.result)

pub returns : goal.returns
returns c = c.row_range.ensures
    ∙ ap₂ (λ (sep k : ℕ). range_byte sep (row_line_tests c.args.raw c.args.f.now) k c.args.line.now) c.sep_of.ensures (c.head_seps-k.ensures ∙ ap head_seps c.head_of.ensures)
