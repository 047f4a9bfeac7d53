-- `layout::length::border_length` meets its contract.
use mathlib.Core.Path.{sym, ◌∙◌}
use Prim.Native.Char.{code}
use native.Mathlib.Omega.{arith}
use Rattle.types.specs.LineColumns.{border_columns, hub_columns}
use Rattle.text.specs.Fields.{tab}
use Rattle.columns.specs.declared.Head.TheVariants.{Indexed}
use Rattle.columns.specs.Optional.{written_by}
use Rattle.columns.proofs.ColumnPut.{line_long}
use borrow.Author.Rules.{rules}
use Rattle.layout.proofs.length.border_length.Goals as goal

pub optional_length-requires : goal.optional_length-requires
optional_length-requires c = (omega arith, search rules, omega (arith, line_long tab (Indexed (code "B") c.args.i) (written_by border_columns hub_columns c.args.raw) c.args.raw, c.requires))

pub returns : goal.returns
returns c = c.optional_length.ensures ∙ sym (line_long tab (Indexed (code "B") c.args.i) (written_by border_columns hub_columns c.args.raw) c.args.raw)
