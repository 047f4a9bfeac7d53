-- `partstext::line_length` meets its contract.
use mathlib.Core.Path.{sym, ◌∙◌}
use Prim.Native.Char.{code}
use native.Mathlib.Omega.{arith}
use borrow.Author.Rules.{rules}
use Rattle.text.specs.Fields.{tab}
use Rattle.columns.specs.declared.Head.TheVariants.{Indexed}
use Rattle.columns.proofs.ColumnPut.{line_long}
use Rattle.partstext.specs.PartsText.{parts_columns}
use Rattle.partstext.proofs.line_length.Goals as goal

pub line_length-requires : goal.line_length-requires
line_length-requires c = (search rules, omega (arith, line_long tab (Indexed (code "V") c.args.i) parts_columns c.args.raw, c.requires))

pub returns : goal.returns
returns c = c.line_length.ensures ∙ sym (line_long tab (Indexed (code "V") c.args.i) parts_columns c.args.raw)
