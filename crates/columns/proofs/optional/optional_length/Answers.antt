-- `columns::optional::optional_length` meets its contract.
use mathlib.Core.Path.{sym, ◌∙◌}
use native.Mathlib.Omega.{arith}
use Rattle.columns.proofs.OptionalLaws.{front_columns, front_values, length_by}
use Rattle.columns.proofs.optional.optional_length.Goals as goal

pub slice_bounds-line_length-end : goal.slice_bounds-line_length-end
slice_bounds-line_length-end c = front_columns c.args.columns.now c.args.n c.args.values.now c.requires.0 c.requires.1 c.written-k.result c.written-k.ensures

pub slice_bounds-line_length-end-2 : goal.slice_bounds-line_length-end-2
slice_bounds-line_length-end-2 c = front_values c.args.columns.now c.args.n c.args.values.now c.requires.0 c.requires.1 c.written-k.result c.written-k.ensures

pub line_length-requires : goal.line_length-requires
line_length-requires c = (
  sym (front_columns c.args.columns.now c.args.n c.args.values.now c.requires.0 c.requires.1 c.written-k.result c.written-k.ensures) ∙ front_values c.args.columns.now c.args.n c.args.values.now c.requires.0 c.requires.1 c.written-k.result c.written-k.ensures,
  omega (arith, c.requires.2, length_by c.args.columns.now c.args.n c.args.values.now c.requires.0 c.requires.1 c.written-k.result c.written-k.ensures c.args.head),
)

pub returns : goal.returns
returns c = c.line_length.ensures ∙ length_by c.args.columns.now c.args.n c.args.values.now c.requires.0 c.requires.1 c.written-k.result c.written-k.ensures c.args.head
