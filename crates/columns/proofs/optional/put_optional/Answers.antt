-- `columns::optional::put_optional` meets its contract.
use mathlib.Core.Path.{sym, ap, subst, ◌∙◌}
use mathlib.Core.List.{List}
use Prim.Native.Nat.{ℕ}
use native.Mathlib.Omega.{arith}
use lib.ListN.{length}
use Rattle.text.specs.Put.{Put}
use Rattle.columns.proofs.OptionalLaws.{front_columns, front_values, line_by_lem}
use Rattle.columns.proofs.optional.put_optional.Goals as goal

pub slice_bounds-put_line-end : goal.slice_bounds-put_line-end
slice_bounds-put_line-end c = front_columns c.args.columns.now c.args.n c.args.values.now c.requires.0 c.requires.1 c.written-k.result c.written-k.ensures

pub slice_bounds-put_line-end-2 : goal.slice_bounds-put_line-end-2
slice_bounds-put_line-end-2 c = front_values c.args.columns.now c.args.n c.args.values.now c.requires.0 c.requires.1 c.written-k.result c.written-k.ensures

pub put_line-requires : goal.put_line-requires
put_line-requires c = (
  sym (front_columns c.args.columns.now c.args.n c.args.values.now c.requires.0 c.requires.1 c.written-k.result c.written-k.ensures) ∙ front_values c.args.columns.now c.args.n c.args.values.now c.requires.0 c.requires.1 c.written-k.result c.written-k.ensures,
  omega (arith, c.requires.2, ap length (line_by_lem c.args.columns.now c.args.n c.args.values.now c.requires.0 c.requires.1 c.written-k.result c.written-k.ensures c.args.sep c.args.head)),
)

pub returns : goal.returns
returns c = subst (λ (t : List ℕ). Put t c.args.at c.args.out.now c.put_line.result c.put_line.new.out) (line_by_lem c.args.columns.now c.args.n c.args.values.now c.requires.0 c.requires.1 c.written-k.result c.written-k.ensures c.args.sep c.args.head) c.put_line.ensures
