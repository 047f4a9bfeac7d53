use mathlib.Core.Path.{◌≡◌, sym, ap, ◌∙◌}
use native.Mathlib.Omega.{arith}
use borrow.Author.Rules.{rules}
use mir.Syntax.{w64}
use mir.Val.{to_z, of_z}
use Rattle.columns.specs.Columns.{field_at}
use Rattle.columns.proofs.ColumnLaws.{fields_filled_none, fields_filled_more, fields_filled_bad, fields_filled_all}
use Rattle.std.proofs.lemmas.Result.{err_from_is_err_and}
use Rattle.columns.proofs.read.fields_at.Goals as goal

pub loop-k-init : goal.loop-k-init
loop-k-init c = fields_filled_none c.args.columns.now c.args.sep c.args.last c.args.line.now c.args.at c.args.out.now c.requires

pub returns-in_err-z : goal.returns-in_err-z
returns-in_err-z c = let p = err_from_is_err_and c.from_residual.result c.from_residual.ensures.1 in rw (p.1, p.2) (fields_filled_bad c.args.columns.now c.args.sep c.args.last c.args.line.now c.args.at c.loop-k.out c.loop-k.p c.loop-k.k c.loop-k.invariant c.loop-k-test.true _ (ap (field_at _ c.args.line.now c.loop-k.p) (sym c.stop_of.ensures) ∙ sym c.field_at.ensures ∙ c.in_err-z.was))

pub offset_bounds-out-k : goal.offset_bounds-out-k
offset_bounds-out-k c = omega (arith, c.loop-k.invariant, c.loop-k.invariant.as_long, c.well_formed)

pub bounds-out-k : goal.bounds-out-k
bounds-out-k c = omega (arith, c.loop-k.invariant, c.loop-k.invariant.as_long)

pub loop-k-preserved : goal.loop-k-preserved
loop-k-preserved c = let e : to_z w64 (of_z w64 c.in_ok-z.z) ≡ c.in_ok-z.z = search rules in
    rw e (fields_filled_more c.args.columns.now c.args.sep c.args.last c.args.line.now c.args.at c.loop-k.out c.loop-k.p c.loop-k.k c.loop-k.invariant c.loop-k-test.true c.in_ok-z.z c.in_ok-z.next (ap (field_at _ c.args.line.now c.loop-k.p) (sym c.stop_of.ensures) ∙ sym c.field_at.ensures ∙ c.in_ok-z.was))

pub shape_of-out : goal.shape_of-out
shape_of-out c = sym c.loop-k.invariant.as_long ∙ c.requires

pub returns : goal.returns
returns c = fields_filled_all c.args.columns.now c.args.sep c.args.last c.args.line.now c.args.at c.loop-k.out c.loop-k.p c.loop-k.k c.loop-k.invariant c.loop-k-test.false
