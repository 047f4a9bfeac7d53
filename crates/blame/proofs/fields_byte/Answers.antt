use mathlib.Core.Path.{sym, ap, ◌∙◌}
use Rattle.columns.specs.Columns.{field_at}
use Rattle.blame.proofs.BlameLaws.{blaming_none, blaming_more, blaming_here, blaming_all}
use Rattle.blame.proofs.fields_byte.Goals as goal

pub loop-k-init : goal.loop-k-init
loop-k-init c = blaming_none _ _ _ _

pub returns-in-Err : goal.returns-in-Err
returns-in-Err c = c.byte_at.ensures
    ∙ blaming_here _ _ _ _ _ _ c.loop-k.invariant c.loop-k-test.true _ (ap (field_at _ c.args.line.now c.loop-k.p) (sym c.stop_of.ensures) ∙ sym c.field_at.ensures ∙ c.in-Err.is)

pub loop-k-preserved : goal.loop-k-preserved
loop-k-preserved c = blaming_more _ _ _ _ _ _ c.loop-k.invariant c.loop-k-test.true _ _
    (ap (field_at _ c.args.line.now c.loop-k.p) (sym c.stop_of.ensures) ∙ sym c.field_at.ensures ∙ c.in-Ok.is)

pub returns : goal.returns
returns c = blaming_all _ _ _ _ _ _ c.loop-k.invariant c.loop-k-test.false
