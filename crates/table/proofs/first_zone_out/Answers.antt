use mathlib.Core.Path.{◌≡◌, sym, ap, ◌∙◌}
use mathlib.Core.Bool.{not}
use native.Mathlib.Omega.{arith}
use Rattle.numbers.proofs.BelowLaws.{looked_none, looked_all, looked_here, looked_more}
use Rattle.numbers.proofs.IntLaws.{plain}
use Rattle.types.specs.Ranges.{at_ℤ}
use Rattle.types.specs.Constructors.{zone_read}
use Rattle.types.proofs.ConstructorLaws.{zone_good, zone_out_lem}
use Rattle.table.proofs.first_zone_out.Goals as goal

pub loop-i-init : goal.loop-i-init
loop-i-init c = looked_none _ _

pub returns-in_default : goal.returns-in_default
returns-in_default c = let judged : c.of.result ≡ zone_read (at_ℤ c.args.z.now c.loop-i.i) = c.of.ensures ∙ ap zone_read (plain _ c.of-arg-1.given) in
    looked_here _ _ _ c.loop-i.invariant (omega arith) (ap not (zone_out_lem _ (sym (judged) ∙ c.in_default.is)))

pub loop-i-preserved : goal.loop-i-preserved
loop-i-preserved c = let judged : c.of.result ≡ zone_read (at_ℤ c.args.z.now c.loop-i.i) = c.of.ensures ∙ ap zone_read (plain _ c.of-arg-1.given) in
    looked_more _ _ _ c.loop-i.invariant (omega arith) (ap not (zone_good _ _ (sym (judged) ∙ c.in-Some.is)))

pub returns : goal.returns
returns c = looked_all _ _ _ c.loop-i.invariant (omega arith)
