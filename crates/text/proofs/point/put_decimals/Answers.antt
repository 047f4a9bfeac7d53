use mathlib.Core.Path.{ap, ◌∙◌}
use Prim.Native.Nat.{ℕ, ◌+◌, ◌%◌}
use Rattle.text.specs.Point.{last_digits}
use Rattle.text.specs.Put.{Put}
use Rattle.text.proofs.PutLaws.{put_kept}
use Rattle.text.proofs.PointLaws.{decimals_put_none, decimals_put_all, decimals_put_room, decimals_put_more}
use Rattle.text.proofs.point.put_decimals.Goals as goal

all : (c : goal.After-loop-after) → Put (last_digits c.args.k c.args.n) c.args.at c.args.out.now c.loop-after.next c.loop-after.out
all c = decimals_put_all c.loop-after.invariant c.loop-after-test.false

pub loop-after-init : goal.loop-after-init
loop-after-init c = decimals_put_none _ _ _ _

pub put_byte-next-requires : goal.put_byte-next-requires
put_byte-next-requires c = decimals_put_room c.loop-after.invariant c.loop-after-test.true c.requires

pub loop-after-preserved : goal.loop-after-preserved
loop-after-preserved c = decimals_put_more c.loop-after.invariant c.loop-after-test.true c.requires
    (c.digit.ensures ∙ ap (λ (m : ℕ). 48 + m % 10) c.shifted.ensures) c.put_byte-next.ensures

pub shape_of-out : goal.shape_of-out
shape_of-out c = put_kept (all c) c.requires

pub returns : goal.returns
returns c = all c
