-- `types::Hubs::of_good` meets its contract: hubs that fit and are not below 0 are both natural, so the casts lose nothing.
use mir.Syntax.{w64}
use mir.Facts.{to_z-of_z}
use Rattle.numbers.proofs.IntLaws.{natural_cast}
use Rattle.types.specs.Ranges.{hubs_of}
use Rattle.types.proofs.RangeLaws.{hubs_natural}
use Rattle.types.proofs.Hubs.of_good.Goals as goal

pub returns-then-sending-lt0 : goal.returns-then-sending-lt0
unfolding hubs_of
returns-then-sending-lt0 c = simp (simp (to_z-of_z {w = w64} c.ranges.sending) at c.if-sending-lt0.true)

pub overflow_cast-result : goal.overflow_cast-result
overflow_cast-result c = let n = hubs_natural c.args.zones c.args.sending c.args.receiving c.requires (simp (to_z-of_z {w = w64} c.ranges.sending) at c.if-sending-lt0.false) in
    natural_cast _ _ c.ranges.sending.sfits n.0

pub overflow_cast-result-2 : goal.overflow_cast-result-2
overflow_cast-result-2 c = let n = hubs_natural c.args.zones c.args.sending c.args.receiving c.requires (simp (to_z-of_z {w = w64} c.ranges.sending) at c.if-sending-lt0.false) in
    natural_cast _ _ c.ranges.receiving.sfits n.1

pub returns : goal.returns
unfolding hubs_of
returns c = let sending = to_z-of_z {w = w64} c.ranges.sending in
    simp (sending, to_z-of_z {w = w64} c.ranges.receiving, simp sending at c.if-sending-lt0.false)
