use mathlib.Core.Path.{ap, ◌∙◌}
use native.Mathlib.Omega.{arith}
use borrow.Author.Tests.{leb-true}
use lib.ListN.{length}
use Rattle.numbers.proofs.BelowLaws.{table_long}
use Rattle.walk.specs.Flat.{flat_of}
use Rattle.tightrules.proofs.PassLaws.{walked_none, walked_fits, walked_more, walked_under, walked_all, counted_at, counted_few}
use Rattle.tight.proofs.pass.higher.Goals as goal

pub first_cap-first-requires : goal.first_cap-first-requires
first_cap-first-requires c = record { border_in_bounds = c.requires.margins_len.2; margins_len = c.requires.margins_len.0 }

pub loop-i-init : goal.loop-i-init
loop-i-init c = walked_none c.requires.margins_len.0 c.requires.small c.first_cap-first.ensures

pub returns-then-low-most-2 : goal.returns-then-low-most-2
returns-then-low-most-2 c = walked_under c.loop-i.invariant c.if-low-most.true (leb-true _ _ c.if-low-most-2.true-raw)

pub factor-requires : goal.factor-requires
factor-requires c = (omega arith, c.requires.margins_len.2)

pub bounds-ns-i : goal.bounds-ns-i
bounds-ns-i c = omega (arith, ap length c.requires.ns_value.0 ∙ table_long _ _)

pub lower-low-requires : goal.lower-low-requires
lower-low-requires c = let g = flat_of c.args.grid.now in
    (counted_few g c.requires.ns_value.0 c.requires.ns_value.1 _ (omega arith), c.loop-i.invariant.below, walked_fits c.loop-i.invariant c.requires.ns_value.1 c.requires.margins_len.1)

pub loop-i-preserved : goal.loop-i-preserved
loop-i-preserved c = walked_more c.loop-i.invariant (omega arith) c.factor.ensures
    (counted_at (flat_of c.args.grid.now) c.requires.ns_value.0 _ (omega arith)) c.lower-low.ensures

pub returns : goal.returns
returns c = walked_all c.loop-i.invariant (omega arith) c.max.ensures c.max-2.ensures
