use mathlib.Core.Path.{sym, ◌∙◌}
use native.Mathlib.Omega.{arith}
use Rattle.hourfigures.proofs.ItemLaws.{storing_none, storing_more, storing_all, ways_long, way_at}
use Rattle.hourfigures.proofs.items.keep_ways.Goals as goal

pub loop-i-init : goal.loop-i-init
loop-i-init c = storing_none _ _ _

pub way_of-way-requires : goal.way_of-way-requires
way_of-way-requires c = (c.requires.zones_le_zones_most.0, c.requires.zones_le_zones_most.1.each _ (omega arith))

pub overflow_add-ways : goal.overflow_add-ways
overflow_add-ways c = omega (arith, c.requires.zones_le_zones_most.1.few, c.requires.borders_most_in_bounds)

pub offset_bounds-ways-place : goal.offset_bounds-ways-place
offset_bounds-ways-place c = omega (arith, c.requires.zones_le_zones_most.1.few, c.requires.borders_most_in_bounds)

pub bounds-ways-place : goal.bounds-ways-place
bounds-ways-place c = omega (arith, c.requires.zones_le_zones_most.1.few, c.requires.borders_most_in_bounds, c.loop-i.invariant.as_long)

pub loop-i-preserved : goal.loop-i-preserved
loop-i-preserved c = storing_more c.loop-i.invariant _ (omega (arith, ways_long c.args.b.now, c.requires.zones_le_zones_most.1.few, c.requires.borders_most_in_bounds))
    (omega (arith, ways_long c.args.b.now)) (c.way_of-way.ensures ∙ sym (way_at c.args.b.now _ (omega arith)))

pub shape_of-ways : goal.shape_of-ways
shape_of-ways c = c.loop-i.invariant.as_long

pub returns : goal.returns
returns c = storing_all c.loop-i.invariant (omega (arith, ways_long c.args.b.now))
