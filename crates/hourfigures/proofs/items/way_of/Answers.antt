-- `hourfigures::items::way_of` meets its contract: no zone of a judged border is large, and the number is its way (`way_by`).
use native.Mathlib.Omega.{arith}
use Rattle.hourfigures.proofs.ItemLaws.{ends_few, hubs_few, way_by}
use Rattle.hourfigures.proofs.items.way_of.Goals as goal

pub numbered-requires : goal.numbered-requires
numbered-requires c = let e = ends_few _ _ c.requires.0 c.requires.1 c.of_good-border.ensures in
    (e.0, e.1, omega arith, omega arith)

pub overflow_add-hubs : goal.overflow_add-hubs
overflow_add-hubs c = let h = hubs_few _ _ c.requires.0 c.requires.1 c.of_good-border.ensures c.in-Some.is in
    omega (arith, h.0)

pub overflow_add-hubs-in-Some : goal.overflow_add-hubs-in-Some
overflow_add-hubs-in-Some c = let h = hubs_few _ _ c.requires.0 c.requires.1 c.of_good-border.ensures c.in-Some.is in
    omega (arith, h.1)

pub numbered-requires-in-Some : goal.numbered-requires-in-Some
numbered-requires-in-Some c = let e = ends_few _ _ c.requires.0 c.requires.1 c.of_good-border.ensures in
    let h = hubs_few _ _ c.requires.0 c.requires.1 c.of_good-border.ensures c.in-Some.is in
    (e.0, e.1, h.0, h.1)

pub returns-in-None : goal.returns-in-None
returns-in-None c = way_by _ _ c.requires.0 c.requires.1 c.of_good-border.ensures c.in-None.is c.numbered.ensures

pub returns-in-Some : goal.returns-in-Some
returns-in-Some c = way_by _ _ c.requires.0 c.requires.1 c.of_good-border.ensures c.in-Some.is c.numbered-in-Some.ensures
