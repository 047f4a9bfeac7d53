-- `table::judge_room` meets its contract: the first short buffer is named.
use Rattle.std.specs.Prelude.{Err}
use mathlib.Core.Path.{ap, ◌∙◌}
use native.Mathlib.Omega.{arith}
use Rattle.refusals.specs.Refusals.{too_short}
use Rattle.tablerules.proofs.RoomLaws.{factors_most, room_short_z, room_short_t, room_short_b, room_short_c, room_short_f, room_enough}
use Rattle.table.proofs.judge_room.Goals as goal

pub returns-then-z-h : goal.returns-then-z-h
returns-then-z-h c = room_short_z _ _ _ _ _ _ _ (omega arith)

pub returns-then-t-allocated : goal.returns-then-t-allocated
returns-then-t-allocated c = ap Err (ap too_short c.allocated_items-allocated.ensures) ∙ room_short_t _ _ _ _ _ _ _ (omega arith) (omega (arith, c.allocated_items-allocated.ensures))

pub returns-then-b-h : goal.returns-then-b-h
returns-then-b-h c = room_short_b _ _ _ _ _ _ _ (omega arith) (omega (arith, c.allocated_items-allocated.ensures)) (omega arith)

pub returns-then-c-h : goal.returns-then-c-h
returns-then-c-h c = room_short_c _ _ _ _ _ _ _ (omega arith) (omega (arith, c.allocated_items-allocated.ensures)) (omega arith) (omega arith)

pub overflow_mul-factors : goal.overflow_mul-factors
overflow_mul-factors c = omega (arith, factors_most _ c.requires)

pub returns-then-f-factors : goal.returns-then-f-factors
returns-then-f-factors c = room_short_f _ _ _ _ _ _ _ (omega arith) (omega (arith, c.allocated_items-allocated.ensures)) (omega arith) (omega arith) (omega arith)

pub returns : goal.returns
returns c = room_enough _ _ _ _ _ _ _ (omega arith) (omega (arith, c.allocated_items-allocated.ensures)) (omega arith) (omega arith) (omega arith)
