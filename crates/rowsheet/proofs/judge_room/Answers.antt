-- `rowsheet::judge_room` meets its contract: the first short table is named.
use native.Mathlib.Omega.{arith}
use Rattle.tablerules.proofs.RoomLaws.{factors_most}
use Rattle.rowsheet.proofs.SheetLaws.{room_short_c, room_short_f, room_enough}
use Rattle.rowsheet.proofs.judge_room.Goals as goal

pub returns-then-c-h : goal.returns-then-c-h
returns-then-c-h c = room_short_c _ _ _ _ (omega arith)

pub overflow_mul-factors : goal.overflow_mul-factors
overflow_mul-factors c = omega (arith, factors_most _ c.requires)

pub returns-then-f-factors : goal.returns-then-f-factors
returns-then-f-factors c = room_short_f _ _ _ _ (omega arith) (omega arith)

pub returns : goal.returns
returns c = room_enough _ _ _ _ (omega arith) (omega arith)
