-- `table::judge_p` meets its contract.
use Rattle.std.specs.Prelude.{Err}
use mathlib.Core.Path.{ap, ◌∙◌}
use native.Mathlib.Nat.{mul-le-mul}
use native.Mathlib.Omega.{arith}
use Rattle.types.proofs.RangeLaws.{header_in_lem}
use Rattle.tablerules.proofs.RoomLaws.{p_short, p_enough}
use Rattle.table.proofs.judge_p.Goals as goal

pub overflow_mul-cells : goal.overflow_mul-cells
overflow_mul-cells c = let e = header_in_lem _ c.requires in omega (arith, mul-le-mul e.rows_most_lem e.borders_most_lem)

pub returns-then-items-cells : goal.returns-then-items-cells
returns-then-items-cells c = p_short _ c.in-Some.is _ c.if-items-cells.true

pub returns : goal.returns
returns c = p_enough _ c.in-Some.is _ c.if-items-cells.false
