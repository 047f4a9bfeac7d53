-- `nearness::list_row` meets its contract, a law for each way out (`placed_first`, `placed_yields`, `placed_leads`, `placed_last`).
use mathlib.Core.Path.{refl}
use native.Mathlib.Omega.{arith}
use Rattle.nearness.proofs.YieldLaws.{placed_first, placed_yields, placed_leads, placed_last}
use Rattle.nearness.proofs.list_row.Goals as goal

pub returns-then-count-eq0 : goal.returns-then-count-eq0
returns-then-count-eq0 c = placed_first c.requires.count_le_i.2 (omega arith) (omega arith)

pub yields-requires : goal.yields-requires
yields-requires c = record { rows_in_bounds = (omega (arith, c.requires.row_in_bounds, c.requires.count_le_i.2 0 (omega arith)), c.requires.row_in_bounds); ready = c.requires.ready; rising_in_bounds = c.requires.rising_in_bounds }

pub returns-then-yields : goal.returns-then-yields
returns-then-yields c = placed_yields c.requires.count_le_i.2 (omega arith) (c.yields.ensures c.if-yields.true)

pub yields-requires-2 : goal.yields-requires-2
yields-requires-2 c = record { rows_in_bounds = (c.requires.row_in_bounds, omega (arith, c.requires.row_in_bounds, c.requires.count_le_i.2 0 (omega arith))); ready = c.requires.ready; rising_in_bounds = c.requires.rising_in_bounds }

pub returns-then-yields-2 : goal.returns-then-yields-2
returns-then-yields-2 c = placed_leads c.requires.count_le_i.2 (omega arith) (omega arith) (c.yields-2.ensures c.if-yields-2.true)

pub returns : goal.returns
returns c = placed_last c.requires.count_le_i.2 (omega arith) _ refl
