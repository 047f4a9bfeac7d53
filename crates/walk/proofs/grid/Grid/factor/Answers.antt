-- `walk::grid::Grid::factor` meets its contract: the place of row i's factor at border b is inside the table.
use native.Mathlib.Omega.{arith}
use Rattle.rounds.proofs.Loops.{place_inside}
use Rattle.walk.proofs.grid.Grid.factor.Goals as goal

pub overflow_mul-result : goal.overflow_mul-result
overflow_mul-result c = omega (arith, place_inside c.args.self.now.rows _ _ _ _ c.args.self.now.in_bounds c.requires.0 c.requires.1)

pub overflow_add-result : goal.overflow_add-result
overflow_add-result c = omega (arith, place_inside c.args.self.now.rows _ _ _ _ c.args.self.now.in_bounds c.requires.0 c.requires.1)
