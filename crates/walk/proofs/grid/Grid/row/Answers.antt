-- `walk::grid::Grid::row` meets its contract: the slice is the row's part of the table (`row_is`).
use native.Mathlib.Omega.{arith}
use Rattle.walk.proofs.FlatLaws.{row_is, row_long}
use Rattle.walk.proofs.grid.Grid.row.Goals as goal

pub returns : goal.returns
returns c = let row = row_is c.args.self.now.rows _ _ _ _ c.args.self.now.in_bounds c.requires (omega arith) in record { len = row_long _ row; factors = row }
