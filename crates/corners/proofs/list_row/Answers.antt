-- `corners::list_row` meets its contract.
use mathlib.Core.Path.{sym, subst}
use Prim.Native.Nat.{ℕ}
use Rattle.marginrules.specs.Magnitudes.{BordersInRange}
use Rattle.marginrules.proofs.JudgedLaws.{part_ranges, part_long}
use Rattle.corners.proofs.list_row.Goals as goal

pub list_corners-requires : goal.list_corners-requires
list_corners-requires c = record { factors_in_range = part_ranges c.requires.table_factors_in_range c.args.row c.requires.row_lt_rows c.row_factors.ensures; borders_in_range = subst (λ (n : ℕ). BordersInRange n c.args.b.now) (sym (part_long c.requires.table_factors_in_range c.args.row c.requires.row_lt_rows c.row_factors.ensures)) c.requires.borders_in_range; borders_len_bound = c.requires.b_len_bound; borders_in_bounds = c.requires.b_in_bounds }

pub returns : goal.returns
returns c = rw c.row_factors.ensures at c.list_corners.ensures
