use native.Mathlib.Omega.{arith}
use Rattle.sheets.proofs.print_rows.Goals as goal

pub sheet_row-n-requires : goal.sheet_row-n-requires
sheet_row-n-requires c = (c.requires.0, omega (arith, c.requires.1, c.loop-k.invariant))

pub slice_bounds-put-end : goal.slice_bounds-put-end
slice_bounds-put-end c = c.sheet_row-n.ensures.within

pub slice_bounds-put-end-in-loop-k : goal.slice_bounds-put-end-in-loop-k
slice_bounds-put-end-in-loop-k c = c.sheet_row-n.ensures.long
