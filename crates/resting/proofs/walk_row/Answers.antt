-- `resting::walk_row` meets its contract: the row's share is that of the margin left to it (`step_left`).
use mathlib.Core.Path.{◌∙◌}
use native.Mathlib.Omega.{arith}
use Rattle.rounds.proofs.Loops.{ready_long, ready_at}
use Rattle.resting.proofs.WalkLaws.{step_left}
use Rattle.resting.proofs.walk_row.Goals as goal

pub bounds-ns-i : goal.bounds-ns-i
bounds-ns-i c = omega (arith, ready_long c.requires.ready, c.requires.row)

pub lower_if_tight-requires-clause-n_value : goal.lower_if_tight-requires-clause-n_value
lower_if_tight-requires-clause-n_value c = ready_at c.requires.ready c.args.i c.requires.row

pub lower_if_tight-requires-clause-most_value : goal.lower_if_tight-requires-clause-most_value
lower_if_tight-requires-clause-most_value c = (c.row_loads-loads.ensures.1, rw (ready_at c.requires.ready c.args.i c.requires.row, c.row_loads-loads.ensures.1) c.requires.product)

pub returns : goal.returns
returns c = c.lower_if_tight.ensures ∙ step_left c.requires _ c.row_loads-loads.ensures.0
