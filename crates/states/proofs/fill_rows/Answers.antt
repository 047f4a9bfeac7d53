-- `states::fill_rows` meets its contract: each front part is as long as the header says, and RAMs and states are those of the front.
use mathlib.Core.Path.{sym, ap, ◌∙◌}
use native.Mathlib.Omega.{arith}
use lib.ListN.{length}
use Rattle.numbers.proofs.BelowLaws.{table_long}
use Rattle.tablerules.proofs.RoomLaws.{factors_most}
use Rattle.marginrules.proofs.JudgedLaws.{good_factors}
use Rattle.staterules.proofs.StandingsLaws.{rows_are}
use Rattle.states.proofs.fill_rows.Goals as goal

pub overflow_mul-factors : goal.overflow_mul-factors
overflow_mul-factors c = omega (arith, factors_most _ c.requires.good.exact.header)

pub slice_bounds-front-end-2 : goal.slice_bounds-front-end-2
slice_bounds-front-end-2 c = rw c.allocated_items.ensures (sym c.requires.good.exact.allocated_long)

pub fill_rams-requires : goal.fill_rams-requires
fill_rams-requires c = record { good = rw c.allocated_items.ensures c.requires.good; rams_len = c.requires.rams_len }

pub fill_states-requires : goal.fill_states-requires
fill_states-requires c = record { table_factors_in_range = good_factors c.requires.good; rams_len = ap length c.fill_rams.ensures.0 ∙ table_long _ _; states_len = c.requires.states_len }

pub returns : goal.returns
returns c = rows_are _ _ c.allocated_items.ensures c.fill_rams.ensures.0 c.fill_rams.ensures.1 c.fill_states.ensures
