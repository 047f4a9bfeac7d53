use native.Mathlib.Omega.{arith}
use Rattle.numbers.proofs.ListLaws.{filled_none, filled_more, filled_all}
use Rattle.states.proofs.fill_states.Goals as goal

pub loop-i-init : goal.loop-i-init
loop-i-init c = filled_none _ _ _

pub state_of-requires : goal.state_of-requires
state_of-requires c = record { table_factors_in_range = c.requires.table_factors_in_range; rams_len = c.requires.rams_len; i_lt_rows = omega arith }

pub offset_bounds-states-i : goal.offset_bounds-states-i
offset_bounds-states-i c = omega (arith, c.loop-i.invariant.as_long, c.requires.states_len)

pub bounds-states-i : goal.bounds-states-i
bounds-states-i c = omega (arith, c.loop-i.invariant.as_long, c.requires.states_len)

pub overflow_step-i : goal.overflow_step-i
overflow_step-i c = omega (arith, c.loop-i.invariant.as_long, c.requires.states_len)

pub loop-i-preserved : goal.loop-i-preserved
loop-i-preserved c = filled_more c.loop-i.invariant _ (omega arith) (omega (arith, c.requires.states_len)) c.state_of.ensures

pub shape_of-states : goal.shape_of-states
shape_of-states c = c.loop-i.invariant.as_long

pub returns : goal.returns
returns c = filled_all c.loop-i.invariant (omega arith) c.requires.states_len
