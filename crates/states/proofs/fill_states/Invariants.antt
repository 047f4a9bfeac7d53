-- `states::fill_states` meets its contract. The loop's invariant: the first i rows have their state. The measure is the rows that are left.
use Rattle.numbers.proofs.ListLaws.{Filled}
use Rattle.staterules.specs.States.{state_of}
use Rattle.states.proofs.fill_states.Given as goal

abbrev pub invariant-loop-i : goal.invariant-loop-i
invariant-loop-i l = Filled (state_of l.h l.f l.rams) l.h.rows l.initial.states l.states l.i
