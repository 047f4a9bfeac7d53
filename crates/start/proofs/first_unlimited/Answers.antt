use mathlib.Core.Path.{sym, ◌∙◌}
use native.Mathlib.Omega.{arith}
use Rattle.numbers.proofs.BelowLaws.{looked_none, looked_all, looked_here, looked_more}
use Rattle.start.proofs.first_unlimited.Goals as goal

pub loop-k-init : goal.loop-k-init
loop-k-init c = looked_none _ _

pub is_unlimited-requires : goal.is_unlimited-requires
is_unlimited-requires c = record { table_factors_in_range = c.requires.table_factors_in_range; borders_in_range = c.requires.borders_in_range; states_len = c.requires.states_len; k_in_bounds = (omega (arith, c.requires.b_len.0), omega (arith, c.requires.b_len.1)) }

pub returns-then-is_unlimited : goal.returns-then-is_unlimited
returns-then-is_unlimited c = looked_here _ _ _ c.loop-k.invariant (omega arith) (sym c.is_unlimited.ensures ∙ c.if-is_unlimited.true)

pub loop-k-preserved : goal.loop-k-preserved
loop-k-preserved c = looked_more _ _ _ c.loop-k.invariant (omega arith) (sym c.is_unlimited.ensures ∙ c.if-is_unlimited.false)

pub returns : goal.returns
returns c = looked_all _ _ _ c.loop-k.invariant (omega arith)
