use Rattle.std.specs.Prelude.{Option}
use mathlib.Core.Path.{sym, ap, ◌∙◌}
use Prim.Native.Nat.{ℕ}
use native.Mathlib.Omega.{arith}
use Rattle.numbers.specs.Below.{given}
use Rattle.numbers.proofs.BelowLaws.{looked_none, looked_all, looked_here, looked_more}
use Rattle.states.proofs.stood_for.Goals as goal

pub loop-j-init : goal.loop-j-init
loop-j-init c = looked_none _ _

pub stands_for-requires : goal.stands_for-requires
stands_for-requires c = record { table_factors_in_range = c.requires.table_factors_in_range; rams_len = c.requires.rams_len; j_lt_rows = (omega arith, c.requires.i_lt_rows) }

pub returns-then-stands_for : goal.returns-then-stands_for
unfolding given
returns-then-stands_for c = ap (λ (o : Option ℕ). given o)
    (looked_here _ _ _ c.loop-j.invariant (omega arith) (sym c.stands_for.ensures ∙ c.if-stands_for.true))

pub loop-j-preserved : goal.loop-j-preserved
loop-j-preserved c = looked_more _ _ _ c.loop-j.invariant (omega arith) (sym c.stands_for.ensures ∙ c.if-stands_for.false)

pub returns : goal.returns
unfolding given
returns c = ap (λ (o : Option ℕ). given o) (looked_all _ _ _ c.loop-j.invariant (omega arith))
