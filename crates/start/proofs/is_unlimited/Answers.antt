-- `start::is_unlimited` meets its contract.
use mathlib.Core.Path.{ap}
use mathlib.Core.Bool.{not}
use native.Mathlib.Omega.{arith}
use borrow.Author.Tests.{eq-eqb, ne_eqb}
use Rattle.marks.specs.Marks.{flagged}
use Rattle.start.proofs.is_unlimited.Goals as goal

pub offset_bounds-flags-k : goal.offset_bounds-flags-k
offset_bounds-flags-k c = omega (arith, c.requires.k_in_bounds.1)

pub bounds-flags-k : goal.bounds-flags-k
bounds-flags-k c = c.requires.k_in_bounds.1

pub returns-then-flags-k-eq0 : goal.returns-then-flags-k-eq0
unfolding flagged
returns-then-flags-k-eq0 c = rw (eq-eqb _ _ c.if-flags-k-eq0.true)

pub is_limited-requires : goal.is_limited-requires
is_limited-requires c = c.requires

pub returns : goal.returns
unfolding flagged
returns c = rw (ne_eqb _ _ c.if-flags-k-eq0.false) (ap not c.is_limited.ensures)
