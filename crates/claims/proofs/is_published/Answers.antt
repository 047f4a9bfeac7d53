-- `claims::is_published` meets its contract: each test is the definition's.
use mathlib.Core.Path.{ap, ◌∙◌}
use mathlib.Core.Bool.{not}
use native.Mathlib.Omega.{arith}
use Rattle.numbers.proofs.IntLaws.{read_pos}
use Rattle.claims.specs.Named.{flagged}
use Rattle.claims.proofs.UnflaggedLaws.{unflagged_kept, unflagged_not}
use Rattle.claims.proofs.is_published.Goals as goal

pub bounds-states-row : goal.bounds-states-row
bounds-states-row c = c.requires.1

pub overflow_cast-row : goal.overflow_cast-row
overflow_cast-row c = omega (arith, c.requires.0, c.requires.1)

pub returns-then-states-row-eq0 : goal.returns-then-states-row-eq0
returns-then-states-row-eq0 c = ap not (c.is_flagged.ensures ∙ ap (flagged c.args.named.now) (read_pos {n = 200} (omega (arith, c.requires.0, c.requires.1)) tt))
    ∙ unflagged_kept c.args.states.now c.args.named.now c.args.row c.if-states-row-eq0.true

pub returns : goal.returns
returns c = unflagged_not c.args.states.now c.args.named.now c.args.row c.if-states-row-eq0.false
