-- `claimtext::published::line_length` meets its contract: a row that is not published has no line.
use mathlib.Core.Path.{sym, ap, ◌∙◌}
use native.Mathlib.Omega.{arith}
use lib.ListN.{length}
use Rattle.numbers.proofs.IntLaws.{plain}
use Rattle.staterules.specs.Standings.{standings_with}
use Rattle.claims.specs.Unflagged.{unflagged}
use Rattle.claimtext.proofs.PublishedLaws.{published_here, published_not}
use Rattle.claimtext.proofs.published.line_length.Goals as goal

pub is_published-requires : goal.is_published-requires
is_published-requires c = (c.requires.1, c.requires.2)

pub offset_bounds-rams-row : goal.offset_bounds-rams-row
offset_bounds-rams-row c = omega (arith, c.requires.1, c.requires.2)

pub bounds-rams-row : goal.bounds-rams-row
bounds-rams-row c = omega (arith, c.requires.0, c.requires.2)

pub returns-then-is_published : goal.returns-then-is_published
returns-then-is_published c = let said = simp (plain, c.row_length-arg-1.given) at c.row_length.ensures in
    (said.0 ∙ sym (ap length (published_here (standings_with c.args.rams.now c.args.states.now) (unflagged c.args.states.now c.args.named.now) c.args.row (sym c.is_published.ensures ∙ c.if-is_published.true))), said.1)

pub returns : goal.returns
returns c = (sym (ap length (published_not (standings_with c.args.rams.now c.args.states.now) (unflagged c.args.states.now c.args.named.now) c.args.row (sym c.is_published.ensures ∙ c.if-is_published.false))), omega arith)
