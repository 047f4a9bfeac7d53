-- `doors::bound_for` meets its contract: what judging refuses is refused, and else the front of the lent tables is a good table.
use Rattle.std.specs.Prelude.{Err}
use mathlib.Core.Path.{◌≡◌, ◌∙◌}
use borrow.Author.Rules.{rules}
use Rattle.marks.specs.Marks.{every, listed}
use Rattle.tablerules.specs.Table.{lent_view}
use Rattle.tablerules.proofs.GoodLaws.{told_good}
use Rattle.boundrules.proofs.BoundLaws.{lent_refused, lent_bound}
use Rattle.doors.proofs.bound_for.Goals as goal

pub returns-in_err-judge : goal.returns-in_err-judge
returns-in_err-judge c =
    let told : c.from_residual.result ≡ Err c.in_err-judge.field-0.0 = search rules in
    rw told (lent_refused _ _ _ _ c.judge.ensures.f_value _ c.in_err-judge.was)

pub bound_good-requires : goal.bound_good-requires
bound_good-requires c = told_good (lent_view c.args.view.now) c.judge.ensures.good_in c.in_ok-judge.was

pub returns : goal.returns
returns c = c.bound_good.ensures
    ∙ lent_bound (every c.args.marks) (listed c.args.marks) (lent_view c.args.view.now) _ c.judge.ensures.f_value c.in_ok-judge.was
