-- `corners::corner_flows` meets its contract: what judging refuses is refused, and else the front of the lent tables is a good table.
use Rattle.std.proofs.lemmas.Result.{err_from_is_err_and}
use mathlib.Core.Path.{◌∙◌}
use Rattle.tablerules.specs.Table.{lent_view}
use Rattle.tablerules.proofs.GoodLaws.{told_good}
use Rattle.cornerrules.proofs.SheetLaws.{corners_refused, corners_left_lem}
use Rattle.corners.proofs.corner_flows.Goals as goal

pub returns-in_err-judge : goal.returns-in_err-judge
returns-in_err-judge c =
    let p = err_from_is_err_and c.from_residual.result c.from_residual.ensures.1 in
    rw (p.1, p.2) (corners_refused _ _ _ c.judge.ensures.f_value _ c.in_err-judge.was _)

pub corner_flows_good-requires : goal.corner_flows_good-requires
corner_flows_good-requires c = told_good (lent_view c.args.view.now) c.judge.ensures.good_in c.in_ok-judge.was

pub returns : goal.returns
returns c = c.corner_flows_good.ensures ∙ corners_left_lem _ _ _ c.judge.ensures.f_value c.in_ok-judge.was _
