-- `parts::margins` meets its contract: what judging refuses is refused, then room that is too short, and else the front of the lent tables is a good table.
use Rattle.std.proofs.lemmas.Result.{err_from_is_err_and}
use native.Mathlib.Omega.{arith}
use Rattle.tablerules.specs.Table.{lent_view}
use Rattle.tablerules.proofs.GoodLaws.{told_good}
use Rattle.parts.proofs.PartsLaws.{margins_refused, margins_short, margins_stored}
use Rattle.parts.proofs.margins.Goals as goal

pub returns-in_err-judge : goal.returns-in_err-judge
returns-in_err-judge c =
    let p = err_from_is_err_and c.from_residual.result c.from_residual.ensures.1 in
    rw (p.1, p.2) (margins_refused _ _ c.judge.ensures.f_value _ _ c.in_err-judge.was)

pub returns-then-out-rows : goal.returns-then-out-rows
returns-then-out-rows c = margins_short _ _ c.judge.ensures.f_value _ c.in_ok-judge.was (omega arith)

pub margins_good-requires : goal.margins_good-requires
margins_good-requires c = record { good = told_good (lent_view c.args.view.now) c.judge.ensures.good_in c.in_ok-judge.was; rows_in_bounds = omega arith }

pub returns : goal.returns
returns c = margins_stored _ _ c.judge.ensures.f_value _ c.in_ok-judge.was (omega arith) c.margins_good.ensures
