-- `doors::extract_for` meets its contract: what passed the door is good, and has room for p.
use Rattle.std.specs.Prelude.{Err}
use mathlib.Core.Path.{◌≡◌, ◌∙◌}
use borrow.Author.Rules.{rules}
use lib.ListN.{length}
use Rattle.marks.specs.Marks.{every, listed}
use Rattle.tablerules.specs.Table.{Table, lent_view}
use Rattle.tablerules.proofs.GoodLaws.{told_good}
use Rattle.extractrules.proofs.LentLaws.{lent_refused, front_room, lent_outcome}
use Rattle.doors.proofs.extract_for.Goals as goal

pub returns-in_err-judge : goal.returns-in_err-judge
returns-in_err-judge c =
    let told : c.from_residual.result ≡ Err c.in_err-judge.field-0.0 = search rules in
    rw told (lent_refused _ _ _ _ _ c.judge.ensures.f_value _ _ _ c.in_err-judge.was)

pub extract_good-requires : goal.extract_good-requires
extract_good-requires c = let given : Table = lent_view c.args.view.now in
    record { good = told_good (given) c.judge.ensures.good_in c.in_ok-judge.was; borders_in_bounds = front_room (given) (length c.args.p.now) _ c.judge.ensures.f_value c.in_ok-judge.was }

pub returns : goal.returns
returns c = let given : Table = lent_view c.args.view.now in
    c.extract_good.ensures
    ∙ lent_outcome (every c.args.marks) (listed c.args.marks) (given) c.args.p.now _ c.judge.ensures.f_value c.in_ok-judge.was c.args.atc.now c.args.left.now
