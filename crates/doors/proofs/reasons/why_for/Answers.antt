-- `doors::reasons::why_for` meets its contract: what passed the door is good, and has room for p.
use Rattle.std.specs.Prelude.{Err}
use mathlib.Core.Path.{◌≡◌, ◌∙◌}
use borrow.Author.Rules.{rules}
use Rattle.tablerules.proofs.GoodLaws.{told_good}
use Rattle.extractrules.proofs.LentLaws.{front_room}
use Rattle.why.proofs.WhyLaws.{lent_refused, lent_passed}
use Rattle.doors.proofs.reasons.why_for.Goals as goal

pub returns-in_err-judge : goal.returns-in_err-judge
returns-in_err-judge c =
    let told : c.from_residual.result ≡ Err c.in_err-judge.field-0.0 = search rules in
    rw told (lent_refused _ _ _ _ _ _ _ _ c.judge.ensures.f_value _ c.in_err-judge.was)

pub why_good-requires : goal.why_good-requires
why_good-requires c = record { good = told_good _ c.judge.ensures.good_in c.in_ok-judge.was; borders_in_bounds = front_room _ _ _ c.judge.ensures.f_value c.in_ok-judge.was }

pub returns : goal.returns
returns c = c.why_good.ensures ∙ lent_passed _ _ _ _ _ _ _ _ c.judge.ensures.f_value c.in_ok-judge.was
