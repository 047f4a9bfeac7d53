-- `writing::write` meets its contract: what judging refuses is refused (`write-refused`), and else the front of the lent tables is written (`write-on`).
use Rattle.std.specs.Prelude.{None}
use Rattle.refusals.specs.Refusals.{Ruling}
use Rattle.std.proofs.lemmas.Result.{err_from_is_err_and}
use mathlib.Core.Path.{sym, ap, ◌∙◌}
use Rattle.refusals.specs.Answers.{said_judgement}
use Rattle.tablerules.specs.Table.{lent_view, front}
use Rattle.tablerules.proofs.GoodLaws.{told_judged, told_good}
use Rattle.writing.proofs.LeftLaws.{write_refused, write_on}
use Rattle.writing.proofs.write.Goals as goal

pub returns-in_err-judge : goal.returns-in_err-judge
returns-in_err-judge c =
    let p = err_from_is_err_and c.from_residual.result c.from_residual.ensures.1 in
    rw (p.1, p.2) (write_refused (lent_view c.args.view.now) _ _ (sym (ap (λ (j : Ruling). said_judgement j (front (lent_view c.args.view.now))) c.in_err-judge.was) ∙ c.judge.ensures.f_value))

pub write_good-requires : goal.write_good-requires
write_good-requires c = told_good (lent_view c.args.view.now) c.judge.ensures.good_in c.in_ok-judge.was

pub returns : goal.returns
returns c = c.write_good.ensures ∙ write_on (lent_view c.args.view.now) _ (front (lent_view c.args.view.now)) (sym (told_judged None (lent_view c.args.view.now) _ c.judge.ensures.f_value c.in_ok-judge.was))
