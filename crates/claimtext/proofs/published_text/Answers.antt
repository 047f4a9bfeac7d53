-- `claimtext::published_text` meets its contract: the list's length, then what judging refuses is refused, and else the front of the lent tables is a good table.
use Rattle.std.proofs.lemmas.Result.{err_from_is_err_and}
use mathlib.Core.Path.{◌∙◌}
use Rattle.tablerules.specs.Table.{lent_view}
use Rattle.tablerules.proofs.GoodLaws.{told_good}
use Rattle.claimtext.proofs.PublishedLaws.{list_long, table_refused, table_judged}
use Rattle.claimtext.proofs.published_text.Goals as goal

pub returns-then-list-gt-BYTES_MOST : goal.returns-then-list-gt-BYTES_MOST
returns-then-list-gt-BYTES_MOST c = list_long _ _ _ c.if-list-gt-BYTES_MOST.true

pub returns-in_err-judge : goal.returns-in_err-judge
returns-in_err-judge c =
    let p = err_from_is_err_and c.from_residual.result c.from_residual.ensures.1 in
    rw (p.1, p.2) (table_refused _ _ _ c.if-list-gt-BYTES_MOST.false _ c.judge.ensures.f_value _ c.in_err-judge.was)

pub published_text_good-requires : goal.published_text_good-requires
published_text_good-requires c = told_good (lent_view c.args.view.now) c.judge.ensures.good_in c.in_ok-judge.was

pub returns : goal.returns
returns c = c.published_text_good.ensures ∙ table_judged _ _ _ c.if-list-gt-BYTES_MOST.false _ c.judge.ensures.f_value c.in_ok-judge.was
