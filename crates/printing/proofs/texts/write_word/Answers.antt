-- `printing::texts::write_word` meets its contract: what each call tells is what its word says, by the law of each word.
use Rattle.tablerules.specs.Table.{lent}
use Rattle.printing.proofs.PrintedLaws.{said_as}
use Rattle.printing.proofs.WordLaws.{answer_said, rewrite_said, claims_said, bound_said, margins_said, rows_said_lem, filled_told}
use Rattle.printing.proofs.texts.write_word.Goals as goal

pub answer_good-requires : goal.answer_good-requires
answer_good-requires c = c.requires.0

pub write_good-requires : goal.write_good-requires
write_good-requires c = c.requires.0

pub published_text_good-requires : goal.published_text_good-requires
published_text_good-requires c = c.requires.0

pub bound_text_good-requires : goal.bound_text_good-requires
bound_text_good-requires c = c.requires.0

pub margins_text_good-requires : goal.margins_text_good-requires
margins_text_good-requires c = c.requires.0

pub write_filled-requires : goal.write_filled-requires
write_filled-requires c = c.requires

pub returns-in-Answer : goal.returns-in-Answer
returns-in-Answer c = rw c.in-Answer.is (answer_said _ _ _ c.requires.0 _ c.requires.1 c.answer_good.result c.answer_good.ensures.out_after c.answer_good.ensures.by_index)

pub returns-in-Rewrite : goal.returns-in-Rewrite
returns-in-Rewrite c = rw c.in-Rewrite.is (rewrite_said _ _ _ c.requires.0 _ c.requires.1 c.write_good.result c.write_good.ensures)

pub returns-in-Claims : goal.returns-in-Claims
returns-in-Claims c = rw c.in-Claims.is (claims_said _ _ _ c.requires.0 _ c.requires.1 c.published_text_good.result c.published_text_good.ensures)

pub returns-in-Bound : goal.returns-in-Bound
returns-in-Bound c = rw c.in-Bound.is (bound_said _ _ _ c.requires.0 _ c.requires.1 c.bound_text_good.result c.bound_text_good.ensures)

pub returns-in-Margins : goal.returns-in-Margins
returns-in-Margins c = rw c.in-Margins.is (margins_said _ _ _ c.requires.0 _ c.requires.1 c.margins_text_good.result c.margins_text_good.ensures)

pub returns-in-Rows : goal.returns-in-Rows
returns-in-Rows c = rw c.in-Rows.is
    (rows_said_lem _ _ _ (lent c.args.h c.args.z.now c.args.t.now c.args.b.now c.args.c.now c.args.f.now) c.requires.0 _ c.requires.1 c.write_rows.result c.write_rows.ensures)

pub returns-in-Filled : goal.returns-in-Filled
returns-in-Filled c = rw c.in-Filled.is (said_as (filled_told _ _ _ _) c.write_filled.ensures)
