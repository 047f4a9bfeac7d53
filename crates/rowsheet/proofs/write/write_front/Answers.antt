-- `rowsheet::write::write_front` meets its contract: the first row out of range is named (`row_out`), or all are in range (`rows_in`).
use mathlib.Core.Path.{sym, ◌∙◌}
use native.Mathlib.Omega.{arith}
use Rattle.numbers.proofs.FirstLaws.{first_within}
use Rattle.rowsheet.proofs.WriteLaws.{row_out_lem, rows_in_lem, rows_on}
use Rattle.rowsheet.proofs.write.write_front.Goals as goal

pub first_row_out-requires : goal.first_row_out-requires
first_row_out-requires c = c.requires.0

pub overflow_add-result : goal.overflow_add-result
overflow_add-result c = omega (arith, first_within _ _ (sym (c.in-Some.is) ∙ c.first_row_out.ensures), c.requires.3)

pub returns-in-Some : goal.returns-in-Some
returns-in-Some c = (row_out_lem c.args.zones c.args.c.now c.args.f.now _ (sym (c.in-Some.is) ∙ c.first_row_out.ensures) c.args.out.now)

pub write_good-requires : goal.write_good-requires
write_good-requires c = (c.requires.0, c.requires.1, c.requires.2, c.requires.3, rows_in_lem c.args.zones c.args.c.now c.args.f.now (sym (c.in_default.is) ∙ c.first_row_out.ensures))

pub returns : goal.returns
returns c = c.write_good.ensures ∙ rows_on c.args.zones c.args.c.now c.args.f.now (sym (c.in_default.is) ∙ c.first_row_out.ensures) c.args.out.now
