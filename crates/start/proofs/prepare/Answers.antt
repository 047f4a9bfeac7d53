-- `start::prepare` meets its contract: what each call leaves is a part of `prepared_of`, and the front of the borders and of the factors is as long as the header says.
use mathlib.Core.Path.{ap, ◌∙◌}
use native.Mathlib.Omega.{arith}
use lib.ListN.{length}
use Rattle.numbers.proofs.BelowLaws.{table_long}
use Rattle.tablerules.proofs.RoomLaws.{factors_most}
use Rattle.marginrules.proofs.JudgedLaws.{good_factors, good_borders}
use Rattle.staterules.proofs.StandingsLaws.{rows_in_lem}
use Rattle.extractrules.proofs.StartLaws.{prepared_by}
use Rattle.start.proofs.prepare.Goals as goal

pub overflow_mul-factors : goal.overflow_mul-factors
overflow_mul-factors c = omega (arith, factors_most _ c.requires.good.exact.header)

pub judge_start-requires : goal.judge_start-requires
judge_start-requires c = record { table_factors_in_range = good_factors c.requires.good; borders_in_range = good_borders c.requires.good; b_len = (c.requires.good.exact.borders_long, c.requires.flags_len); states_len = ((rows_in_lem _ _ c.fill_rows.ensures.0).states_long, ap length c.fill_rows.ensures.1 ∙ table_long _ _) }

pub returns : goal.returns
returns c = prepared_by _ _ c.judge_start.result c.fill_rows.ensures.0 c.fill_rows.ensures.1 c.judge_start.ensures
