-- `claims::judge_in` meets its contract: a good table and its flags give what `judge_each` asks, and the rows that were filled in are the table's (`known-claims`).
use native.Mathlib.Omega.{arith}
use Rattle.types.proofs.RangeLaws.{header_in_lem}
use Rattle.tablerules.proofs.RoomLaws.{factors_most}
use Rattle.claims.proofs.JudgeLaws.{factors_lent, rams_lent, states_lent, known_claims}
use Rattle.claims.proofs.judge_in.Goals as goal

pub overflow_mul-factors : goal.overflow_mul-factors
overflow_mul-factors c = omega (arith, factors_most _ c.requires.good.exact.header)

pub judge_each-requires : goal.judge_each-requires
judge_each-requires c = record { lent = factors_lent c.requires.good _ c.fill_rows.ensures.0; lent_2 = rams_lent c.requires.good _ c.fill_rows.ensures.0; states_len = (states_lent c.requires.good _ c.fill_rows.ensures.0, (header_in_lem _ c.requires.good.exact.header).rows_most_lem); named_value = (c.name_rows.ensures, c.requires.named_value.1) }

pub returns : goal.returns
returns c = known_claims c.requires.good _ c.fill_rows.ensures.0 c.args.claims.now c.judge_each.result c.judge_each.ensures
