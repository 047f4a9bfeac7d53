-- `claimtext::publish_in` meets its contract: the rows that were filled in are the table's, the flags are those of the list's claims, and what the claims come to decides
-- (`claims-refused`, `claims-accepted`).
use Rattle.std.proofs.lemmas.Result.{err_from_is_err_and}
use mathlib.Core.Path.{sym, ◌∙◌}
use native.Mathlib.Omega.{arith}
use Rattle.types.proofs.RangeLaws.{header_in_lem}
use Rattle.tablerules.proofs.RoomLaws.{factors_most}
use Rattle.staterules.proofs.StandingsLaws.{rows_in_lem}
use Rattle.claims.proofs.JudgeLaws.{factors_lent, rams_lent, states_lent}
use Rattle.claimtext.proofs.PublishedLaws.{claims_refused, claims_accepted}
use Rattle.claimtext.proofs.publish_in.Goals as goal

pub overflow_mul-factors : goal.overflow_mul-factors
overflow_mul-factors c = omega (arith, factors_most _ c.requires.good.exact.header)

pub judge_lines-requires : goal.judge_lines-requires
judge_lines-requires c = record { lent = factors_lent c.requires.good _ c.fill_rows.ensures.0; lent_2 = rams_lent c.requires.good _ c.fill_rows.ensures.0; states_len = (states_lent c.requires.good _ c.fill_rows.ensures.0, (header_in_lem _ c.requires.good.exact.header).rows_most_lem); named_value = (c.name_lines.ensures, c.requires.named_value.1) }

pub returns-in_err-judge_lines : goal.returns-in_err-judge_lines
returns-in_err-judge_lines c =
    let p = err_from_is_err_and c.from_residual.result c.from_residual.ensures.1 in
    rw (p.1, p.2) (claims_refused c.requires.good _ c.fill_rows.ensures.0 _ _ _ c.judge_lines.ensures _ c.in_err-judge_lines.was)

pub write_rows-requires : goal.write_rows-requires
write_rows-requires c = let m = rows_in_lem _ _ c.fill_rows.ensures.0 in
    (m.rams_long ∙ sym m.states_long, omega (arith, m.states_long, (header_in_lem _ c.requires.good.exact.header).rows_most_lem))

pub returns : goal.returns
returns c = c.write_rows.ensures
    ∙ claims_accepted c.requires.good _ c.fill_rows.ensures.0 _ _ _ c.judge_lines.ensures c.in_ok-judge_lines.was c.name_lines.ensures
