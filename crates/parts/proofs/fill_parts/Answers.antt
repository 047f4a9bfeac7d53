-- `parts::fill_parts` meets its contract: the front parts are a good table, and what is stored by the lists that were filled in is what the definitions say (`stored-are`).
use mathlib.Core.Path.{ap, ◌∙◌}
use native.Mathlib.Omega.{arith}
use lib.ListN.{length}
use Rattle.numbers.proofs.BelowLaws.{table_long}
use Rattle.tablerules.proofs.RoomLaws.{factors_most}
use Rattle.staterules.proofs.StandingsLaws.{rows_in_lem}
use Rattle.parts.proofs.PartsLaws.{stored_are, storable}
use Rattle.parts.proofs.fill_parts.Goals as goal

pub overflow_mul-h : goal.overflow_mul-h
overflow_mul-h c = omega (arith, factors_most _ c.requires.good.exact.header)

pub store_parts-requires : goal.store_parts-requires
store_parts-requires c = let m = rows_in_lem _ _ c.fill_rows.ensures.0 in record { storable = storable _ c.fill_rows.ensures.0 c.fill_rows.ensures.1 c.requires.good; rams_len = (m.rams_long, ap length c.fill_rows.ensures.1 ∙ table_long _ _); states_len = (m.states_long, c.requires.states_len.1) }

pub returns : goal.returns
returns c = c.store_parts.ensures ∙ stored_are _ c.fill_rows.ensures.0 c.fill_rows.ensures.1 _
