-- What the borders used of a row of a small hour, computed. Nobody cites it: it refuses a definition that slipped.
use mathlib.Core.Path.{◌≡◌, refl}
use Rattle.numbers.specs.Below.{if_zero, sum, count, lesser, least, or_zero, table, first_from, given}
use Rattle.numbers.specs.Ints.{max_ℤ, min_ℤ, positive_part, same_ℤ, sum_ℤ}
use Rattle.types.specs.Ranges.{hubs_of, border_of, share_of, row_of, worth, default_of}
use Rattle.tablerules.specs.Table.{stretch}
use Rattle.rounds.specs.Rounds.{sharers, raise, raises, load, lowered, risen, apply, next, raised, counted, run, extract}
use Rattle.marginrules.specs.Margin.{grains, f0core_of, fuaf_of, base_of, amr_of, signed_factor, p_of, lta_kw, s_of, lta_margin_of, ram_of, ram_at}
use Rattle.staterules.specs.States.{highest, lowest, spread_of, shifted, below, state_of, kept}
use Rattle.staterules.specs.Standings.{standings_of}
use Rattle.setup.specs.Setup.{grid_by, begin_by}
use Rattle.extractrules.specs.Start.{every, setup_with}
use Rattle.why.specs.Why.{why_marked}
use Rattle.why.proofs.Anchors.{small}
use Rattle.reasoned.specs.Reasoned.{used_of}

-- border 0 used 15 kW x 20000 of row 0
pub used : used_of (small 0) (why_marked every (small 0) 1) 0 ≡ 300000
unfolding if_zero sum count lesser least or_zero table first_from given max_ℤ min_ℤ positive_part same_ℤ sum_ℤ hubs_of border_of share_of row_of worth default_of stretch sharers raise raises load lowered risen apply next raised counted run extract grains f0core_of fuaf_of base_of amr_of signed_factor p_of lta_kw s_of lta_margin_of ram_of ram_at highest lowest spread_of shifted below state_of standings_of kept grid_by setup_with begin_by why_marked
used = refl
