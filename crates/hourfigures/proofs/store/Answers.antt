-- `hourfigures::store` meets its contract: the laws `store-answered` and `store-refused`.
use mathlib.Core.Path.{refl, sym}
use Prim.Native.Nat.{◌≤◌}
use native.Mathlib.Omega.{arith}
use lib.ListN.{length}
use lib.Seq.{length-take-le}
use Rattle.types.proofs.RangeLaws.{header_in_lem}
use Rattle.hourfigures.proofs.KeptLaws.{store_answered, store_refused}
use Rattle.hourfigures.proofs.store.Goals as goal

pub slice_bounds-keep_ways-end : goal.slice_bounds-keep_ways-end
slice_bounds-keep_ways-end c = sym (length-take-le _ _ (omega (arith, (header_in_lem _ c.requires.h_value.0).borders_most_lem, c.requires.borders_most_in_bounds.0)))

pub keep_ways-requires : goal.keep_ways-requires
keep_ways-requires c = record { zones_le_zones_most = ((header_in_lem _ c.requires.h_value.0).zones_most_lem, c.requires.h_value.1); borders_most_in_bounds = omega (arith, c.requires.k_lt_hours_most.0, c.requires.k_lt_hours_most.1) }

pub slice_bounds-keep_atcs-end : goal.slice_bounds-keep_atcs-end
slice_bounds-keep_atcs-end c = sym (length-take-le _ _ (omega (arith, (header_in_lem _ c.requires.h_value.0).borders_most_lem, c.requires.borders_most_in_bounds.1)))

pub keep_atcs-requires : goal.keep_atcs-requires
keep_atcs-requires c = let few = (header_in_lem _ c.requires.h_value.0).borders_most_lem in
    let within : c.args.h.borders ≤ length c.args.atc.now = omega (arith, few, c.requires.borders_most_in_bounds.1) in
    (omega (arith, few, length-take-le c.args.h.borders c.args.atc.now within), omega (arith, c.requires.k_lt_hours_most.0, c.requires.k_lt_hours_most.2))

pub returns-in-Ok : goal.returns-in-Ok
returns-in-Ok c = store_answered c.args.k c.args.ways.now c.args.atcs.now c.args.h _ c.args.extracted c.args.atc.now _
    c.in-Ok.is refl c.keep_ways.ensures c.keep_atcs.ensures

pub returns-in-Err : goal.returns-in-Err
returns-in-Err c = rw (c.number.ensures, c.place.ensures, c.byte.ensures) (store_refused c.args.k c.args.ways.now c.args.atcs.now c.args.h _ c.args.extracted c.args.atc.now _ c.in-Err.is)
