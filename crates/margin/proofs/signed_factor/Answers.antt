-- `margin::signed_factor` meets its contract. Each factor is of the row, and so is each sum of them small.
use mathlib.Core.Path.{subst}
use Prim.Native.Nat.{ℕ, ◌<◌}
use native.Mathlib.Omega.{arith}
use lib.IntN.{ℤ, ◌+ℤ◌, ◌-ℤ◌}
use lib.ListN.{length}
use mir.Facts.{to_z-of_z}
use mir.Syntax.{w64}
use mir.Val.{SFits}
use Rattle.numbers.specs.Ints.{Within}
use Rattle.numbers.proofs.IntLaws.{within_fits, within_add}
use Rattle.types.specs.LineLimits.{factor_most}
use Rattle.types.specs.Ranges.{at_ℤ}
use Rattle.marginrules.specs.Magnitudes.{HubsWithin}
use Rattle.marginrules.proofs.MagnitudeLaws.{within_sub, signed_without, signed_between}
use Rattle.margin.proofs.signed_factor.Goals as goal

pub overflow_sub-result : goal.overflow_sub-result
overflow_sub-result c = let from : ℤ = at_ℤ c.args.factors.now c.args.border.from in
    let from_in : Within factor_most from = c.requires.factors_in_range.each.at c.args.border.from c.requires.border_in_range.from_in in
    let to : ℤ = at_ℤ c.args.factors.now c.args.border.to in
    let to_in : Within factor_most to = c.requires.factors_in_range.each.at c.args.border.to c.requires.border_in_range.to_in in
    let apart : SFits w64 (from -ℤ to) = within_fits (within_sub from_in to_in) tt in
    simp (to_z-of_z, within_fits from_in tt, within_fits to_in tt) apart

pub offset_bounds-factors-hubs : goal.offset_bounds-factors-hubs
offset_bounds-factors-hubs c = let sending : ℕ = c.in-Some.hubs.sending in
    let receiving : ℕ = c.in-Some.hubs.receiving in
    let zones : (sending < length c.args.factors.now) × (receiving < length c.args.factors.now) = subst (HubsWithin (length c.args.factors.now)) c.in-Some.is c.requires.border_in_range.hubs_in in
    omega (arith, zones.0, c.requires.factors_in_range.few)

pub bounds-factors-hubs : goal.bounds-factors-hubs
bounds-factors-hubs c = let sending : ℕ = c.in-Some.hubs.sending in
    let receiving : ℕ = c.in-Some.hubs.receiving in
    let zones : (sending < length c.args.factors.now) × (receiving < length c.args.factors.now) = subst (HubsWithin (length c.args.factors.now)) c.in-Some.is c.requires.border_in_range.hubs_in in
    zones.0

pub offset_bounds-factors-hubs-in-Some : goal.offset_bounds-factors-hubs-in-Some
offset_bounds-factors-hubs-in-Some c = let sending : ℕ = c.in-Some.hubs.sending in
    let receiving : ℕ = c.in-Some.hubs.receiving in
    let zones : (sending < length c.args.factors.now) × (receiving < length c.args.factors.now) = subst (HubsWithin (length c.args.factors.now)) c.in-Some.is c.requires.border_in_range.hubs_in in
    omega (arith, zones.1, c.requires.factors_in_range.few)

pub bounds-factors-hubs-in-Some : goal.bounds-factors-hubs-in-Some
bounds-factors-hubs-in-Some c = let sending : ℕ = c.in-Some.hubs.sending in
    let receiving : ℕ = c.in-Some.hubs.receiving in
    let zones : (sending < length c.args.factors.now) × (receiving < length c.args.factors.now) = subst (HubsWithin (length c.args.factors.now)) c.in-Some.is c.requires.border_in_range.hubs_in in
    zones.1

pub overflow_sub-result-in-Some : goal.overflow_sub-result-in-Some
overflow_sub-result-in-Some c = let from : ℤ = at_ℤ c.args.factors.now c.args.border.from in
    let from_in : Within factor_most from = c.requires.factors_in_range.each.at c.args.border.from c.requires.border_in_range.from_in in
    let sending : ℕ = c.in-Some.hubs.sending in
    let receiving : ℕ = c.in-Some.hubs.receiving in
    let zones : (sending < length c.args.factors.now) × (receiving < length c.args.factors.now) = subst (HubsWithin (length c.args.factors.now)) c.in-Some.is c.requires.border_in_range.hubs_in in
    let sent : ℤ = at_ℤ c.args.factors.now sending in
    let sent-in : Within factor_most sent = c.requires.factors_in_range.each.at sending zones.0 in
    let first : SFits w64 (from -ℤ sent) = within_fits (within_sub from_in sent-in) tt in
    simp (to_z-of_z, within_fits from_in tt, within_fits sent-in tt) first

pub overflow_add-result : goal.overflow_add-result
overflow_add-result c = let from : ℤ = at_ℤ c.args.factors.now c.args.border.from in
    let from_in : Within factor_most from = c.requires.factors_in_range.each.at c.args.border.from c.requires.border_in_range.from_in in
    let sending : ℕ = c.in-Some.hubs.sending in
    let receiving : ℕ = c.in-Some.hubs.receiving in
    let zones : (sending < length c.args.factors.now) × (receiving < length c.args.factors.now) = subst (HubsWithin (length c.args.factors.now)) c.in-Some.is c.requires.border_in_range.hubs_in in
    let sent : ℤ = at_ℤ c.args.factors.now sending in
    let sent-in : Within factor_most sent = c.requires.factors_in_range.each.at sending zones.0 in
    let received : ℤ = at_ℤ c.args.factors.now receiving in
    let received-in : Within factor_most received = c.requires.factors_in_range.each.at receiving zones.1 in
    let first : SFits w64 (from -ℤ sent) = within_fits (within_sub from_in sent-in) tt in
    let second : SFits w64 (from -ℤ sent +ℤ received) = within_fits (within_add (within_sub from_in sent-in) received-in) tt in
    simp (to_z-of_z, within_fits from_in tt, within_fits sent-in tt, within_fits received-in tt, first) second

pub overflow_sub-result-in-Some-2 : goal.overflow_sub-result-in-Some-2
overflow_sub-result-in-Some-2 c = let from : ℤ = at_ℤ c.args.factors.now c.args.border.from in
    let from_in : Within factor_most from = c.requires.factors_in_range.each.at c.args.border.from c.requires.border_in_range.from_in in
    let to : ℤ = at_ℤ c.args.factors.now c.args.border.to in
    let to_in : Within factor_most to = c.requires.factors_in_range.each.at c.args.border.to c.requires.border_in_range.to_in in
    let sending : ℕ = c.in-Some.hubs.sending in
    let receiving : ℕ = c.in-Some.hubs.receiving in
    let zones : (sending < length c.args.factors.now) × (receiving < length c.args.factors.now) = subst (HubsWithin (length c.args.factors.now)) c.in-Some.is c.requires.border_in_range.hubs_in in
    let sent : ℤ = at_ℤ c.args.factors.now sending in
    let sent-in : Within factor_most sent = c.requires.factors_in_range.each.at sending zones.0 in
    let received : ℤ = at_ℤ c.args.factors.now receiving in
    let received-in : Within factor_most received = c.requires.factors_in_range.each.at receiving zones.1 in
    let first : SFits w64 (from -ℤ sent) = within_fits (within_sub from_in sent-in) tt in
    let second : SFits w64 (from -ℤ sent +ℤ received) = within_fits (within_add (within_sub from_in sent-in) received-in) tt in
    let third : SFits w64 (from -ℤ sent +ℤ received -ℤ to) = within_fits (within_sub (within_add (within_sub from_in sent-in) received-in) to_in) tt in
    simp (to_z-of_z, within_fits from_in tt, within_fits sent-in tt, within_fits received-in tt, within_fits to_in tt, first, second) third

pub returns-in-None : goal.returns-in-None
returns-in-None c = let from : ℤ = at_ℤ c.args.factors.now c.args.border.from in
    let from_in : Within factor_most from = c.requires.factors_in_range.each.at c.args.border.from c.requires.border_in_range.from_in in
    let to : ℤ = at_ℤ c.args.factors.now c.args.border.to in
    let to_in : Within factor_most to = c.requires.factors_in_range.each.at c.args.border.to c.requires.border_in_range.to_in in
    let apart : SFits w64 (from -ℤ to) = within_fits (within_sub from_in to_in) tt in
    simp (to_z-of_z, within_fits from_in tt, within_fits to_in tt, apart) (signed_without _ _ c.in-None.is)

pub returns-in-Some : goal.returns-in-Some
returns-in-Some c = let from : ℤ = at_ℤ c.args.factors.now c.args.border.from in
    let from_in : Within factor_most from = c.requires.factors_in_range.each.at c.args.border.from c.requires.border_in_range.from_in in
    let to : ℤ = at_ℤ c.args.factors.now c.args.border.to in
    let to_in : Within factor_most to = c.requires.factors_in_range.each.at c.args.border.to c.requires.border_in_range.to_in in
    let sending : ℕ = c.in-Some.hubs.sending in
    let receiving : ℕ = c.in-Some.hubs.receiving in
    let zones : (sending < length c.args.factors.now) × (receiving < length c.args.factors.now) = subst (HubsWithin (length c.args.factors.now)) c.in-Some.is c.requires.border_in_range.hubs_in in
    let sent : ℤ = at_ℤ c.args.factors.now sending in
    let sent-in : Within factor_most sent = c.requires.factors_in_range.each.at sending zones.0 in
    let received : ℤ = at_ℤ c.args.factors.now receiving in
    let received-in : Within factor_most received = c.requires.factors_in_range.each.at receiving zones.1 in
    let first : SFits w64 (from -ℤ sent) = within_fits (within_sub from_in sent-in) tt in
    let second : SFits w64 (from -ℤ sent +ℤ received) = within_fits (within_add (within_sub from_in sent-in) received-in) tt in
    let third : SFits w64 (from -ℤ sent +ℤ received -ℤ to) = within_fits (within_sub (within_add (within_sub from_in sent-in) received-in) to_in) tt in
    simp (to_z-of_z, within_fits from_in tt, within_fits sent-in tt, within_fits received-in tt, within_fits to_in tt, first, second, third)
    (signed_between _ _ _ c.in-Some.is)
