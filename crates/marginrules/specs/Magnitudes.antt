-- What a function on one row asks of the row's values, by 01's ranges, and how large F0core, AMR, S and RAM can then be, in grains.
-- That a judged table gives all of it is proved (`MagnitudeLaws.antt`).
use Rattle.std.specs.Prelude.{◌≡◌, true, List, [], ℕ, ◌+◌, ◌*◌, ◌≤◌, ◌<◌, ℤ, length, get_or, None, Option, Some}
use Rattle.numbers.specs.Ints.{Within, AllWithin}
use Rattle.limits.specs.Limits.{zones_most, borders_most}
use Rattle.types.specs.declared.Header.{Header}
use Rattle.types.specs.declared.Hubs.{Hubs}
use Rattle.types.specs.declared.Border.{Border}
use Rattle.types.specs.declared.Row.{Row}
use Rattle.types.specs.LineLimits.{net_most, lta_most, fmax_most, flow_most, share_most, va_most, factor_most}
use Rattle.types.specs.Ranges.{border_fits, worth}

-- a row's values, kW and ten-thousandths, are at most these in magnitude; so is the worth of R, where the default is
pub record RowWithin (fmax flow share va : ℕ) (row : Row) : Type 0 where
  pub fmax_in : Within fmax row.fmax
  pub frm_in : Within fmax row.frm
  pub fref_in : Within flow row.fref
  pub f0all_in : Within flow row.f0all
  pub share_in : (default : ℤ) → Within share default → Within share (worth default row.share)
  pub cva_in : Within va row.cva
  pub iva_in : Within va row.iva

abbrev pub RowInRange : Row → Type 0
RowInRange row = RowWithin fmax_most flow_most share_most va_most row

-- a row's factors
pub record FactorsInRange (factors : List ℤ) : Type 0 where
  pub some : 0 < length factors
  pub few : length factors ≤ zones_most
  pub each : AllWithin factor_most factors

-- the factors of all rows
pub record TableFactorsInRange (h : Header) (factors : List ℤ) : Type 0 where
  pub some : 0 < h.zones
  pub few : h.zones ≤ zones_most
  pub long : length factors ≡ h.rows * h.zones
  pub each : AllWithin factor_most factors

-- net positions, reference or allocated: at most one for each zone
pub record NetsInRange (zones : ℕ) (nets : List ℤ) : Type 0 where
  pub few : length nets ≤ zones
  pub each : AllWithin net_most nets

-- hubs that are zones
abbrev pub HubsWithin : (zones : ℕ) → Option Hubs → Type 0
HubsWithin zones None = Unit {0}
HubsWithin zones (Some hubs) = (hubs.sending < zones) × (hubs.receiving < zones)

-- a border between two of the zones, of at most so much LTA in MW
pub record BorderWithin (lta zones : ℕ) (border : Border) : Type 0 where
  pub from_in : border.from < zones
  pub to_in : border.to < zones
  pub lta_in : border.lta ≤ lta
  pub hubs_in : HubsWithin zones border.hubs

abbrev pub BorderInRange : (zones : ℕ) → Border → Type 0
BorderInRange zones border = BorderWithin lta_most zones border

-- raw borders, each judged
pub record BordersInRange (zones : ℕ) (borders : List (List ℤ)) : Type 0 where
  pub few : length borders ≤ borders_most
  pub each : (b : ℕ) → b < length borders → border_fits zones (get_or borders b []) ≡ true

-- 01: each value named there stays under 2^48 in magnitude (`proofs/Small.antt`)
abbrev pub named_bits : ℕ
named_bits = 48

-- the most that a signed factor can be, in magnitude, hundred-thousandths: of hubs it has four factors
abbrev pub p_most : ℕ
p_most = 4 * factor_most

-- the most that a flow of net positions, F0core, AMR, S and RAM can be, in magnitude
abbrev pub net_flow_most : ℕ
net_flow_most = zones_most * (factor_most * net_most)

abbrev pub f0core_most : ℕ
f0core_most = flow_most * 100000 + net_flow_most

abbrev pub amr_most : ℕ
amr_most = share_most * fmax_most * 10 + flow_most * 100000 + fmax_most * 420000 + f0core_most

abbrev pub s_most : ℕ
s_most = borders_most * (p_most * (lta_most * 1000))

-- the most that RAM can be, in magnitude. Without CVA and IVA, RAM is the largest of S, R x Fmax / 10000 - Fuaf, Fmax / 5 and Base; of these S can be the largest
abbrev pub ram_most : ℕ
ram_most = s_most + va_most * 100000 + va_most * 100000

-- the most that a row's starting margin can be, in magnitude, under 2^49: RAM - S stays within RAM's bound, and RAM less a flow may exceed it (02, E12)
abbrev pub start_most : ℕ
start_most = ram_most + net_flow_most

abbrev pub start_bits : ℕ
start_bits = 49
