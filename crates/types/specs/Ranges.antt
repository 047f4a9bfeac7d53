-- What each line of the table may hold (01, "The table as text", the column of ranges): each range stands here once.
-- A raw record is the list of numbers of a line, without letter and index. Judging text and judging lent tables both cite these.
-- A range is a list of tests, `..Tests`: one for each field from the left, and a test of two fields stands at the later. `..Fits` says that all hold; the
-- first that fails names the byte to blame in a line (02, E5; crate blame).
use Rattle.std.specs.Prelude.{Bool, true, cond, not, ◌&&◌, ◌||◌, List, [], ◌∷◌, ◌++◌, ℕ, leb, eqb, ℤ, pos, nat_abs, get_or, None, Option, Some}
use Rattle.std.specs.Int.Signed.{lt_z}
use Rattle.numbers.specs.Ints.{minus, inside, same_ℤ}
use Rattle.limits.specs.Limits.{zones_least, zones_most, borders_least, borders_most, rows_least, rows_most}
use Rattle.types.specs.declared.Header.{Header}
use Rattle.types.specs.declared.Hubs.{Hubs}
use Rattle.types.specs.declared.Border.{Border}
use Rattle.types.specs.declared.Share.{Share}
use Rattle.types.specs.declared.Share.TheVariants.{Standard, Written}
use Rattle.types.specs.declared.Row.{Row}
use Rattle.types.specs.LineLimits.{intraday_mark, net_most, lta_least, lta_most, fmax_least, fmax_most, frm_least, flow_most, share_most, share_standard, va_least, va_most, factor_most}

-- number k of a raw record, or of any list of whole numbers
abbrev pub at_ℤ : List ℤ → ℕ → ℤ
at_ℤ raw k = get_or raw k (pos 0)

-- all tests hold
abbrev pub all_true : List Bool → Bool
all_true [] = true
all_true (t ∷ ts) = t && all_true ts

-- H: zones 2..16, borders 1..64, rows 1..200, the default of R 0..10000, or -1 where it was not written (02, E6);
-- and then whether T records are there (02, E12): 1 where they are, 0 where not. That is no field of the line: a lent header alone may have another number.
-- The most borders is an argument, so that another limit can be spoken of (02, E8; crate oldtexts)
abbrev pub header_tests_by : (limit : ℕ) → Header → List Bool
header_tests_by limit h =
    (leb zones_least h.zones && leb h.zones zones_most)
    ∷ (leb borders_least h.borders && leb h.borders limit)
    ∷ (leb rows_least h.rows && leb h.rows rows_most)
    ∷ inside (minus 1) (pos share_most) h.share
    ∷ leb h.intraday intraday_mark ∷ []

abbrev pub header_tests : Header → List Bool
header_tests = header_tests_by borders_most

unfoldable pub header_fits : Header → Bool
header_fits h = all_true (header_tests h)

-- the header says that T records are there: the table is of the intraday profile
abbrev pub is_intraday : Header → Bool
is_intraday h = eqb h.intraday intraday_mark

-- how many T records a table has: one for each zone, or none
unfoldable pub allocated_items : Header → ℕ
allocated_items h = cond (is_intraday h) h.zones 0

-- the header of an H line, once it is known whether T lines follow
abbrev pub profiled : Header → (intraday : Bool) → Header
profiled h intraday = record { zones = h.zones; borders = h.borders; rows = h.rows; share = h.share; intraday = cond intraday intraday_mark 0 }

-- Z: reference net position, kW, -100000000..100000000; T: allocated net position, the same (02, E12)
abbrev pub zone_tests : (net : ℤ) → List Bool
zone_tests net = inside (minus net_most) (pos net_most) net ∷ []

unfoldable pub zone_fits : ℤ → Bool
zone_fits net = all_true (zone_tests net)

-- a zone that exists. B: from zone, to zone (both exist, not equal), LTA in MW 0..10000
unfoldable pub exists : (zones : ℕ) → ℤ → Bool
exists zones z = not (lt_z z (pos 0)) && lt_z z (pos zones)

-- no hubs: both raw numbers are -1. B may have the hubs of a cable (02, E3): sending hub and receiving hub (both exist, not equal)
abbrev pub no_hubs : (sending receiving : ℤ) → Bool
no_hubs sending receiving = same_ℤ sending (minus 1) && same_ℤ receiving (minus 1)

abbrev pub hub_tests : (zones : ℕ) → (sending receiving : ℤ) → List Bool
hub_tests zones sending receiving =
    (no_hubs sending receiving || exists zones sending)
    ∷ (no_hubs sending receiving || (exists zones receiving && not (same_ℤ sending receiving))) ∷ []

unfoldable pub hubs_fit : (zones : ℕ) → (sending receiving : ℤ) → Bool
hubs_fit zones sending receiving = all_true (hub_tests zones sending receiving)

unfoldable pub hubs_of : (sending receiving : ℤ) → Option Hubs
hubs_of sending receiving = cond (lt_z sending (pos 0)) None (Some (record { sending = nat_abs sending; receiving = nat_abs receiving }))

abbrev pub border_tests : (zones : ℕ) → (raw : List ℤ) → List Bool
border_tests zones raw =
    exists zones (at_ℤ raw 0)
    ∷ (exists zones (at_ℤ raw 1) && not (same_ℤ (at_ℤ raw 0) (at_ℤ raw 1)))
    ∷ inside (pos lta_least) (pos lta_most) (at_ℤ raw 2)
    ∷ hub_tests zones (at_ℤ raw 3) (at_ℤ raw 4)

unfoldable pub border_fits : (zones : ℕ) → List ℤ → Bool
border_fits zones raw = all_true (border_tests zones raw)

unfoldable pub border_of : List ℤ → Border
border_of raw = record { from = nat_abs (at_ℤ raw 0); to = nat_abs (at_ℤ raw 1); lta = nat_abs (at_ℤ raw 2); hubs = hubs_of (at_ℤ raw 3) (at_ℤ raw 4) }

-- R as it was written: the raw number is -1 where that was "-"
unfoldable pub share_of : ℤ → Share
share_of r = cond (lt_z r (pos 0)) Standard (Written r)

unfoldable pub row_of : List ℤ → Row
row_of raw =
    record {
      fmax = at_ℤ raw 0;
      frm = at_ℤ raw 1;
      fref = at_ℤ raw 2;
      f0all = at_ℤ raw 3;
      share = share_of (at_ℤ raw 4);
      cva = at_ℤ raw 5;
      iva = at_ℤ raw 6;
    }

-- C: Fmax kW 1..10000000, FRM kW 0..Fmax, Fref kW -20000000..20000000, F0all kW same range, R 0..10000 or "-", CVA kW 0..10000000, IVA kW same
abbrev pub row_tests : (raw : List ℤ) → List Bool
row_tests raw =
    inside (pos fmax_least) (pos fmax_most) (at_ℤ raw 0)
    ∷ inside (pos frm_least) (at_ℤ raw 0) (at_ℤ raw 1)
    ∷ inside (minus flow_most) (pos flow_most) (at_ℤ raw 2)
    ∷ inside (minus flow_most) (pos flow_most) (at_ℤ raw 3)
    ∷ inside (minus 1) (pos share_most) (at_ℤ raw 4)
    ∷ inside (pos va_least) (pos va_most) (at_ℤ raw 5)
    ∷ inside (pos va_least) (pos va_most) (at_ℤ raw 6) ∷ []

unfoldable pub row_fits : List ℤ → Bool
row_fits raw = all_true (row_tests raw)

-- C: one factor per zone, -100000..100000
unfoldable pub factor_fits : ℤ → Bool
factor_fits factor = inside (minus factor_most) (pos factor_most) factor

abbrev pub factor_tests : (factors : List ℤ) → List Bool
factor_tests [] = []
factor_tests (f ∷ fs) = factor_fits f ∷ factor_tests fs

-- the tests of a whole C line: the seven values, and then the factors
abbrev pub row_line_tests : (raw factors : List ℤ) → List Bool
row_line_tests raw factors = row_tests raw ++ factor_tests factors

-- what R is worth, in ten-thousandths: "-" takes the default in force
unfoldable pub worth : (default : ℤ) → Share → ℤ
worth default Standard = default
worth default (Written r) = r

-- the default in force: what the H line says, and 7000 where it says nothing (02, E6)
unfoldable pub default_of : Header → ℤ
default_of h = worth (pos share_standard) (share_of h.share)
