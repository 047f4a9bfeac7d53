-- The numbers of 01's column of ranges ("The table as text"), each under a name; how many zones, borders and rows there may be is said in limits. Definitions
-- cite the names, and laws take them as variables where they can.
use Rattle.std.specs.Prelude.{ℕ}

-- H: the header's number where the table has T records; 0 where it has none (02, E12)
abbrev pub intraday_mark : ℕ
intraday_mark = 1

-- Z and T: a net position's magnitude, kW
abbrev pub net_most : ℕ
net_most = 100000000

-- B: LTA, MW
abbrev pub lta_least : ℕ
lta_least = 0

abbrev pub lta_most : ℕ
lta_most = 10000

-- C: Fmax, kW
abbrev pub fmax_least : ℕ
fmax_least = 1

abbrev pub fmax_most : ℕ
fmax_most = 10000000

-- C: FRM, kW; its most is the row's Fmax
abbrev pub frm_least : ℕ
frm_least = 0

-- C: the magnitude of Fref and F0all, kW
abbrev pub flow_most : ℕ
flow_most = 20000000

-- C: R, ten-thousandths, and what "-" means where the H line has no default; the H line's default has the same range
abbrev pub share_most : ℕ
share_most = 10000

abbrev pub share_standard : ℕ
share_standard = 7000

-- C: CVA and IVA, kW
abbrev pub va_least : ℕ
va_least = 0

abbrev pub va_most : ℕ
va_most = 10000000

-- C: a factor's magnitude, hundred-thousandths
abbrev pub factor_most : ℕ
factor_most = 100000
