-- The columns of each line of the table (01, "The table as text": fields after the letter), in the order of 01's table. The index is no column.
-- The code has the same lists as associated constants, one byte for each column (`Header::COLUMNS` ..): `column_of` says what a byte means, and every
-- reader and writer of a line (crates lines, layout) takes the constant and is proved by the list, so the two cannot differ.
-- Left to others: the ranges (`Ranges.antt`), and how a field is read and written (crate columns).
use Rattle.std.specs.Prelude.{cond, List, [], ◌∷◌, ◌++◌, ℕ, zero, suc, eqb, length}
use Prim.Native.Char.{code}

-- what a column's field may be: a number; a signed number; R, which is a number or "-"; and in the planners' sheet (02, E11) a power in MW with three
-- decimals, a power that may be below 0, and a factor with five decimals
pub data Column : Type 0 where
  number : Column
  signed : Column
  share : Column
  power : Column
  flow : Column
  factor : Column

-- H: zones, borders, rows
abbrev pub header_columns : List Column
header_columns =
    number  -- zones
    ∷ number  -- borders
    ∷ number  -- rows
    ∷ []

-- H: the default of R, which may be left out (02, E6)
abbrev pub default_columns : List Column
default_columns =
    number  -- the default of R, ten-thousandths
    ∷ []

-- Z: index, reference net position; T: index, allocated net position (02, E12)
abbrev pub zone_columns : List Column
zone_columns =
    signed  -- net position, kW
    ∷ []

-- B: index, from zone, to zone, LTA
abbrev pub border_columns : List Column
border_columns =
    number  -- from zone
    ∷ number  -- to zone
    ∷ number  -- LTA, MW
    ∷ []

-- B: sending hub and receiving hub, where the line carries them (02, E3)
abbrev pub hub_columns : List Column
hub_columns =
    number  -- sending hub
    ∷ number  -- receiving hub
    ∷ []

-- how many numbers a raw border record has
abbrev pub border_items : ℕ
border_items = length (border_columns ++ hub_columns)

-- C: index, Fmax, FRM, Fref, F0all, R, CVA, IVA; then one factor per zone
abbrev pub row_columns : List Column
row_columns =
    number  -- Fmax, kW
    ∷ number  -- FRM, kW
    ∷ signed  -- Fref, kW
    ∷ signed  -- F0all, kW
    ∷ share  -- R, ten-thousandths, or "-"
    ∷ number  -- CVA, kW
    ∷ number  -- IVA, kW
    ∷ []

-- how many numbers a raw row record has
abbrev pub row_items : ℕ
row_items = length row_columns

-- C: one factor per zone
abbrev pub factor_columns : (zones : ℕ) → List Column
factor_columns zero = []
factor_columns (suc zones) =
    signed  -- a zone's factor, hundred-thousandths
    ∷ factor_columns zones

-- a row in the planners' sheet (02, E11): the same fields as in a C line in the same order, index first; only the form of the numbers differs
abbrev pub sheet_columns : List Column
sheet_columns =
    power  -- Fmax
    ∷ power  -- FRM
    ∷ flow  -- Fref
    ∷ flow  -- F0all
    ∷ share  -- R, ten-thousandths, or "-"
    ∷ power  -- CVA
    ∷ power  -- IVA
    ∷ []

-- the factors of a row in the planners' sheet, one per zone
abbrev pub sheet_factors : (zones : ℕ) → List Column
sheet_factors zero = []
sheet_factors (suc zones) =
    factor  -- a zone's factor
    ∷ sheet_factors zones

-- the byte by which the code names a column
abbrev pub column_of : ℕ → Column
column_of b =
    cond (eqb b (code "r")) share (cond (eqb b (code "s")) signed (cond (eqb b (code "p")) power (cond (eqb b (code "q")) flow (cond (eqb b (code "f")) factor number))))

abbrev pub columns_of : List ℕ → List Column
columns_of [] = []
columns_of (b ∷ bs) = column_of b ∷ columns_of bs
