-- The byte to blame, computed on an example of each fault (02, E5). Nobody cites it: it refuses a definition that slipped.
-- A blank stands for a tab, / for an LF. `h`, `z`, `b` and `c` are the form's byte in a line of that kind: index 0 (index 1 in `z1`), 2 zones in a C line.
-- `h-out`, `z-out`, `b-out` and `c_out` read a line of right form and are the range's byte, 3 zones in a B line.
use mathlib.Core.Path.{refl}
use mathlib.Core.Bool.{Bool}
use mathlib.Core.List.{List, [], ◌∷◌, ◌++◌}
use Prim.Native.Char.{code}
use Prim.Native.Nat.{ℕ}
use Prim.Native.String.{String}
use lib.IntN.{ℤ, nat_abs}
use lib.ListN.{take, drop}
use Rattle.numbers.specs.Ints.{inside, same_ℤ}
use Rattle.numbers.specs.Computed.{◌is◌, Hold}
use Rattle.types.specs.LineColumns.{header_columns, default_columns, zone_columns, border_columns, hub_columns, row_columns, row_items, factor_columns}
use Rattle.types.specs.declared.Header.{Header}
use Rattle.types.specs.Ranges.{at_ℤ, header_tests, zone_tests, exists, border_tests, row_tests, factor_fits, factor_tests}
use Rattle.text.specs.Fields.{tab, feed, number_at, signed_at, share_at}
use Rattle.text.specs.Shown.{shown}
use Rattle.columns.specs.declared.Head.TheVariants.{Lettered, Indexed, Bare}
use Rattle.columns.specs.Columns.{Values, values, wrong, field_at, fields_at}
use Rattle.columns.specs.ColumnLine.{head_at, rest_at, columns_line}
use Rattle.columns.specs.Optional.{optional_line}
use Rattle.blame.specs.Blame.{good_at, byte_at, fields_byte, line_byte}
use Rattle.blame.specs.RangeBlame.{past_seps, field_first, range_byte}

unfoldable computing : Unit {0}
unfolding number_at signed_at share_at field_at fields_at head_at rest_at columns_line optional_line inside same_ℤ exists factor_fits good_at byte_at fields_byte line_byte past_seps range_byte
computing = tt

-- ---- wrong form
abbrev z_of : (line : List ℕ) → (i : ℕ) → ℕ
z_of line i = line_byte tab (Indexed (code "Z") i) zone_columns line

abbrev h : String → ℕ
h s = line_byte tab (Lettered (code "H")) (header_columns ++ default_columns) (shown s)

abbrev z : String → ℕ
z s = z_of (shown s) 0

abbrev z1 : String → ℕ
z1 s = z_of (shown s) 1

abbrev b : String → ℕ
b s = line_byte tab (Indexed (code "B") 0) (border_columns ++ hub_columns) (shown s)

abbrev c : String → ℕ
c s = line_byte tab (Indexed (code "C") 0) (row_columns ++ factor_columns 2) (shown s)

-- the form's byte in a B line whose fields are parted by semicolons
abbrev semicolons : String → ℕ
semicolons s = line_byte (code ";") (Indexed (code "B") 0) border_columns (shown s)

-- the form's byte in a line that begins with its index
abbrev bare : String → ℕ
bare s = line_byte (code ";") (Bare 0) zone_columns (shown s)

pub form : Hold (
    -- good lines have none, with and without the fields that may be left out
    h "H 3 2 4/" is 0  -- good-h
    ∷ h "H 3 2 4 7000/" is 0  -- good-default
    ∷ z "Z 0 -5/" is 0  -- good-z
    ∷ b "B 0 0 1 100/" is 0  -- good-b
    ∷ b "B 0 0 1 100 1 2/" is 0  -- good-hubs
    ∷ c "C 0 9 0 0 0 - 0 0 1 -2/" is 0  -- good-c
    -- a byte that no good number could have there: "+5", "5 ", "1-", CR, a letter, a minus in an unsigned field
    ∷ z "Z 0 +5/" is 5  -- plus
    ∷ z_of (shown "Z 0 5" ++ (32 ∷ feed ∷ [])) 0 is 6  -- blank
    ∷ z "Z 0 1-/" is 6  -- minus-after
    ∷ z_of (shown "Z 0 5" ++ (13 ∷ feed ∷ [])) 0 is 6  -- return
    ∷ z "Z 0 5x/" is 6  -- letter-after
    ∷ b "B 0 -1 1 100/" is 5  -- minus-unsigned
    ∷ h "H -3 2 4/" is 3  -- h-minus
    ∷ h "H 3 +2 4/" is 5  -- h-plus
    ∷ c "C 0 9 0 0 0 - 0 0 1 2x/" is 22  -- c-letter
    ∷ h "H 3 2 4 -1/" is 9  -- default-minus
    ∷ b "B 0 0 1 100 -1 -1/" is 13  -- hub-minus
    ∷ b "B 0 0 1 100 1 2x/" is 16  -- hub-letter
    -- "01": the second byte; "-0": the 0; 11 digits: the 11th; "-5" in R: the 5; "--5": the second minus
    ∷ z "Z 0 01/" is 6  -- zero-first
    ∷ z "Z 0 00/" is 6  -- zero-twice
    ∷ z "Z 0 -0/" is 6  -- minus-zero
    ∷ z "Z 0 -05/" is 6  -- minus-zero-first
    ∷ z "Z 0 12345678901/" is 15  -- eleven
    ∷ z "Z 0 -12345678901/" is 16  -- minus-eleven
    ∷ c "C 0 9 0 0 0 -5 0 0 1 2/" is 14  -- minus-in-r
    ∷ z "Z 0 --5/" is 6  -- two-minuses
    ∷ h "H 3 2 4 07000/" is 10  -- default-zero-first
    -- no letter before the index: the plus, another index, a good line
    ∷ bare "0;+5/" is 3  -- bare-plus
    ∷ bare "1;5/" is 1  -- bare-index
    ∷ bare "0;5/" is 0  -- bare-good
    -- an empty field, or "-" alone in a signed field: the byte after it; 0 where the text ends there
    ∷ z "Z 0 /" is 5  -- empty-last
    ∷ h "H  2 4/" is 3  -- empty-first
    ∷ b "B 0  1 100/" is 5  -- empty
    ∷ z "Z 0 -/" is 6  -- dash-last
    ∷ c "C 0 9 0 - 0 5 0 0 1 2/" is 10  -- dash
    ∷ z "Z 0 " is 0  -- empty-cut
    ∷ z "Z 0 -" is 0  -- dash-cut
    -- a wrong index, before what is further right: its first byte, also where an LF ends it; where the text cuts it off it is not known to be wrong
    ∷ z "Z 1 5/" is 3  -- other-index
    ∷ z "Z 1 x/" is 3  -- other-index-first
    ∷ z1 "Z 10/" is 3  -- other-index-few
    ∷ z1 "Z 1/" is 0  -- own-index-few
    ∷ z1 "Z 10" is 0  -- other-index-cut
    ∷ b "B 7 0 1 100/" is 3  -- other-index-b
    ∷ c "C 12 9 0 0 0 - 0 0 1 2/" is 3  -- other-index-c
    -- a malformed index: its form before its value
    ∷ z "Z 1x 5/" is 4  -- malformed-index
    ∷ z "Z 1x/" is 4  -- malformed-ended
    ∷ z1 "Z 01 5/" is 4  -- zero-first-index
    ∷ z "Z  5/" is 3  -- empty-index
    ∷ z "Z /" is 3  -- empty-index-ended
    ∷ z "Z " is 0  -- cut-index
    -- a wrong letter, no tab after it, an empty line, a missing one
    ∷ z "B 0 5/" is 0  -- letter
    ∷ h "G 3 x 4/" is 0  -- letter-h
    ∷ z "Zx0 5/" is 0  -- no-tab
    ∷ z "Z/" is 0  -- letter-alone
    ∷ z "/" is 0  -- empty-line
    ∷ z "" is 0  -- missing
    -- too few fields, too many, no LF: 0, unless a fault further left is named
    ∷ b "B 0 0 1/" is 0  -- few
    ∷ z "Z 0/" is 0  -- few-index
    ∷ h "H 3 2/" is 0  -- few-h
    ∷ c "C 0 9 0 0 0 -/" is 0  -- few-c
    ∷ c "C 0 9 0 0 0 - 0 0 1/" is 0  -- few-factors
    ∷ z "Z 0 5 6/" is 0  -- many
    ∷ c "C 0 9 0 0 0 - 0 0 1 2 3/" is 0  -- many-c
    ∷ z "Z 0 5" is 0  -- no-feed
    ∷ h "H 3 2 4" is 0  -- no-feed-h
    ∷ b "B 0 0x 1/" is 6  -- left-of-few
    ∷ z "Z 0 5x 6/" is 6  -- left-of-many
    -- a tab after the last field: where one more may come the empty field is judged as a field, the LF; where none may come, 0
    ∷ z "Z 0 5 /" is 0  -- tab-z
    ∷ h "H 3 2 4 /" is 9  -- tab-h
    ∷ h "H 3 2 4 7000 /" is 0  -- tab-default
    ∷ b "B 0 0 1 100 /" is 13  -- tab-b
    ∷ b "B 0 0 1 100 2/" is 0  -- one-hub
    ∷ b "B 0 0 1 100 2 /" is 15  -- tab-hub
    ∷ b "B 0 0 1 100 2 3 /" is 0  -- tab-hubs
    ∷ b "B 0 0 1 100x/" is 12  -- lta-bad
    -- fields parted by another byte
    ∷ semicolons "B;0;0;1x;100/" is 8  -- semicolon
    ∷ semicolons "B;0;0 1;100/" is 6  -- semicolon-tab
    ∷ [])
unfolding computing
form = refl

-- ---- a value outside its range
abbrev out_of : Values → (tests : List ℤ → List Bool) → (k : ℕ) → (line : List ℕ) → ℕ
out_of (values zs next) tests k line = range_byte tab (tests zs) k line
out_of (wrong place) tests k line = 0

abbrev header : List ℤ → Header
header zs = record { zones = nat_abs (at_ℤ zs 0); borders = nat_abs (at_ℤ zs 1); rows = nat_abs (at_ℤ zs 2); share = at_ℤ zs 3; intraday = 0 }

abbrev h_out : String → ℕ
h_out s = let line = shown s in out_of (optional_line tab (Lettered (code "H")) header_columns default_columns line) (λ zs. header_tests (header zs)) 1 line

abbrev z_out : String → ℕ
z_out s = let line = shown s in out_of (columns_line tab (Indexed (code "Z") 0) zone_columns line) (λ zs. zone_tests (at_ℤ zs 0)) 2 line

abbrev b_out : String → ℕ
b_out s = let line = shown s in out_of (optional_line tab (Indexed (code "B") 0) border_columns hub_columns line) (border_tests 3) 2 line

abbrev c_out : String → ℕ
c_out s =
    let line = shown s in
    out_of (columns_line tab (Indexed (code "C") 0) (row_columns ++ factor_columns 2) line) (λ zs. row_tests (take row_items zs) ++ factor_tests (drop row_items zs)) 2 line

pub range : Hold (
    -- the first byte of a field: the index, from, to, LTA of a B line; rows of an H line
    field_first tab 1 (shown "B 10 12 3 10001/") is 3  -- first-index
    ∷ field_first tab 2 (shown "B 10 12 3 10001/") is 6  -- first-from
    ∷ field_first tab 3 (shown "B 10 12 3 10001/") is 9  -- first-to
    ∷ field_first tab 4 (shown "B 10 12 3 10001/") is 11  -- first-lta
    ∷ field_first tab 3 (shown "H 3 2 201/") is 7  -- first-rows
    -- H: zones, borders, rows, the default
    ∷ h_out "H 16 64 200/" is 0  -- header-good
    ∷ h_out "H 16 64 200 10000/" is 0  -- header-default
    ∷ h_out "H 17 65 201/" is 3  -- zones
    ∷ h_out "H 16 65 201/" is 6  -- borders
    ∷ h_out "H 16 0 1/" is 6  -- borders-none
    ∷ h_out "H 16 64 201 10001/" is 9  -- rows
    ∷ h_out "H 16 64 200 10001/" is 13  -- default
    -- Z: the net position
    ∷ z_out "Z 0 100000001/" is 5  -- net
    ∷ z_out "Z 0 -100000001/" is 5  -- net-low
    ∷ z_out "Z 0 -100000000/" is 0  -- net-good
    -- B: from; to, also where it is from; LTA; from left of to
    ∷ b_out "B 0 0 1 10000/" is 0  -- border-good
    ∷ b_out "B 0 9 9 100/" is 5  -- from-zone
    ∷ b_out "B 0 1 3 100/" is 7  -- to-zone
    ∷ b_out "B 0 1 1 10001/" is 7  -- same-zones
    ∷ b_out "B 0 0 1 10001/" is 9  -- lta
    -- the hubs: one that does not exist; the receiving hub where they are equal; sending stands left of receiving
    ∷ b_out "B 0 0 1 100 2 1/" is 0  -- hubs-good
    ∷ b_out "B 0 0 1 100 3 2/" is 13  -- sending
    ∷ b_out "B 0 0 1 100 2 3/" is 15  -- receiving
    ∷ b_out "B 0 0 1 100 2 2/" is 15  -- same-hubs
    ∷ b_out "B 0 0 1 100 9 9/" is 13  -- same-no-hubs
    ∷ b_out "B 0 0 1 10001 2 2/" is 9  -- lta-before-hubs
    -- C: Fmax; FRM, also above Fmax; Fref, F0all, R, CVA, IVA; factors
    ∷ c_out "C 0 9 9 0 0 - 0 0 1 -100000/" is 0  -- row-good
    ∷ c_out "C 0 0 5 0 0 - 0 0 1 2/" is 5  -- fmax
    ∷ c_out "C 0 9 10 0 0 - 0 0 1 2/" is 7  -- frm
    ∷ c_out "C 0 9 0 -20000001 0 - 0 0 1 2/" is 9  -- fref
    ∷ c_out "C 0 9 0 0 20000001 - 0 0 1 2/" is 11  -- f0all
    ∷ c_out "C 0 9 0 0 0 10001 0 0 1 2/" is 13  -- r
    ∷ c_out "C 0 9 0 0 0 - 10000001 0 1 2/" is 15  -- cva
    ∷ c_out "C 0 9 0 0 0 - 0 10000001 1 200000/" is 17  -- iva
    ∷ c_out "C 0 9 0 0 0 - 0 0 1 -100001/" is 21  -- factor
    ∷ c_out "C 0 9 0 0 0 - 0 0 100001 -100001/" is 19  -- first-factor
    ∷ [])
unfolding computing
range = refl
