-- A list of claims as text (02, E10): one line a claim, Q, row, D, then row and multiplier of each pair, numbers, tabs and LF as in a table.
-- `claims_in` gives the records that such a text stands for, one a line, as the open call on lent claims takes them; judging them is crate claims'.
-- A line of right form names its row, with any number of pairs and numbers of any value: what is out of range is found by judging. A line of wrong form
-- is a record that names no row, so that no table has it as well formed: judging alone finds the first faulty claim.
use Rattle.std.specs.Prelude.{cond, List, [], ◌∷◌, ℕ, zero, suc, ◌+◌, ◌*◌, ◌-◌, ◌/◌, eqb, leb, ltb, ℤ, pos, length}
use Prim.Native.Char.{code}
use Rattle.numbers.specs.Ints.{minus}
use Rattle.numbers.specs.Below.{at, sum, table}
use Rattle.types.specs.LineColumns.{Column, number}
use Rattle.types.specs.Ranges.{at_ℤ}
use Rattle.text.specs.Fields.{tab}
use Rattle.columns.specs.Columns.{Values, values, wrong}
use Rattle.columns.specs.declared.Head.TheVariants.{Lettered}
use Rattle.columns.specs.ColumnLine.{columns_line}
use Rattle.corrections.specs.Corrections.{pieces}
use Rattle.claimrules.specs.Claims.{pairs_most}

-- the numbers of a claim's record
abbrev pub claim_items : ℕ
claim_items = 3 + 2 * pairs_most

-- the fields of a line with p pairs: row, D, and two for each pair
abbrev pub fields_of : (pairs : ℕ) → ℕ
fields_of pairs = 2 + 2 * pairs

-- n columns, all of them numbers
abbrev pub number_columns : (n : ℕ) → List Column
number_columns zero = []
number_columns (suc n) = number ∷ number_columns n

-- number k of the record of a claim with these fields: row and D, how many pairs, and then the pairs; 0 where there is no such field
unfoldable pub claim_item : (pairs : ℕ) → (fields : List ℤ) → (k : ℕ) → ℤ
claim_item pairs fields k = cond (ltb k 2) (at_ℤ fields k) (cond (eqb k 2) (pos pairs) (at_ℤ fields (k - 1)))

unfoldable pub claim_record : (pairs : ℕ) → (fields : List ℤ) → List ℤ
claim_record pairs fields = table claim_items (claim_item pairs fields)

-- a claim on no row
unfoldable pub no_claim : List ℤ
no_claim = claim_record 0 (minus 1 ∷ [])

-- a claim on a row with one pair too many: a record has no room for more, and judging looks no further
unfoldable pub crowded : (row : ℤ) → List ℤ
crowded row = claim_record (suc pairs_most) (row ∷ [])

-- what a line with p pairs stands for
abbrev pub record_of : (pairs : ℕ) → Values → List ℤ
record_of pairs (values fields next) = cond (leb pairs pairs_most) (claim_record pairs fields) (crowded (at_ℤ fields 0))
record_of pairs (wrong place) = no_claim

unfoldable pub claim_with : (line : List ℕ) → (pairs : ℕ) → List ℤ
claim_with line pairs = record_of pairs (columns_line tab (Lettered (code "Q")) (number_columns (fields_of pairs)) line)

-- a tab stands before each field, so a line of right form has as many pairs as its tabs say
abbrev pub is_tab : (line : List ℕ) → (i : ℕ) → ℕ
is_tab line i = cond (eqb (at line i) tab) 1 0

unfoldable pub pairs_in : (line : List ℕ) → ℕ
pairs_in line = (sum (length line) (is_tab line) - fields_of 0) / 2

unfoldable pub claim_line : (line : List ℕ) → List ℤ
claim_line line = claim_with line (pairs_in line)

-- one claim a line, however many lines there are
abbrev pub claim_lines : (lines : List (List ℕ)) → List (List ℤ)
claim_lines [] = []
claim_lines (line ∷ lines) = claim_line line ∷ claim_lines lines

unfoldable pub claims_in : (text : List ℕ) → List (List ℤ)
claims_in text = claim_lines (pieces text)
