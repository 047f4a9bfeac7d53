-- The published list as text (02, E10), and what the open call `published_text` leaves: D, row, RAM in grains as in the M line, for each kept row that is not claimed.
use Rattle.std.specs.Prelude.{Bool, cond, List, [], ◌∷◌, ℕ, ◌+◌, ◌*◌, ltb, ℤ, length, Err, Ok}
use Prim.Native.Char.{code}
use Rattle.limits.specs.Limits.{rows_most, bytes_most}
use Rattle.refusals.specs.Refusals.{Judged, then, too_long}
use Rattle.types.specs.LineColumns.{Column, signed}
use Rattle.types.specs.Ranges.{at_ℤ}
use Rattle.text.specs.Fields.{tab}
use Rattle.text.specs.Left.{TextLeft, text_left}
use Rattle.text.specs.Written.{lines_text}
use Rattle.columns.specs.declared.Head.TheVariants.{Indexed}
use Rattle.columns.specs.ColumnText.{columns_text}
use Rattle.tablerules.specs.Table.{Table, judge_lent}
use Rattle.staterules.specs.Standings.{Standings}
use Rattle.claimrules.specs.Claims.{claims_of, remaining}
use Rattle.claimline.specs.ClaimText.{claims_in}

-- the columns of a D line after its row
abbrev pub published_columns : List Column
published_columns =
    signed  -- RAM, grains
    ∷ []

abbrev pub row_line : (row : ℕ) → (ram : ℤ) → List ℕ
row_line row ram = columns_text tab (Indexed (code "D") row) published_columns (ram ∷ [])

-- no D line is longer: letter, tabs and LF, and two machine numbers of at most 20 bytes each
abbrev pub line_most : ℕ
line_most = 4 + 2 * 20

-- a row that is not listed has no line
unfoldable pub published_line : Standings → (listed : ℕ → Bool) → (row : ℕ) → List ℕ
published_line m listed row = cond (listed row) (row_line row (at_ℤ m.rams row)) []

unfoldable pub published_text : Standings → (listed : ℕ → Bool) → List ℕ
published_text m listed = lines_text (length m.states) 0 (published_line m listed)

-- no published list is longer
abbrev pub published_most : ℕ
published_most = rows_most * line_most

-- the published list of a judged table: 11 and 12 first, and then each kept row that no claim names
unfoldable pub published_of : Table → (claims : List (List ℤ)) → Judged (List ℕ)
published_of t claims = then (claims_of t claims) (λ m. Ok (published_text m (remaining m.states claims)))

-- 1 of the list's text, then the lent tables as for every call on them, then 11 and 12
unfoldable pub published_answer : (given : Table) → (list : List ℕ) → Judged (List ℕ)
published_answer given list = cond (ltb bytes_most (length list)) (Err too_long) (then (judge_lent given) (λ t. published_of t (claims_in list)))

-- what `published_text` leaves: all refusals of the list, and then room for the bytes (8)
unfoldable pub published_left : (given : Table) → (list out : List ℕ) → TextLeft
published_left given list out = text_left (published_answer given list) out
