-- Lists of claims as text and what they stand for, computed. Nobody cites it: it refuses a definition that slipped.
-- A blank in a text shown here stands for a tab, and / for an LF.
use mathlib.Core.Path.{refl}
use mathlib.Core.List.{List, [], ◌∷◌, ◌++◌}
use lib.IntN.{ℤ, pos}
use lib.ListN.{get_or}
use Rattle.numbers.specs.Ints.{minus}
use Rattle.numbers.specs.Below.{sum, table, first_from, given, over}
use Rattle.numbers.specs.Computed.{◌is◌, Hold}
use Rattle.text.specs.Fields.{feed, number_at}
use Rattle.text.specs.Shown.{shown}
use Rattle.text.specs.Written.{text_of}
use Rattle.columns.specs.Columns.{field_at, fields_at}
use Rattle.columns.specs.ColumnLine.{head_at, rest_at, columns_line}
use Rattle.claimline.specs.ClaimText.{claim_items, claim_item, claim_record, no_claim, crowded, claim_with, pairs_in, claim_line, claims_in}

-- a record that begins with these numbers, and 0 beyond them
abbrev begins : List ℤ → List ℤ
begins front = over front (table claim_items (λ k. pos 0))

-- the record of a line of wrong form
abbrev nobody : List ℤ
nobody = begins (minus 1 ∷ [])

pub anchors : Hold (
    -- row 2, D 3, no pairs; row 2, D 1, rows 0 and 1 once and seven times
    claim_line (shown "Q 2 3/") is begins (pos 2 ∷ pos 3 ∷ [])  -- no-pairs
    ∷ claim_line (shown "Q 2 1 0 1 1 7/") is begins (pos 2 ∷ pos 1 ∷ pos 2 ∷ pos 0 ∷ pos 1 ∷ pos 1 ∷ pos 7 ∷ [])  -- two-pairs
    -- a value out of range is no fault of form: judging finds it
    ∷ claim_line (shown "Q 200 0/") is begins (pos 200 ∷ [])  -- large
    -- 16 pairs; with 17 and more the row is named, and judging finds one pair too many
    ∷ claim_line (shown "Q 9 1 0 1 0 1 0 1 0 1 0 1 0 1 0 1 0 1 0 1 0 1 0 1 0 1 0 1 0 1 0 1 0 2/") is (pos 9 ∷ pos 1 ∷ pos 16
    ∷ pos 0 ∷ pos 1 ∷ pos 0 ∷ pos 1 ∷ pos 0 ∷ pos 1 ∷ pos 0 ∷ pos 1 ∷ pos 0 ∷ pos 1 ∷ pos 0 ∷ pos 1 ∷ pos 0 ∷ pos 1 ∷ pos 0 ∷ pos 1
    ∷ pos 0 ∷ pos 1 ∷ pos 0 ∷ pos 1 ∷ pos 0 ∷ pos 1 ∷ pos 0 ∷ pos 1 ∷ pos 0 ∷ pos 1 ∷ pos 0 ∷ pos 1 ∷ pos 0 ∷ pos 1 ∷ pos 0 ∷ pos 2 ∷ [])  -- most-pairs
    ∷ claim_line (shown "Q 9 1 0 1 0 1 0 1 0 1 0 1 0 1 0 1 0 1 0 1 0 1 0 1 0 1 0 1 0 1 0 1 0 2 0 3/") is begins (pos 9 ∷ pos 0 ∷ pos 17 ∷ [])  -- many-pairs
    ∷ claim_line (shown "Q 9 0 0 1 0 1 0 1 0 1 0 1 0 1 0 1 0 1 0 1 0 1 0 1 0 1 0 1 0 1 0 1 0 2 0 3 0 4/") is begins (pos 9 ∷ pos 0 ∷ pos 17 ∷ [])  -- more-pairs
    -- a line of more pairs must still have right form: half a pair more, a leading zero in the last pair, a tab or no LF at the end
    ∷ claim_line (shown "Q 9 1 0 1 0 1 0 1 0 1 0 1 0 1 0 1 0 1 0 1 0 1 0 1 0 1 0 1 0 1 0 1 0 2 0 3 0/") is nobody  -- many-and-half
    ∷ claim_line (shown "Q 9 1 0 1 0 1 0 1 0 1 0 1 0 1 0 1 0 1 0 1 0 1 0 1 0 1 0 1 0 1 0 1 0 2 0 03/") is nobody  -- many-leading-zero
    ∷ claim_line (shown "Q 9 1 0 1 0 1 0 1 0 1 0 1 0 1 0 1 0 1 0 1 0 1 0 1 0 1 0 1 0 1 0 1 0 2 0 3 /") is nobody  -- many-tab-at-the-end
    ∷ claim_line (shown "Q 9 1 0 1 0 1 0 1 0 1 0 1 0 1 0 1 0 1 0 1 0 1 0 1 0 1 0 1 0 1 0 1 0 2 0 3") is nobody  -- many-no-feed
    -- wrong form: another letter, no D, a pair without its multiplier, a leading zero, a minus, a tab at the end, no LF, an empty line
    ∷ claim_line (shown "P 2 1/") is nobody  -- other-letter
    ∷ claim_line (shown "Q 2/") is nobody  -- no-denominator
    ∷ claim_line (shown "Q 2 1 0/") is nobody  -- half-a-pair
    ∷ claim_line (shown "Q 02 1/") is nobody  -- leading-zero
    ∷ claim_line (shown "Q -2 1/") is nobody  -- below-zero
    ∷ claim_line (shown "Q 2 1 /") is nobody  -- tab-at-the-end
    ∷ claim_line (shown "Q 2 1") is nobody  -- no-feed
    ∷ claim_line (shown "/") is nobody  -- empty-line
    -- an empty list; two claims; a faulty line between two good ones; a claim after 200 lines
    ∷ claims_in (shown "") is []  -- empty-list
    ∷ claims_in (shown "Q 2 1/Q 3 1/") is (begins (pos 2 ∷ pos 1 ∷ []) ∷ begins (pos 3 ∷ pos 1 ∷ []) ∷ [])  -- two-claims
    ∷ claims_in (shown "Q 2 1/Q 5/Q 3 1/") is (begins (pos 2 ∷ pos 1 ∷ []) ∷ nobody ∷ begins (pos 3 ∷ pos 1 ∷ []) ∷ [])  -- faulty-between
    ∷ get_or (claims_in (table 200 (λ k. feed) ++ shown "Q 3 1/")) 200 [] is begins (pos 3 ∷ pos 1 ∷ [])  -- after-many
    ∷ [])
unfolding sum table first_from given number_at text_of field_at fields_at head_at rest_at columns_line claim_item claim_record no_claim crowded claim_with pairs_in claim_line claims_in
anchors = refl
