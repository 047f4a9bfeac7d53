-- A published list, computed. Nobody cites it: it refuses a definition that slipped.
-- A blank in a text shown here stands for a tab, and / for an LF.
use mathlib.Core.Path.{refl}
use mathlib.Core.List.{List, [], ◌∷◌}
use lib.IntN.{ℤ, pos}
use Rattle.numbers.specs.Ints.{minus, same_ℤ}
use Rattle.numbers.specs.Below.{sum, table, first_from, given, over}
use Rattle.numbers.specs.Computed.{◌is◌, Hold}
use Rattle.text.specs.Shown.{shown}
use Rattle.text.specs.Written.{text_of, decimal, decimal_ℤ, lines_text}
use Rattle.columns.specs.ColumnText.{field_text, fields_ended, index_text, head_text, columns_text}
use Rattle.staterules.specs.Standings.{Standings}
use Rattle.staterules.specs.States.{kept}
use Rattle.claimrules.specs.Claims.{claimed_in, remaining}
use Rattle.claimline.specs.ClaimText.{claim_items}
use Rattle.claimtext.specs.Published.{published_line, published_text}

-- a record that begins with these numbers, and 0 beyond them
abbrev begins : List ℤ → List ℤ
begins front = over front (table claim_items (λ k. pos 0))

-- three kept rows, and one that is not
abbrev m : Standings
m = record { rams = pos 100 ∷ minus 5 ∷ pos 70 ∷ pos 8 ∷ []; states = 0 ∷ 0 ∷ 0 ∷ 2 ∷ [] }

pub anchors : Hold (
    -- the published list: kept rows alone, and of them those that no claim names
    published_text m (remaining m.states []) is shown "D 0 100/D 1 -5/D 2 70/"  -- all-kept
    ∷ published_text m (remaining m.states (begins (pos 1 ∷ pos 1 ∷ []) ∷ [])) is shown "D 0 100/D 2 70/"  -- claimed-out
    ∷ [])
unfolding same_ℤ sum table first_from given text_of decimal decimal_ℤ lines_text field_text fields_ended index_text head_text columns_text kept claimed_in remaining published_line published_text
anchors = refl
