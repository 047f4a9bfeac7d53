-- 02, E2: "An empty sheet changes nothing", of the merged text: it is the day's, for every text, taken or not.
use mathlib.Core.Path.{◌≡◌, refl, ap, ◌∙◌}
use mathlib.Core.Bool.{Bool, true, false, cond}
use mathlib.Core.List.{List, [], ◌∷◌, ◌++◌}
use Prim.Native.Nat.{ℕ, ◌+◌}
use lib.Dec.{eqb}
use Rattle.text.specs.Fields.{feed}
use Rattle.corrections.specs.Corrections.{joined, pieces, handed_by}
use Rattle.lines.specs.Lines.{header_line}
use Rattle.text.specs.Line.{line_at}
use Rattle.merged.specs.Merged.{is_row, merged_from, merged_text, zones_in}

-- the lines of a text, one after another
flat : List (List ℕ) → List ℕ
flat [] = []
flat (line ∷ rest) = line ++ flat rest

-- with an empty sheet each line stays
flat_merged : (zones i : ℕ) (day : List (List ℕ)) → merged_from zones (handed_by []) i day ≡ flat day
unfolding flat
flat_merged zones i [] = refl
flat_merged zones i (line ∷ rest) = go (is_row line) (flat_merged zones (i + 1) rest) (flat_merged zones i rest)
  where
    go : (v : Bool) → merged_from zones (handed_by []) (i + 1) rest ≡ flat rest → merged_from zones (handed_by []) i rest ≡ flat rest → cond v (line ++ merged_from zones (handed_by []) (i + 1) rest) (line ++ merged_from zones (handed_by []) i rest) ≡ line ++ flat rest
    go true a b = ap (λ (l : List ℕ). line ++ l) a
    go false a b = ap (λ (l : List ℕ). line ++ l) b

-- the lines of a text, one after another, are the text
flat_pieces : (text : List ℕ) → flat (pieces text) ≡ text
unfolding flat
flat_pieces [] = refl
flat_pieces (b ∷ s) = go (eqb b feed) (pieces s) (flat_pieces s)
  where
    go : (v : Bool) (ls : List (List ℕ)) → flat ls ≡ s → flat (cond v ((b ∷ []) ∷ ls) (joined b ls)) ≡ b ∷ s
    go true ls e = ap (λ (l : List ℕ). b ∷ l) e
    go false [] e = ap (λ (l : List ℕ). b ∷ l) e
    go false (l ∷ ls) e = ap (λ (r : List ℕ). b ∷ r) e

-- the merged text of an empty sheet
pub empty_merged : (text : List ℕ) → merged_text text [] ≡ text
unfolding merged_text
empty_merged text = flat_merged (zones_in (header_line (line_at text 0))) 0 (pieces text) ∙ flat_pieces text
