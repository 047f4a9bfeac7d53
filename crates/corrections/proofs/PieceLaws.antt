-- The lines of a text as a list (`pieces`) and by their places (`line_at`). No contract cites this file.
use mathlib.Core.Path.{◌≡◌, refl, sym, ap, ◌∙◌}
use mathlib.Core.Bool.{Bool, true, false, cond}
use mathlib.Core.List.{List, [], ◌∷◌}
use Prim.Native.Nat.{ℕ, ◌+◌, ◌<◌}
use native.Mathlib.Nat.{not-suc-le-zero}
use native.Mathlib.Omega.{arith}
use lib.Dec.{eqb}
use lib.ListN.{length, drop, length-drop}
use lib.Seq.{drop-drop}
use Rattle.text.specs.Fields.{feed}
use Rattle.text.specs.Line.{line_of, line_at, after}
use Rattle.corrections.specs.Corrections.{joined, pieces}

-- ---- a text that is not empty: its first line, and the others
abbrev FirstPiece : (v : Bool) → (b : ℕ) → (s : List ℕ) → Type 0
FirstPiece v b s = cond v ((b ∷ []) ∷ pieces s) (joined b (pieces s)) ≡ cond v (b ∷ []) (b ∷ line_of s) ∷ pieces (drop (length (cond v (b ∷ []) (b ∷ line_of s))) (b ∷ s))

pieces_first : (b : ℕ) (s : List ℕ) → FirstPiece (eqb b feed) b s
pieces_first b [] = go (eqb b feed)
  where
    go : (v : Bool) → FirstPiece v b []
    go true = refl
    go false = refl
pieces_first b (c ∷ s) = go (eqb b feed) (pieces_first c s)
  where
    go : (v : Bool) → FirstPiece (eqb c feed) c s → FirstPiece v b (c ∷ s)
    go true ih = refl
    go false ih = ap (joined b) ih

-- ---- from a place on
module _ (text : List ℕ) (s : ℕ) (h : s < length text) where
  pub pieces_at : pieces (drop s text) ≡ line_at text s ∷ pieces (drop (after text s) text)
  pieces_at = go (drop s text) refl
    where
      go : (l : List ℕ) → drop s text ≡ l → pieces l ≡ line_of l ∷ pieces (drop (s + length (line_of l)) text)
      go [] e = absurd (not-suc-le-zero {n = 0} (omega (arith, ap length e, length-drop s text)))
      go (b ∷ l) e =
          pieces_first b l
          ∙ ap (λ (r : List ℕ). line_of (b ∷ l) ∷ pieces r) (ap (drop (length (line_of (b ∷ l)))) (sym e) ∙ drop-drop (length (line_of (b ∷ l))) s text)

  -- no line is empty
  pub line_some : 0 < length (line_at text s)
  line_some = go (drop s text) refl
    where
      first : (b : ℕ) (l : List ℕ) (v : Bool) → 0 < length (cond v (b ∷ []) (b ∷ line_of l))
      first b l true = omega arith
      first b l false = omega arith

      go : (l : List ℕ) → drop s text ≡ l → 0 < length (line_of l)
      go [] e = absurd (not-suc-le-zero {n = 0} (omega (arith, ap length e, length-drop s text)))
      go (b ∷ l) e = first b l (eqb b feed)
