-- The laws of `specs/Labelled.antt`'s `filed`. No contract cites this file.
use mathlib.Core.Path.{◌≡◌, refl, sym, ap, ap₂, ◌∙◌}
use mathlib.Core.Bool.{Bool, true, false, cond}
use mathlib.Core.List.{List, [], ◌∷◌, ◌++◌, map, append_assoc}
use Prim.Native.Nat.{ℕ}
use lib.Dec.{eqb}
use borrow.Author.Tests.{eqb-true, eqb-false, eq-eqb, ne_eqb}
use Rattle.text.specs.Fields.{tab, feed}
use Rattle.corrections.specs.Corrections.{joined, pieces}
use Rattle.daylines.specs.Labelled.{behind, gathered, filed}

-- a text is its pieces, one after another
abbrev pub together : List (List ℕ) → List ℕ
together [] = []
together (line ∷ lines) = line ++ together lines

pub together_pieces : (text : List ℕ) → together (pieces text) ≡ text
together_pieces [] = refl
together_pieces (b ∷ text) = go (eqb b feed) (pieces text) (together_pieces text)
  where
    go : (v : Bool) (ls : List (List ℕ)) → together ls ≡ text → together (cond v ((b ∷ []) ∷ ls) (joined b ls)) ≡ b ∷ text
    go true ls e = ap (λ (l : List ℕ). b ∷ l) e
    go false [] e = ap (λ (l : List ℕ). b ∷ l) e
    go false (l ∷ ls) e = ap (λ (l : List ℕ). b ∷ l) e

-- no byte of a label is a tab
abbrev pub NoTab : List ℕ → Type 0
NoTab [] = Unit {0}
NoTab (b ∷ label) = (eqb b tab ≡ false) × NoTab label

-- ---- a line behind its own front, and behind another label
behind_own : (front line : List ℕ) → behind front (front ++ line) ≡ line
behind_own [] line = refl
behind_own (f ∷ front) line = rw (eq-eqb f f refl) (behind_own front line)

behind_other : (x y line : List ℕ) → NoTab x → NoTab y → (x ≡ y → ⊥) → behind (x ++ (tab ∷ [])) (y ++ (tab ∷ line)) ≡ []
behind_other [] [] line h k apart = absurd (apart refl)
behind_other [] (b ∷ y) line h k apart = rw (ne_eqb tab b (λ e. eqb-false b tab k.0 (sym e)))
behind_other (a ∷ x) [] line h k apart = rw h.0
behind_other (a ∷ x) (b ∷ y) line h k apart = go (eqb a b) refl (behind_other x y line h.1 k.1)
  where
    go : (v : Bool) → eqb a b ≡ v → ((x ≡ y → ⊥) → behind (x ++ (tab ∷ [])) (y ++ (tab ∷ line)) ≡ []) → cond (eqb a b) (behind (x ++ (tab ∷ [])) (y ++ (tab ∷ line))) [] ≡ []
    go true e ih = rw e (ih (λ same. apart (let s : a ≡ b = eqb-true a b e in cc)))
    go false e ih = rw e

-- ---- all lines of an hour
module _ (label : List ℕ) where
  abbrev put : List ℕ → List ℕ
  put line = label ++ (tab ∷ line)

  pub gathered_append : (front : List ℕ) (ls ms : List (List ℕ)) → gathered front (ls ++ ms) ≡ gathered front ls ++ gathered front ms
  gathered_append front [] ms = refl
  gathered_append front (l ∷ ls) ms = ap (λ (s : List ℕ). behind front l ++ s) (gathered_append front ls ms) ∙ sym (append_assoc (behind front l) (gathered front ls) (gathered front ms))

  pub gathered_own : (ls : List (List ℕ)) → gathered (label ++ (tab ∷ [])) (map put ls) ≡ together ls
  gathered_own [] = refl
  gathered_own (l ∷ ls) =
      let front = label ++ (tab ∷ []) in
      ap₂ (λ (x y : List ℕ). x ++ y) (ap (behind front) (sym (append_assoc label (tab ∷ []) l)) ∙ behind_own front l) (gathered_own ls)

  pub gathered_other : (other : List ℕ) → NoTab label → NoTab other → (other ≡ label → ⊥) → (ls : List (List ℕ)) → gathered (other ++ (tab ∷ [])) (map put ls) ≡ []
  gathered_other other h k apart [] = refl
  gathered_other other h k apart (l ∷ ls) = ap₂ (λ (x y : List ℕ). x ++ y) (behind_other other label l k h apart) (gathered_other other h k apart ls)
