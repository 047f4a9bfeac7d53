-- How long a tidied text is: never more than twice as long as the text and one byte. No contract cites this file.
-- In order: a field; a line; lines; the text.
use mathlib.Core.Path.{◌≡◌, refl, sym, ap, ◌∙◌}
use mathlib.Core.Bool.{Bool, true, false, cond, not, ◌&&◌, ◌||◌}
use mathlib.Core.List.{List, [], ◌∷◌, ◌++◌}
use Prim.Native.Nat.{ℕ, zero, suc, ◌+◌, ◌*◌, ◌-◌, ◌≤◌, ◌<◌}
use native.Mathlib.Nat.{not-suc-le-zero}
use native.Mathlib.Omega.{arith}
use lib.Dec.{ltb, eqb}
use lib.ListN.{length, drop, replicate, length-append, length-replicate, length-drop}
use Rattle.text.specs.Fields.{tab, feed, dash, is_digit}
use Rattle.text.specs.Point.{point}
use Rattle.tidyrules.specs.Cut.{Cut, lastly, ended, cut, joined}
use Rattle.tidyrules.specs.Fields.{blank, quote, empty, edge, unled, untrailed, trimmed, closes, within, unquoted, digits_only, decimals_past, decimals_of, short, lacking, bared, repaired}
use Rattle.tidyrules.specs.Tidied.{semicolon, is_row, wanted, repairs, line_tidied, bare, above, lines_tidied, mark, unmarked_by, unmarked, tidied}
use Rattle.tidyrules.proofs.CutLaws.{cut_joins}

-- ---- a field
unled_le : (s : List ℕ) → length (unled s) ≤ length s
unled_le [] = omega arith
unled_le (b ∷ s) = go (eqb b blank) (unled_le s)
  where
    go : (t : Bool) → length (unled s) ≤ length s → length (cond t (unled s) (b ∷ s)) ≤ length (b ∷ s)
    go true ih = omega arith
    go false ih = omega arith

untrailed_le : (last : Bool) (s : List ℕ) → length (untrailed last s) ≤ length s
untrailed_le last [] = omega arith
untrailed_le last (b ∷ s) = go (edge last b && empty (untrailed last s)) (untrailed_le last s)
  where
    go : (t : Bool) → length (untrailed last s) ≤ length s → length (cond t [] (b ∷ untrailed last s)) ≤ length (b ∷ s)
    go true ih = omega arith
    go false ih = omega arith

within_le : (s : List ℕ) → length (within s) ≤ length s
within_le [] = omega arith
within_le (b ∷ s) = go (eqb b quote) (within_le s)
  where
    go : (t : Bool) → length (within s) ≤ length s → length (cond t [] (b ∷ within s)) ≤ length (b ∷ s)
    go true ih = omega arith
    go false ih = omega arith

trimmed_le : (last : Bool) (s : List ℕ) → length (trimmed last s) ≤ length s
trimmed_le last s = omega (arith, unled_le (untrailed last s), untrailed_le last s)

unquoted_le : (last : Bool) (s : List ℕ) → length (unquoted last s) ≤ length s
unquoted_le last [] = omega arith
unquoted_le last (b ∷ s) = go (eqb b quote && closes s)
  where
    go : (t : Bool) → length (cond t (trimmed last (within s)) (b ∷ s)) ≤ length (b ∷ s)
    go true = omega (arith, trimmed_le last (within s), within_le s)
    go false = omega arith

bared_le : (last : Bool) (f : List ℕ) → length (bared last f) ≤ length f
unfolding bared
bared_le last f = omega (arith, unquoted_le last (trimmed last f), trimmed_le last f)

-- decimals come behind a point, and a digit stands before it
past_long : (some : Bool) (s : List ℕ) → 0 < decimals_past some s → cond some 1 2 + decimals_past some s ≤ length s
past_long some [] h = absurd (not-suc-le-zero {n = 0} (omega arith))
past_long some (b ∷ s) h = go some (is_digit b) (λ k. past_long true s k) h
  where
    ends : (t : Bool) → 0 < cond t (length s) 0 → 1 + cond t (length s) 0 ≤ length (b ∷ s)
    ends true k = omega arith
    ends false k = absurd (not-suc-le-zero {n = 0} (omega arith))

    go : (v t : Bool) → (0 < decimals_past true s → 1 + decimals_past true s ≤ length s)
        → 0 < cond t (decimals_past true s) (cond (v && (eqb b point && digits_only s)) (length s) 0)
        → cond v 1 2 + cond t (decimals_past true s) (cond (v && (eqb b point && digits_only s)) (length s) 0) ≤ length (b ∷ s)
    go true true ih k = omega (arith, ih k)
    go false true ih k = omega (arith, ih k)
    go true false ih k = ends (eqb b point && digits_only s) k
    go false false ih k = absurd (not-suc-le-zero {n = 0} (omega arith))

decimals_long : (f : List ℕ) → 0 < decimals_of f → 2 + decimals_of f ≤ length f
decimals_long [] h = absurd (not-suc-le-zero {n = 0} (omega arith))
decimals_long (b ∷ s) h = go (eqb b dash) h
  where
    go : (t : Bool) → 0 < cond t (decimals_past false s) (decimals_past false (b ∷ s)) → 2 + cond t (decimals_past false s) (decimals_past false (b ∷ s)) ≤ length (b ∷ s)
    go true k = omega (arith, past_long false s k)
    go false k = past_long false (b ∷ s) k

short_le : (want has : ℕ) → short want has ≤ want - has
short_le want has = go (eqb has 0)
  where
    go : (t : Bool) → cond t 0 (want - has) ≤ want - has
    go true = omega arith
    go false = omega arith

lacking_le : (want : ℕ) (f : List ℕ) → want ≤ 5 → lacking want f ≤ length f + 1
lacking_le want f h = go (decimals_of f) refl
  where
    go : (d : ℕ) → decimals_of f ≡ d → short want d ≤ length f + 1
    go zero e = omega arith
    go (suc d) e = omega (arith, short_le want (suc d), decimals_long f (omega (arith, e)))

pub repaired_length : (last : Bool) (want : ℕ) (f : List ℕ) → length (repaired last want f) ≡ length (bared last f) + lacking want (bared last f)
unfolding repaired
repaired_length last want f = length-append (bared last f) (replicate (lacking want (bared last f)) 48) ∙ ap (λ (n : ℕ). length (bared last f) + n) (length-replicate (lacking want (bared last f)) 48)

repaired_le : (last : Bool) (want : ℕ) (f : List ℕ) → want ≤ 5 → length (repaired last want f) ≤ 2 * length f + 1
repaired_le last want f h = omega (arith, repaired_length last want f, bared_le last f, lacking_le want (bared last f) h)

-- where none are wanted, none come
none_lacking : (f : List ℕ) → lacking 0 f ≡ 0
none_lacking f = go (eqb (decimals_of f) 0)
  where
    go : (t : Bool) → ◌≡◌ {A = ℕ} (cond t 0 (0 - decimals_of f)) 0
    go true = refl
    go false = omega arith

first_le : (last row : Bool) (f : List ℕ) → length (repaired last (wanted row 0) f) ≤ length f
first_le last row f = go row
  where
    none : length (repaired last 0 f) ≤ length f
    none = omega (arith, repaired_length last 0 f, bared_le last f, none_lacking (bared last f))

    go : (r : Bool) → length (repaired last (wanted r 0) f) ≤ length f
    go true = none
    go false = none

wanted_le : (row : Bool) (k : ℕ) → wanted row k ≤ 5
wanted_le row k = go (row && not (eqb k 0 || eqb k 5)) (ltb k 8)
  where
    go : (t u : Bool) → cond t (cond u 3 5) 0 ≤ 5
    go true true = omega arith
    go true false = omega arith
    go false u = omega arith

-- ---- a line
fields_le : (row : Bool) (k : ℕ) (c : Cut) → length (joined (repairs row k c)) ≤ 2 * length (joined c) + 1
fields_le row k (lastly f) = repaired_le true (wanted row k) f (wanted_le row k)
fields_le row k (ended f stop c) =
    omega (
      arith,
      repaired_le false (wanted row k) f (wanted_le row k),
      fields_le row (k + 1) c,
      length-append (repaired false (wanted row k) f) (stop ∷ joined (repairs row (k + 1) c)),
      length-append f (stop ∷ joined c),
    )

line_fields_le : (row : Bool) (c : Cut) → length (joined (repairs row 0 c)) ≤ 2 * length (joined c)
line_fields_le row (lastly f) = omega (arith, first_le true row f)
line_fields_le row (ended f stop c) =
    omega (
      arith,
      first_le false row f,
      fields_le row (0 + 1) c,
      length-append (repaired false (wanted row 0) f) (stop ∷ joined (repairs row (0 + 1) c)),
      length-append f (stop ∷ joined c),
    )

pub line_le : (line : List ℕ) → length (line_tidied line) ≤ 2 * length line
unfolding line_tidied
line_le line = let c = cut tab semicolon line in omega (arith, line_fields_le (is_row c) c, ap length (cut_joins tab semicolon line))

-- ---- lines
above_le : (line rest : List ℕ) → length (above line rest) ≤ length line + 1 + length rest
unfolding above
above_le line rest = go (empty rest && bare line)
  where
    go : (t : Bool) → length (cond t [] (line ++ (feed ∷ rest))) ≤ length line + 1 + length rest
    go true = omega arith
    go false = omega (arith, length-append line (feed ∷ rest))

lines_le : (c : Cut) → length (lines_tidied c) ≤ 2 * length (joined c) + 1
lines_le (lastly line) = omega (arith, above_le (line_tidied line) [], line_le line)
lines_le (ended line stop c) = omega (arith, above_le (line_tidied line) (lines_tidied c), line_le line, lines_le c, length-append line (stop ∷ joined c))

-- ---- the text
unmarked_by_le : (n : ℕ) (s : List ℕ) → length (unmarked_by n s) ≤ length s
unmarked_by_le zero s = omega arith
unmarked_by_le (suc n) s = omega (arith, unmarked_by_le n (drop (mark s) s), length-drop (mark s) s)

pub tidied_most : (text : List ℕ) → length (tidied text) ≤ 2 * length text + 1
unfolding tidied unmarked
tidied_most text =
    let u = unmarked text in
    omega (arith, lines_le (cut feed feed u), ap length (cut_joins feed feed u), unmarked_by_le (length text) text)
