-- The byte named lies in the line (02, E5): of a line of wrong form (`line-byte-le`), and of one of right form whose value is outside its range
-- (`line-range-le`: a line of right form is its columns' text, by `line_read` of crate columns). Tests of fields
-- that were left out pass and change nothing (`range-left-out`); whatever the line, a byte is at most one past its end (`range-le`).
use mathlib.Core.Path.{◌≡◌, refl, sym, subst}
use mathlib.Core.Bool.{Bool, true, false, cond, false≢true}
use mathlib.Core.List.{List, [], ◌∷◌, ◌++◌, append_assoc}
use Prim.Native.Nat.{ℕ, zero, suc, ◌+◌, ◌≤◌, ◌<◌}
use native.Mathlib.Omega.{arith}
use lib.Dec.{eqb}
use lib.IntN.{ℤ, pos}
use lib.ListN.{length, get_or, drop, length-append}
use borrow.Author.Tests.{eq-eqb}
use Rattle.types.specs.LineColumns.{Column}
use Rattle.types.specs.Ranges.{all_true}
use Rattle.text.specs.Fields.{feed}
use Rattle.text.specs.Written.{decimal}
use Rattle.columns.specs.declared.Head.{Head}
use Rattle.columns.specs.declared.Head.TheVariants.{Lettered, Indexed, Bare}
use Rattle.columns.specs.Columns.{stop_of}
use Rattle.columns.specs.ColumnText.{field_text, fields_ended, index_text, head_text, head_seps, columns_text}
use Rattle.blame.specs.Blame.{line_byte}
use Rattle.blame.specs.RangeBlame.{past_seps, range_byte}
use Rattle.faults.proofs.Faults.{line_fault, fault_within}

-- ---- wrong form
named_le : (byte : ℕ) (line : List ℕ) → ((place : ℕ) → byte ≡ place + 1 → place < length line) → byte ≤ length line
named_le zero line f = omega arith
named_le (suc x) line f = let h : x < length line = f x (omega arith) in omega arith

pub line_byte_le : (sep : ℕ) → 0 < sep → (head : Head) (columns : List Column) (line : List ℕ) → line_byte sep head columns line ≤ length line
line_byte_le sep some head columns line = named_le _ line (λ place e. fault_within sep line head columns place (line_fault sep some head columns line place e))

-- ---- a value outside its range
module _ (sep : ℕ) where
  pub past_le : (k : ℕ) (s : List ℕ) → past_seps sep k s ≤ length s
  unfolding past_seps
  past_le zero s = omega arith
  past_le (suc k) [] = omega arith
  past_le (suc k) (b ∷ s) = go (eqb b sep) (past_le k s) (past_le (suc k) s)
    where
      go : (t : Bool) → past_seps sep k s ≤ length s → past_seps sep (suc k) s ≤ length s → suc (cond t (past_seps sep k s) (past_seps sep (suc k) s)) ≤ suc (length s)
      go true p q = omega arith
      go false p q = omega arith

  -- one more of the bytes that part fields lies further on
  past_more : (k : ℕ) (s : List ℕ) → past_seps sep k s ≤ past_seps sep (suc k) s
  unfolding past_seps
  past_more zero s = omega arith
  past_more (suc k) [] = omega arith
  past_more (suc k) (b ∷ s) = go (eqb b sep) (past_more k s) (past_more (suc k) s)
    where
      go : (t : Bool) → past_seps sep k s ≤ past_seps sep (suc k) s → past_seps sep (suc k) s ≤ past_seps sep (suc (suc k)) s
          → suc (cond t (past_seps sep k s) (past_seps sep (suc k) s)) ≤ suc (cond t (past_seps sep (suc k) s) (past_seps sep (suc (suc k)) s))
      go true p q = omega arith
      go false p q = omega arith

  -- the next byte that parts fields lies no further on than one that stands in the line
  past-field : (k : ℕ) (t r : List ℕ) → past_seps sep (suc k) (t ++ (sep ∷ r)) ≤ length t + 1 + past_seps sep k r
  unfolding past_seps
  past-field k [] r = rw (eq-eqb sep sep refl) (omega arith)
  past-field k (b ∷ t) r = go (eqb b sep) (past-field k t r)
    where
      go : (u : Bool) → past_seps sep (suc k) (t ++ (sep ∷ r)) ≤ length t + 1 + past_seps sep k r
          → suc (cond u (past_seps sep k (t ++ (sep ∷ r))) (past_seps sep (suc k) (t ++ (sep ∷ r)))) ≤ suc (length t) + 1 + past_seps sep k r
      go true p = omega (arith, past_more k (t ++ (sep ∷ r)))
      go false p = omega arith

  -- field k of the columns' text begins in it
  past-fields : (cs : List Column) (zs : List ℤ) (k : ℕ) → k < length cs → past_seps sep k (fields_ended sep feed cs zs) < length (fields_ended sep feed cs zs)
  unfolding fields_ended past_seps
  past-fields [] zs k h = absurd (omega arith)
  past-fields (c ∷ cs) zs zero h = omega (arith, length-append (field_text c (get_or zs 0 (pos 0))) (stop_of sep feed cs ∷ fields_ended sep feed cs (drop 1 zs)))
  past-fields (c ∷ []) zs (suc k) h = absurd (omega arith)
  past-fields (c ∷ d ∷ cs) zs (suc k) h =
      let t = field_text c (get_or zs 0 (pos 0)) in
      let r = fields_ended sep feed (d ∷ cs) (drop 1 zs) in
      omega (arith, past-field k t r, past-fields (d ∷ cs) (drop 1 zs) k (omega arith), length-append t (sep ∷ r))

  module _ (line : List ℕ) where
    begins-at : (a b : ℕ) → a ≡ b → past_seps sep a line < length line → past_seps sep b line < length line
    begins-at a b e h = subst (λ (x : ℕ). past_seps sep x line < length line) e h

    -- the byte of tests whose fields begin in the line
    pub range_in : (tests : List Bool) (k : ℕ) → ((j : ℕ) → j < length tests → past_seps sep (k + j) line < length line) → range_byte sep tests k line ≤ length line
    unfolding range_byte
    range_in [] k f = omega arith
    range_in (true ∷ ts) k f = range_in ts (suc k) (λ j h. begins-at (k + suc j) (suc k + j) (omega arith) (f (suc j) (omega arith)))
    range_in (false ∷ ts) k f = omega (arith, begins-at (k + 0) k (omega arith) (f 0 (omega arith)))

    pub range_le : (tests : List Bool) (k : ℕ) → range_byte sep tests k line ≤ length line + 1
    unfolding range_byte
    range_le [] k = omega arith
    range_le (true ∷ ts) k = range_le ts (suc k)
    range_le (false ∷ ts) k = omega (arith, past_le k line)

    -- fields that were left out
    pub range_left_out : (ts us : List Bool) (k : ℕ) → all_true us ≡ true → range_byte sep (ts ++ us) k line ≡ range_byte sep ts k line
    unfolding range_byte
    range_left_out [] [] k e = refl
    range_left_out [] (true ∷ us) k e = range_left_out [] us (suc k) e
    range_left_out [] (false ∷ us) k e = absurd (false≢true e)
    range_left_out (true ∷ ts) us k e = range_left_out ts us (suc k) e
    range_left_out (false ∷ ts) us k e = refl

  -- a field that begins within the fields begins within the line, after its head
  past_index : (i j : ℕ) (fields : List ℕ) → past_seps sep j fields < length fields → past_seps sep (suc j) (index_text sep i ++ fields) < length (index_text sep i ++ fields)
  unfolding index_text
  past_index i j fields h =
      subst (λ (s : List ℕ). past_seps sep (suc j) s < length s) (sym (append_assoc (decimal i) (sep ∷ []) fields))
      (omega (arith, past-field j (decimal i) fields, length-append (decimal i) (sep ∷ fields)))

  past-letter : (letter j : ℕ) (fields : List ℕ) → past_seps sep j fields < length fields → past_seps sep (suc j) (letter ∷ sep ∷ fields) < length (letter ∷ sep ∷ fields)
  past-letter letter j fields h =
      let past : past_seps sep (suc j) (letter ∷ sep ∷ fields) ≤ 2 + past_seps sep j fields = past-field j (letter ∷ []) fields in
      omega (arith, past)

  past_head : (head : Head) (j : ℕ) (fields : List ℕ) → past_seps sep j fields < length fields → past_seps sep (head_seps head + j) (head_text sep head ++ fields) < length (head_text sep head ++ fields)
  unfolding head_text
  past_head (Lettered letter) j fields h = begins-at _ (suc j) (1 + j) (omega arith) (past-letter letter j fields h)
  past_head (Indexed letter i) j fields h = begins-at _ (suc (suc j)) (2 + j) (omega arith) (past-letter letter (suc j) (index_text sep i ++ fields) (past_index i j fields h))
  past_head (Bare i) j fields h = begins-at _ (suc j) (1 + j) (omega arith) (past_index i j fields h)

  pub line_range_le : (head : Head) (cs : List Column) (zs : List ℤ) (tests : List Bool) → length tests ≤ length cs → range_byte sep tests (head_seps head) (columns_text sep head cs zs) ≤ length (columns_text sep head cs zs)
  unfolding columns_text
  line_range_le head cs zs tests h = range_in _ tests (head_seps head) (λ j k. past_head head j (fields_ended sep feed cs zs) (past-fields cs zs j (omega arith)))
