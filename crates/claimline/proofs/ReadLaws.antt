-- The laws of `specs/ClaimText.antt`: the columns of a line, the claim of a line, and a list that is read line by line. No contract cites this file.
use mathlib.Core.Path.{◌≡◌, refl, sym, ap, ◌∙◌}
use mathlib.Core.Bool.{Bool, true, false, cond}
use mathlib.Core.List.{List, [], ◌∷◌}
use Prim.Native.Char.{code}
use Prim.Native.Nat.{ℕ, zero, suc, ◌+◌, ◌*◌, ◌-◌, ◌/◌, ◌≤◌, ◌<◌}
use native.Mathlib.Nat.{not-suc-le-zero, sub-zero, div-mul-le_self}
use native.Mathlib.Numerals.{add-one}
use native.Mathlib.Omega.{arith}
use borrow.Author.Tests.{lt-ltb, le-ltb, le-leb, lt-leb, ne_eqb}
use lib.Dec.{leb, eqb}
use lib.IntN.{ℤ, pos}
use lib.ListN.{length, get_or, take, drop, length-drop, drop_of_length-le}
use lib.Seq.{drop-cons}
use Rattle.numbers.specs.Below.{at, sum}
use Rattle.numbers.proofs.SumLaws.{sum_most}
use Rattle.types.specs.LineColumns.{Column, number, columns_of}
use Rattle.types.specs.Ranges.{at_ℤ}
use Rattle.text.specs.Fields.{Parsed, tab, feed}
use Rattle.text.specs.Line.{line_at, after, headed}
use Rattle.text.proofs.LineLaws.{line_le_length}
use Rattle.columns.specs.declared.Head.TheVariants.{Lettered}
use Rattle.columns.specs.Columns.{Values, values, wrong, push, onward, stop_of, field_at, fields_at, stored}
use Rattle.columns.specs.ColumnLine.{to_end, rest_at, head_at, after_number, columns_line}
use Rattle.corrections.specs.Corrections.{pieces}
use Rattle.corrections.proofs.PieceLaws.{pieces_at, line_some}
use Rattle.claimrules.specs.Claims.{pairs_most}
use Rattle.claimline.specs.ClaimText.{fields_of, number_columns, claim_item, claim_record, no_claim, crowded, record_of, claim_with, is_tab, pairs_in, claim_line, claim_lines, claims_in}
use Rattle.claimline.specs.Good.{are_good}
use Rattle.std.specs.Prelude.{Result, Ok, Err}

-- ---- the columns of a line, as the code has them
abbrev repeated : (n b : ℕ) → List ℕ
repeated zero b = []
repeated (suc n) b = b ∷ repeated n b

pub number_letters : (n m : ℕ) → n ≤ m → columns_of (take n (repeated m 110)) ≡ number_columns n
number_letters zero m h = refl
number_letters (suc n) zero h = absurd (not-suc-le-zero h)
number_letters (suc n) (suc m) h = ap (λ (l : List Column). number ∷ l) (number_letters n m (omega arith))

-- ---- the numbers of a record
module _ (pairs : ℕ) (fields : List ℤ) (k : ℕ) where
  pub item_first : k < 2 → at_ℤ fields k ≡ claim_item pairs fields k
  unfolding claim_item
  item_first h = rw (lt-ltb k 2 h)

  pub item_count : k ≡ 2 → pos pairs ≡ claim_item pairs fields k
  unfolding claim_item
  item_count e = rw e

  pub item_rest : 2 ≤ k → (k ≡ 2 → ⊥) → at_ℤ fields (k - 1) ≡ claim_item pairs fields k
  unfolding claim_item
  item_rest h n = rw (le-ltb k 2 h, ne_eqb k 2 n)

-- ---- the claim of a line with so many pairs, 16 at most
module _ (line : List ℕ) (pairs : ℕ) {columns : List Column} (are : columns ≡ number_columns (fields_of pairs)) (f : Result ℕ ℕ) (zs : List ℤ) (said : stored f zs ≡ columns_line tab (Lettered (code "Q")) columns line) where
  read_is : record_of pairs (stored f zs) ≡ claim_with line pairs
  unfolding claim_with
  read_is = ap (record_of pairs) (said ∙ ap (λ (l : List Column). columns_line tab (Lettered (code "Q")) l line) are)

  pub with_bad : (place : ℕ) → f ≡ Err place → no_claim ≡ claim_with line pairs
  with_bad place e = ap (λ (g : Result ℕ ℕ). record_of pairs (stored g zs)) (sym e) ∙ read_is

  pub with_fields : pairs ≤ pairs_most → (next : ℕ) → f ≡ Ok next → claim_record pairs zs ≡ claim_with line pairs
  with_fields few next e =
      sym (ap (λ (v : Bool). cond v (claim_record pairs zs) (crowded (at_ℤ zs 0))) (le-leb pairs pairs_most few))
      ∙ ap (λ (g : Result ℕ ℕ). record_of pairs (stored g zs)) (sym e)
      ∙ read_is

-- ---- the claim of a line with more than 16 pairs
module _ (line : List ℕ) (pairs : ℕ) (many : pairs_most < pairs) where
  -- the numbers after the row
  abbrev others : (next : ℕ) → Values
  others next = fields_at tab feed (number_columns (1 + 2 * pairs)) line next

  begun : claim_with line pairs ≡ record_of pairs (cond (headed (code "Q") tab line) (to_end line (onward (field_at number line 2 tab) others)) (wrong 0))
  unfolding claim_with columns_line head_at rest_at fields_at
  begun =
      let all : fields_of pairs ≡ suc (suc (2 * pairs)) = omega arith in
      let but-row : 1 + 2 * pairs ≡ suc (2 * pairs) = omega arith in
      ap (λ (n : ℕ). record_of pairs (columns_line tab (Lettered (code "Q")) (number_columns n) line)) all
      ∙ ap (record_of pairs) (lettered (headed (code "Q") tab line))
      ∙ ap (λ (n : ℕ). record_of pairs (cond (headed (code "Q") tab line) (to_end line (onward (field_at number line 2 tab) (λ next. fields_at tab feed (number_columns n) line next))) (wrong 0))) (sym but-row)
    where
      lettered : (t : Bool) → after_number (cond t (Ok (0, 2)) (Err 0)) (λ at. rest_at tab (number_columns (suc (suc (2 * pairs)))) line at) ≡ cond t (rest_at tab (number_columns (suc (suc (2 * pairs)))) line 2) (wrong 0)
      lettered true = refl
      lettered false = refl

  row-and-others : (row : ℤ) (v : Values) → record_of pairs (to_end line (push row v)) ≡ cond (are_good (to_end line v)) (crowded row) no_claim
  row-and-others row (wrong place) = refl
  row-and-others row (values zs next) = go (leb (length line) next)
    where
      go : (t : Bool) → record_of pairs (cond t (values (row ∷ zs) next) (wrong next)) ≡ cond (are_good (cond t (values zs next) (wrong next))) (crowded row) no_claim
      go true = ap (λ (v : Bool). cond v (claim_record pairs (row ∷ zs)) (crowded row)) (lt-leb pairs pairs_most many)
      go false = refl

  pub crowded_unheaded : headed (code "Q") tab line ≡ false → no_claim ≡ claim_with line pairs
  crowded_unheaded e = sym (begun ∙ ap (λ (t : Bool). record_of pairs (cond t (to_end line (onward (field_at number line 2 tab) others)) (wrong 0))) e)

  module _ (e : headed (code "Q") tab line ≡ true) (s : Parsed ℤ) (q : s ≡ field_at number line 2 tab) where
    headed-on : claim_with line pairs ≡ record_of pairs (to_end line (onward s others))
    headed-on =
        begun
        ∙ ap (λ (t : Bool). record_of pairs (cond t (to_end line (onward (field_at number line 2 tab) others)) (wrong 0))) e
        ∙ ap (λ (r : Parsed ℤ). record_of pairs (to_end line (onward r others))) (sym q)

    pub crowded_rowless : (place : ℕ) → s ≡ Err place → no_claim ≡ claim_with line pairs
    crowded_rowless place d = sym (headed-on ∙ ap (λ (r : Parsed ℤ). record_of pairs (to_end line (onward r others))) d)

    module _ (row : ℤ) (next : ℕ) (d : s ≡ Ok (row, next)) {good : Bool} (told : good ≡ are_good (rest_at tab (number_columns (1 + 2 * pairs)) line next)) where
      row_on : claim_with line pairs ≡ cond good (crowded row) no_claim
      unfolding rest_at
      row_on =
          headed-on
          ∙ ap (λ (r : Parsed ℤ). record_of pairs (to_end line (onward r others))) d
          ∙ row-and-others row (others next)
          ∙ ap (λ (v : Bool). cond v (crowded row) no_claim) (sym told)

      pub crowded_bad : good ≡ false → no_claim ≡ claim_with line pairs
      crowded_bad n = sym (row_on ∙ ap (λ (v : Bool). cond v (crowded row) no_claim) n)

      pub crowded_row : good ≡ true → crowded row ≡ claim_with line pairs
      crowded_row y = sym (row_on ∙ ap (λ (v : Bool). cond v (crowded row) no_claim) y)

-- ---- numbers to the line's end: k of n are read, and those left begin at place p
pub record NumbersTo (line : List ℕ) (at n p k : ℕ) : Type 0 where
  pub high : k ≤ n
  pub rest : are_good (rest_at tab (number_columns (n - k)) line p) ≡ are_good (rest_at tab (number_columns n) line at)

module _ (line : List ℕ) (at n : ℕ) where
  pub numbers_none : NumbersTo line at n at 0
  numbers_none = record { high = omega arith; rest = ap (λ (m : ℕ). are_good (rest_at tab (number_columns m) line at)) (sub-zero n) }

  module _ (p k : ℕ) (u : NumbersTo line at n p k) where
    pub numbers_all : n ≤ k → leb (length line) p ≡ are_good (rest_at tab (number_columns n) line at)
    unfolding rest_at fields_at
    numbers_all h =
        let none : n - k ≡ 0 = omega arith in
        sym (go (leb (length line) p)) ∙ sym (ap (λ (m : ℕ). are_good (rest_at tab (number_columns m) line p)) none) ∙ u.rest
      where
        go : (t : Bool) → are_good (cond t (values [] p) (wrong p)) ≡ t
        go true = refl
        go false = refl

    module _ (h : k < n) (stop : ℕ) (is : stop ≡ cond (leb (n - k) 1) feed tab) (s : Parsed ℤ) (q : s ≡ field_at number line p stop) where
      -- the byte that ends the next number
      stop-next : (m : ℕ) → stop_of tab feed (number_columns m) ≡ cond (leb (suc m) 1) feed tab
      stop-next zero = refl
      stop-next (suc m) = rw (lt-leb (suc (suc m)) 1 (omega arith))

      step : are_good (to_end line (onward s (λ next. fields_at tab feed (number_columns (n - (k + 1))) line next))) ≡ are_good (rest_at tab (number_columns n) line at)
      unfolding rest_at fields_at
      step =
          let left : n - k ≡ suc (n - (k + 1)) = omega arith in
          ap (λ (r : Parsed ℤ). are_good (to_end line (onward r (λ next. fields_at tab feed (number_columns (n - (k + 1))) line next))))
          (q ∙ ap (field_at number line p) (is ∙ ap (λ (m : ℕ). cond (leb m 1) feed tab) left ∙ sym (stop-next (n - (k + 1)))))
          ∙ sym (ap (λ (m : ℕ). are_good (rest_at tab (number_columns m) line p)) left)
          ∙ u.rest

      pub numbers_bad : (place : ℕ) → s ≡ Err place → false ≡ are_good (rest_at tab (number_columns n) line at)
      numbers_bad place d = sym (ap (λ (r : Parsed ℤ). are_good (to_end line (onward r (λ next. fields_at tab feed (number_columns (n - (k + 1))) line next)))) d) ∙ step

      pub numbers_more : (z : ℤ) (next : ℕ) → s ≡ Ok (z, next) → NumbersTo line at n next (k + 1)
      unfolding rest_at
      numbers_more z next d =
          record {
            high = omega arith;
            rest = sym (pushed (fields_at tab feed (number_columns (n - (k + 1))) line next))
                ∙ sym (ap (λ (r : Parsed ℤ). are_good (to_end line (onward r (λ next. fields_at tab feed (number_columns (n - (k + 1))) line next)))) d)
                ∙ step;
          }
        where
          pushed : (v : Values) → are_good (to_end line (push z v)) ≡ are_good (to_end line v)
          pushed (wrong place) = refl
          pushed (values zs m) = go (leb (length line) m)
            where
              go : (t : Bool) → are_good (cond t (values (z ∷ zs) m) (wrong m)) ≡ are_good (cond t (values zs m) (wrong m))
              go true = refl
              go false = refl

-- ---- how many pairs a line has
pub tabs_le : (line : List ℕ) (k : ℕ) → sum k (is_tab line) ≤ k
tabs_le line k = omega (arith, sum_most {m = 1} k (is_tab line) (λ i h. one (eqb (at line i) tab)))
  where
    one : (t : Bool) → cond t 1 0 ≤ 1
    one true = omega arith
    one false = omega arith

module _ (line : List ℕ) {tabs : ℕ} (are : tabs ≡ sum (length line) (is_tab line)) where
  pub pairs_some : (tabs - 2) / 2 ≡ pairs_in line
  unfolding pairs_in
  pairs_some = ap (λ (n : ℕ). (n - 2) / 2) are

-- a line of more than 16 pairs has a byte for each of its numbers
pub pairs_long : (line : List ℕ) → pairs_most < pairs_in line → 1 + 2 * pairs_in line ≤ length line
unfolding pairs_in
pairs_long line h = omega (arith, tabs_le line (length line), div-mul-le_self (sum (length line) (is_tab line) - fields_of 0) 2)

pub line_is : (line : List ℕ) {pairs : ℕ} → pairs ≡ pairs_in line → claim_with line pairs ≡ claim_line line
unfolding claim_line
line_is line e = ap (claim_with line) e

-- ---- a list, line by line: n lines are passed, and those left begin at place p
pub record LinesTo (list : List ℕ) (n p : ℕ) : Type 0 where
  pub within : p ≤ length list
  pub many : n ≤ p
  pub high : n ≤ length (claims_in list)
  pub left : drop n (claims_in list) ≡ claim_lines (pieces (drop p list))

pub lines_first : (list : List ℕ) → LinesTo list 0 0
unfolding claims_in
lines_first list = record { within = omega arith; many = omega arith; high = omega arith; left = refl }

module _ {list : List ℕ} {n p : ℕ} (u : LinesTo list n p) where
  pub after_within : after list p ≤ length list
  after_within = omega (arith, line_le_length (drop p list), length-drop p list, u.within)

  pub after_further : p < length list → p < after list p
  after_further h = omega (arith, line_some list p h)

  -- at the list's end
  pub lines_all_lem : length list ≤ p → n ≡ length (claims_in list)
  lines_all_lem h =
      let none : drop n (claims_in list) ≡ [] = u.left ∙ ap (λ (l : List ℕ). claim_lines (pieces l)) (drop_of_length-le list h) in
      omega (arith, u.high, ap length none, length-drop n (claims_in list))

  module _ (h : p < length list) where
    cut : drop n (claims_in list) ≡ claim_line (line_at list p) ∷ claim_lines (pieces (drop (after list p) list))
    cut = u.left ∙ ap claim_lines (pieces_at list p h)

    -- the next line is the next claim
    pub lines_some : n < length (claims_in list)
    lines_some = omega (arith, ap length cut, length-drop n (claims_in list))

    both : get_or (claims_in list) n [] ∷ drop (n + 1) (claims_in list) ≡ claim_line (line_at list p) ∷ claim_lines (pieces (drop (after list p) list))
    both = ap (λ (k : ℕ). get_or (claims_in list) n [] ∷ drop k (claims_in list)) (add-one n) ∙ sym (drop-cons (claims_in list) n [] lines_some) ∙ cut

    pub lines_here : claim_line (line_at list p) ≡ get_or (claims_in list) n []
    lines_here = let e = both in cc

    pub lines_more : LinesTo list (n + 1) (after list p)
    lines_more = let e = both in record { within = after_within; many = omega (arith, u.many, after_further h); high = omega (arith, lines_some); left = cc }
