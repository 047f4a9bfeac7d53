-- The laws of `specs/Records.antt` and `specs/Refusal.antt` that proofs cite. No contract cites this file.
-- In order: the lengths of lines; the E line; lines of 64-bit numbers; the whole text.
use mathlib.Core.Path.{◌≡◌, refl, ap, ◌∙◌}
use mathlib.Core.List.{List, [], ◌∷◌, ◌++◌}
use mathlib.Core.Logic.{⊎_elim}
use Prim.Native.Nat.{ℕ, ◌+◌, ◌^◌, ◌≤◌, ◌<◌}
use native.Mathlib.Omega.{arith}
use lib.IntN.{ℤ, pos, negsuc}
use lib.ListN.{length, length-append}
use lib.Signed.{mag}
use mir.Syntax.{w64}
use mir.Val.{hbits}
use Rattle.refusals.specs.declared.Refusal.{Refusal}
use Rattle.refusals.specs.Refusals.{number_of, place_of, byte_of}
use Rattle.types.specs.LineColumns.{Column, number, signed, share}
use Rattle.types.specs.Ranges.{at_ℤ}
use Rattle.text.specs.Put.{Put}
use Rattle.text.specs.Written.{decimal, decimal_ℤ, share_text, line_text}
use Rattle.text.proofs.DigitLaws.{decimal_u64, decimal_i64}
use Rattle.text.proofs.WrittenLaws.{decimal_long}
use Rattle.text.proofs.PutLaws.{tabbed_length, tabbed_empty, line_length_lem, put_more}
use Rattle.columns.specs.declared.Head.{Head}
use Rattle.columns.specs.ColumnText.{field_text, fields_length, line_length}
use Rattle.result.specs.Refusal.{refusal_line, refusal_text, refusal_most}
use Rattle.result.specs.Records.{atc_columns, margin_columns, ResultColumns, record_length, rounds_line, atc_lines, margin_lines, records_text, result_line_most}

-- ---- the lengths of lines
module _ (letter : ℕ) (f : List ℕ) where
  one-length : 3 + length f ≡ length (line_text letter (f ∷ []))
  one-length = omega (arith, line_length_lem letter (f ∷ []), tabbed_length f [], tabbed_empty)

  three-length : (g h : List ℕ) → 5 + length f + length g + length h ≡ length (line_text letter (f ∷ g ∷ h ∷ []))
  three-length g h = omega (arith, line_length_lem letter (f ∷ g ∷ h ∷ []), tabbed_length f (g ∷ h ∷ []), tabbed_length g (h ∷ []), tabbed_length h [], tabbed_empty)

pub rounds_length : (rounds : ℕ) → 3 + length (decimal rounds) ≡ length (rounds_line rounds)
rounds_length rounds = one-length 82 (decimal rounds)

-- ---- the E line
pub refusal_length : (n place byte : ℕ) → 5 + length (decimal n) + length (decimal place) + length (decimal byte) ≡ length (refusal_line n place byte)
refusal_length n place byte = three-length 69 (decimal n) (decimal place) (decimal byte)

pub refusal_most_lem : (n place byte : ℕ) → n < 2 ^ 32 → place < 2 ^ 64 → byte < 2 ^ 64 → length (refusal_line n place byte) ≤ refusal_most
refusal_most_lem n place byte h k l = omega (arith, refusal_length n place byte, decimal_long 9 n (omega (arith, h)), decimal_u64 place k, decimal_u64 byte l)

-- the line of a refusal's three numbers is its text
pub refusal_as : (w : Refusal) {n place byte : ℕ} → n ≡ number_of w → place ≡ place_of w → byte ≡ byte_of w → refusal_line n place byte ≡ refusal_text w
unfolding refusal_text
refusal_as w h k l = rw (h, k, l)

-- ---- lines of 64-bit numbers
-- three columns look at three numbers
three : (c d e : Column) (raw : List ℤ) → fields_length (c ∷ d ∷ e ∷ []) (at_ℤ raw 0 ∷ at_ℤ raw 1 ∷ at_ℤ raw 2 ∷ []) ≡ fields_length (c ∷ d ∷ e ∷ []) raw
unfolding fields_length
three c d e [] = refl
three c d e (x ∷ []) = refl
three c d e (x ∷ y ∷ []) = refl
three c d e (x ∷ y ∷ z ∷ zs) = refl

share_i64 : (z : ℤ) → mag z < 2 ^ hbits w64 → length (share_text z) ≤ 20
unfolding decimal_ℤ
share_i64 (pos n) h = decimal_i64 (pos n) h
share_i64 (negsuc n) h = omega arith

module _ {columns : List Column} (is : ResultColumns columns) where
  pub columns_three : length columns ≡ 3
  columns_three = ⊎_elim (λ (e : columns ≡ atc_columns). ap length e) (λ (e : columns ≡ margin_columns). ap length e) is

  pub record_three : (head : Head) (raw : List ℤ) → line_length head columns (at_ℤ raw 0 ∷ at_ℤ raw 1 ∷ at_ℤ raw 2 ∷ []) ≡ line_length head columns raw
  record_three head raw = ⊎_elim (λ (e : columns ≡ atc_columns). rw (e, three number number share raw)) (λ (e : columns ≡ margin_columns). rw (e, three number signed share raw)) is

  pub record_most : (i : ℕ) (first second third : ℤ) → i < 2 ^ 64 → mag first < 2 ^ hbits w64 → mag second < 2 ^ hbits w64 → mag third < 2 ^ hbits w64
      → record_length columns i (first ∷ second ∷ third ∷ []) ≤ result_line_most
  unfolding fields_length field_text
  record_most i first second third h k l m =
      let short : 3 + length (decimal i) + (length (decimal_ℤ first) + 1 + (length (decimal_ℤ second) + 1 + (length (share_text third) + 1 + 0))) ≤ result_line_most =
      omega (arith, decimal_u64 i h, decimal_i64 first k, decimal_i64 second l, share_i64 third m) in
      ⊎_elim (λ (e : columns ≡ atc_columns). rw e short) (λ (e : columns ≡ margin_columns). rw e short) is

-- ---- the whole text
module _ (atcs lefts : List (List ℤ)) (rounds : ℕ) where
  pub text_length : length (records_text atcs lefts rounds) ≡ length (atc_lines atcs) + length (margin_lines lefts) + length (rounds_line rounds)
  unfolding records_text
  text_length = length-append (atc_lines atcs ++ margin_lines lefts) (rounds_line rounds) ∙ ap (λ (k : ℕ). k + length (rounds_line rounds)) (length-append (atc_lines atcs) (margin_lines lefts))

  pub text_put : {out mid rest out' : List ℕ} {m n next : ℕ}
      → Put (atc_lines atcs) 0 out m mid → Put (margin_lines lefts) m mid n rest → Put (rounds_line rounds) n rest next out' → Put (records_text atcs lefts rounds) 0 out next out'
  unfolding records_text
  text_put p q r = put_more (put_more p (omega arith) q) (omega arith) r
