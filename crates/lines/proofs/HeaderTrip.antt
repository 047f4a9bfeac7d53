-- The H line: a line that holds a header is its text, and that text holds the header. No contract cites this file.
use mathlib.Core.Path.{◌≡◌, refl, sym, ap, subst, ◌∙◌}
use mathlib.Core.Bool.{Bool, true, false, cond}
use mathlib.Core.List.{List, [], ◌∷◌, ◌++◌}
use Prim.Native.Char.{code}
use Prim.Native.Nat.{ℕ, ◌<◌}
use native.Mathlib.Omega.{arith}
use lib.Dec.{leb→le}
use lib.IntN.{ℤ, pos, negsuc}
use lib.ListN.{length}
use lib.Signed.{lt_z}
use Rattle.numbers.specs.Ints.{minus, inside}
use Rattle.numbers.proofs.IntLaws.{inside_true}
use Rattle.types.specs.declared.Header.{Header}
use Rattle.types.specs.LineLimits.{share_most}
use Rattle.types.specs.LineColumns.{header_columns, default_columns}
use Rattle.types.specs.Ranges.{at_ℤ, header_fits, profiled}
use Rattle.types.proofs.RangeLaws.{HeaderIn, header_in_lem, profiled_fits, raw_share_in}
use Rattle.text.specs.Fields.{tab}
use Rattle.text.specs.Line.{line_of}
use Rattle.columns.specs.declared.Head.TheVariants.{Lettered}
use Rattle.columns.specs.Columns.{values, wrong}
use Rattle.columns.specs.Optional.{left_out, optional_line, written_by, optional_text}
use Rattle.columns.proofs.ColumnTrip.{tab_ends, AllKept, line_one}
use Rattle.columns.proofs.OptionalTrip.{OptionalKept, left, given, optional_read, optional_judged, optional_written}
use Rattle.lines.specs.Lines.{header_of, header_bad, header_out, header_line}
use Rattle.std.specs.Prelude.{Ok, Err}
use Rattle.text.specs.declared.LineFault.TheVariants.{Form, Range}

-- the raw numbers of a header
abbrev pub header_raw : Header → List ℤ
header_raw h = pos h.zones ∷ pos h.borders ∷ pos h.rows ∷ h.share ∷ []

abbrev pub header_text_of : Header → List ℕ
header_text_of h = optional_text tab (Lettered (code "H")) header_columns default_columns (header_raw h)

-- the default was left out, or given
raw_left : (ys : List ℤ) → AllKept header_columns ys → header_raw (header_of (ys ++ left_out 1)) ≡ ys ++ left_out 1
raw_left [] k = absurd k
raw_left (a ∷ []) k = absurd k.1
raw_left (a ∷ b ∷ []) k = absurd k.1.1
raw_left (a ∷ b ∷ c ∷ []) k = rw (← k.0.0, ← k.1.0.0, ← k.1.1.0.0)
raw_left (a ∷ b ∷ c ∷ d ∷ ys) k = absurd k.1.1.1

raw_given : (zs : List ℤ) → AllKept (header_columns ++ default_columns) zs → header_raw (header_of zs) ≡ zs
raw_given [] k = absurd k
raw_given (a ∷ []) k = absurd k.1
raw_given (a ∷ b ∷ []) k = absurd k.1.1
raw_given (a ∷ b ∷ c ∷ []) k = absurd k.1.1.1
raw_given (a ∷ b ∷ c ∷ d ∷ []) k = rw (← k.0.0, ← k.1.0.0, ← k.1.1.0.0)
raw_given (a ∷ b ∷ c ∷ d ∷ e ∷ zs) k = absurd k.1.1.1.1

raw_is : (zs : List ℤ) → OptionalKept header_columns default_columns zs → header_raw (header_of zs) ≡ zs
raw_is zs (left ys e k) = subst (λ (l : List ℤ). header_raw (header_of l) ≡ l) (sym e) (raw_left ys k)
raw_is zs (given k) = raw_given zs k

-- its numbers are those of the header
pub record Numbers (zs : List ℤ) : Type 0 where
  pub zones : at_ℤ zs 0 ≡ pos (header_of zs).zones
  pub borders : at_ℤ zs 1 ≡ pos (header_of zs).borders
  pub rows : at_ℤ zs 2 ≡ pos (header_of zs).rows

numbers_are : (zs : List ℤ) → OptionalKept header_columns default_columns zs → Numbers zs
numbers_are zs k =
    let e = sym (raw_is zs k) in
    record { zones = ap (λ (l : List ℤ). at_ℤ l 0) e; borders = ap (λ (l : List ℤ). at_ℤ l 1) e; rows = ap (λ (l : List ℤ). at_ℤ l 2) e }

pub header_read : (line : List ℕ) (h : Header) → header_line line ≡ Ok h → (line ≡ header_text_of h) × (header_fits h ≡ true)
unfolding header_line
header_read line h e =
    let j = optional_judged tab tab_ends refl (Lettered (code "H")) header_columns [] (λ zs. header_fits (header_of zs)) header_of (header_bad line) (header_out line) line h e in
    subst (λ (g : Header). (line ≡ header_text_of g) × (header_fits g ≡ true)) j.made
    (j.read.here ∙ ap (optional_text tab (Lettered (code "H")) header_columns default_columns) (sym (raw_is j.zs j.read.kept)), j.fit)

-- an H line does not say whether T lines follow
pub header_plain : (line : List ℕ) (h : Header) → header_line line ≡ Ok h → profiled h false ≡ h
unfolding header_line
header_plain line h e =
    let j = optional_judged tab tab_ends refl (Lettered (code "H")) header_columns [] (λ zs. header_fits (header_of zs)) header_of (header_bad line) (header_out line) line h e in
    subst (λ (g : Header). profiled g false ≡ g) j.made refl

module _ (line : List ℕ) where
  module _ (zs : List ℤ) (next : ℕ) (e : values zs next ≡ optional_line tab (Lettered (code "H")) header_columns default_columns line) where
    pub header_numbers : Numbers zs
    header_numbers = numbers_are zs (optional_read tab tab_ends refl (Lettered (code "H")) header_columns [] line zs next (sym e)).kept

    pub header_holds : header_fits (header_of zs) ≡ true → Ok (header_of zs) ≡ header_line line
    unfolding header_line
    header_holds f = rw (← e, f)

    pub header_range : header_fits (header_of zs) ≡ false → Err (Range (header_out line zs)) ≡ header_line line
    unfolding header_line
    header_range f = rw (← e, f)

  pub header_form : (place : ℕ) → wrong place ≡ optional_line tab (Lettered (code "H")) header_columns default_columns line → Err (Form (header_bad line)) ≡ header_line line
  unfolding header_line
  header_form place e = rw (← e)

module _ (h : Header) where
  kept : HeaderIn h → (r : ℤ) → inside (minus 1) (pos share_most) r ≡ true → OptionalKept header_columns default_columns (pos h.zones ∷ pos h.borders ∷ pos h.rows ∷ r ∷ [])
  kept i (pos n) e = given ((refl, omega (arith, i.zones_most_lem)), ((refl, omega (arith, i.borders_most_lem)), ((refl, omega (arith, i.rows_most_lem)), ((refl, omega (arith, (raw_share_in (pos n) e).abs)), tt))))
  kept i (negsuc n) e =
      let one : n ≡ 0 = omega (arith, leb→le n 0 (inside_true (minus 1) (pos share_most) (negsuc n) e).0.le) in
      left (pos h.zones ∷ pos h.borders ∷ pos h.rows ∷ []) (ap (λ (m : ℕ). pos h.zones ∷ pos h.borders ∷ pos h.rows ∷ negsuc m ∷ []) one)
      ((refl, omega (arith, i.zones_most_lem)), ((refl, omega (arith, i.borders_most_lem)), ((refl, omega (arith, i.rows_most_lem)), tt)))

  pub header_written : header_fits h ≡ true → header_line (header_text_of h) ≡ Ok (profiled h false)
  unfolding header_line
  header_written f =
      let i = header_in_lem h f in
      optional_written tab tab_ends refl (Lettered (code "H")) header_columns [] (λ zs. header_fits (header_of zs)) header_of (header_bad (header_text_of h)) (header_out (header_text_of h)) (header_raw h) tt (kept i h.share i.share)
      (profiled_fits h false f)

  some : (t : Bool) → 0 < length (cond t header_columns (header_columns ++ default_columns))
  some true = omega arith
  some false = omega arith

  pub header_one : (r : List ℕ) → line_of (header_text_of h ++ r) ≡ header_text_of h
  header_one r = line_one tab refl (Lettered (code "H")) (written_by header_columns default_columns (header_raw h)) (header_raw h) r (some (lt_z h.share (pos 0))) refl
