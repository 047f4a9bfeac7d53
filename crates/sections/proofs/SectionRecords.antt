-- More laws of `specs/Section.antt`: what a section of lines that was read says of each record, and that lines written by index are the lines of a list. No contract cites this file.
use Rattle.std.specs.Prelude.{Ok}
use Prim.Native.Nat.{ℕ, zero, suc, ◌+◌, ◌≤◌, ◌<◌}
use mathlib.Core.Path.{◌≡◌, refl, sym, ap, ap₂, subst, ◌∙◌}
use mathlib.Core.List.{List, [], ◌∷◌, ◌++◌}
use native.Mathlib.Nat.{add-zero, not-suc-le-zero}
use native.Mathlib.Omega.{arith}
use lib.ListN.{length, get_or, drop}
use lib.Seq.{drop-drop, drop-append_seam}
use Rattle.refusals.specs.Refusals.{Judged}
use Rattle.refusals.proofs.RefusalLaws.{not_passed}
use Rattle.text.specs.Line.{line_of, line_at, after, Line, refusal_of}
use Rattle.text.specs.Written.{lines_text}
use Rattle.sections.specs.Section.{Section, read, fault, on_line, lines_at, with_lines}
use Rattle.sections.proofs.StoredLaws.{after_within}
use Rattle.sections.proofs.SectionLaws.{read_is, no_read, section_text, AllFit, section_written}
use Rattle.std.specs.Prelude.{Ok, Err}

-- ---- what was read: as many records as lines, each as its judge accepted it
module _ {A : Type 0} (judge : List ℕ → ℕ → Line A) (first : ℕ) (Fits : ℕ → A → Type 0) (line-fits : (line : List ℕ) (i : ℕ) (a : A) → judge line i ≡ Ok a → Fits i a) where
  pub section_fits : (n : ℕ) (text : List ℕ) (p i : ℕ) (xs : List A) (e : ℕ) → lines_at judge first n text p i ≡ read xs e → (length xs ≡ n) × AllFit Fits i xs
  unfolding lines_at
  section_fits zero text p i xs e q = let w = read_is [] xs p e q in rw (← w.0) (refl, tt)
  section_fits (suc n) text p i xs e q = go (section_fits n text (after text p) (i + 1)) (judge (line_at text p) i) refl (lines_at judge first n text (after text p) (i + 1)) refl q
    where
      go : ((ys : List A) (m : ℕ) → lines_at judge first n text (after text p) (i + 1) ≡ read ys m → (length ys ≡ n) × AllFit Fits (i + 1) ys)
          → (r : Line A) → judge (line_at text p) i ≡ r → (x : Section A) → lines_at judge first n text (after text p) (i + 1) ≡ x → on_line r (first + i) x ≡ read xs e → (length xs ≡ suc n) × AllFit Fits i xs
      go ih (Ok a) h (read ys m) k q =
          let w = read_is (a ∷ ys) xs m e q in
          let f = ih ys m k in
          subst (λ (l : List A). (length l ≡ suc n) × AllFit Fits i l) w.0 (ap suc f.0, (line-fits (line_at text p) i a h, f.1))
      go ih (Ok a) h (fault w) k q = absurd (no_read w xs e q)
      go ih (Err bad) h x k q = absurd (no_read (refusal_of bad (first + i)) xs e q)

module _ {A : Type 0} (judge : List ℕ → ℕ → Line A) (first : ℕ) where
  pub section_long : (n : ℕ) (text : List ℕ) (p i : ℕ) (xs : List A) (e : ℕ) → lines_at judge first n text p i ≡ read xs e → length xs ≡ n
  section_long n text p i xs e q = (section_fits judge first (λ i a. Unit {0}) (λ line i a h. tt) n text p i xs e q).0

  -- a section that was read ends in the text
  pub section_within : (n : ℕ) (text : List ℕ) (p i : ℕ) (xs : List A) (e : ℕ) → p ≤ length text → lines_at judge first n text p i ≡ read xs e → e ≤ length text
  unfolding lines_at
  section_within zero text p i xs e h q = rw (← (read_is [] xs p e q).1) h
  section_within (suc n) text p i xs e h q =
      go (judge (line_at text p) i) (lines_at judge first n text (after text p) (i + 1)) (λ ys m r. section_within n text (after text p) (i + 1) ys m (after_within text p h) r) q
    where
      go : (r : Line A) (x : Section A) → ((ys : List A) (m : ℕ) → x ≡ read ys m → m ≤ length text) → on_line r (first + i) x ≡ read xs e → e ≤ length text
      go (Ok a) (read ys m) ih q = rw (← (read_is (a ∷ ys) xs m e q).1) (ih ys m refl)
      go (Ok a) (fault w) ih q = absurd (no_read w xs e q)
      go (Err bad) x ih q = absurd (no_read (refusal_of bad (first + i)) xs e q)

-- ---- lines judged alike
module _ {A : Type 0} (judge other : List ℕ → ℕ → Line A) (same : (line : List ℕ) (i : ℕ) → judge line i ≡ other line i) (first : ℕ) where
  pub section_same : (n : ℕ) (text : List ℕ) (p i : ℕ) → lines_at judge first n text p i ≡ lines_at other first n text p i
  unfolding lines_at
  section_same zero text p i = refl
  section_same (suc n) text p i = ap₂ (λ (l : Line A) (b : Section A). on_line l (first + i) b) (same (line_at text p) i) (section_same n text (after text p) (i + 1))

-- ---- what fits each record, and what fits the list of them
module _ {A : Type 0} (Fits : ℕ → A → Type 0) (d : A) where
  pub fits_at : (xs : List A) (i : ℕ) → AllFit Fits i xs → (k : ℕ) → k < length xs → Fits (i + k) (get_or xs k d)
  fits_at [] i f k h = absurd (not-suc-le-zero h)
  fits_at (x ∷ xs) i f zero h = rw (add-zero i) f.0
  fits_at (x ∷ xs) i f (suc k) h = subst (λ (j : ℕ). Fits j (get_or xs k d)) (omega arith) (fits_at xs (i + 1) f.1 k (omega arith))

  pub fits_all : (xs : List A) (i : ℕ) → ((k : ℕ) → k < length xs → Fits (i + k) (get_or xs k d)) → AllFit Fits i xs
  fits_all [] i h = tt
  fits_all (x ∷ xs) i h = (rw (add-zero i) at (h 0 (omega arith)), fits_all xs (i + 1) (λ k l. subst (λ (j : ℕ). Fits j (get_or xs k d)) (omega arith) (h (suc k) (omega arith))))

-- ---- lines written by index are the lines of a list
module _ {A : Type 0} (text_of : ℕ → A → List ℕ) (d : A) where
  pub lines_section : (xs : List A) (i : ℕ) (line : ℕ → List ℕ) → ((k : ℕ) → k < length xs → line (i + k) ≡ text_of (i + k) (get_or xs k d)) → lines_text (length xs) i line ≡ section_text text_of i xs
  unfolding lines_text
  lines_section [] i line h = refl
  lines_section (x ∷ xs) i line h =
      ap₂ (λ (a b : List ℕ). a ++ b)
      (subst (λ (k : ℕ). line k ≡ text_of k x) (add-zero i) (h 0 (omega arith)))
      (lines_section xs (i + 1) line (λ k l. subst (λ (j : ℕ). line j ≡ text_of j (get_or xs k d)) (omega arith) (h (suc k) (omega arith))))

-- ---- what follows a section that passed, over the records and the place as variables
pub lines_then : {A B P : Type 0} (b : B) (x : Section A) (f : List A → ℕ → Judged B) → with_lines x f ≡ Ok b → ((xs : List A) (next : ℕ) → x ≡ read xs next → f xs next ≡ Ok b → P) → P
lines_then b (read xs next) f e k = k xs next refl e
lines_then b (fault w) f e k = absurd (not_passed w b e)

-- ---- what follows lines that are written
module _ {A B : Type 0} (judge : List ℕ → ℕ → Line A) (first : ℕ) (text_of : ℕ → A → List ℕ) (Fits : ℕ → A → Type 0)
    (line_written : (i : ℕ) (a : A) → Fits i a → judge (text_of i a) i ≡ Ok a)
    (one_line : (i : ℕ) (a : A) (r : List ℕ) → line_of (text_of i a ++ r) ≡ text_of i a) where
  pub lines_goes : (f : List A → ℕ → Judged B) (g : Judged B) (xs : List A) (n : ℕ) (text : List ℕ) (p : ℕ) (r : List ℕ) → length xs ≡ n → drop p text ≡ section_text text_of 0 xs ++ r → AllFit Fits 0 xs
      → ((next : ℕ) → drop next text ≡ r → f xs next ≡ g) → with_lines (lines_at judge first n text p 0) f ≡ g
  lines_goes f g xs n text p r long here fits k =
      rw (← long, section_written judge first text_of Fits line_written one_line xs text p 0 r here fits)
      (k (p + length (section_text text_of 0 xs)) (sym (drop-drop (length (section_text text_of 0 xs)) p text) ∙ ap (drop (length (section_text text_of 0 xs))) here ∙ drop-append_seam (section_text text_of 0 xs) r))
