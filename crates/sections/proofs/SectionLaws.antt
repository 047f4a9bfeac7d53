-- The laws of `specs/Section.antt`: the round trip of a section of lines. No contract cites this file.
use Prim.Native.Nat.{ℕ, zero, suc, ◌+◌}
use mathlib.Core.Path.{◌≡◌, refl, sym, ap, ap₂, subst, ◌∙◌}
use mathlib.Core.List.{List, [], ◌∷◌, ◌++◌, append_assoc}
use native.Mathlib.Nat.{add-zero}
use native.Mathlib.Omega.{arith}
use lib.ListN.{length, drop, length-append}
use lib.Seq.{drop-drop, drop-append_seam}
use Rattle.refusals.specs.declared.Refusal.{Refusal}
use Rattle.text.specs.Line.{line_of, Line, refusal_of}
use Rattle.text.proofs.LineLaws.{line_split}
use Rattle.sections.specs.Section.{Section, read, fault, on_line, lines_at}
use Rattle.std.specs.Prelude.{Ok, Err}

-- ---- round trips
pub read_is : {A : Type 0} (ws ys : List A) (m n : ℕ) → read ws m ≡ read ys n → (ws ≡ ys) × (m ≡ n)
read_is ws ys m n e = (cc, cc)

pub no_read : {A : Type 0} (w : Refusal) (ys : List A) (m : ℕ) → ◌≡◌ {A = Section A} (fault w) (read ys m) → ⊥
no_read {A} w ys m e = subst (λ (b : Section A). is b) e tt
  where
    is : Section A → Type 0
    is (read xs n) = ⊥
    is (fault w) = Unit {0}

module _ {A : Type 0} (text_of : ℕ → A → List ℕ) where
  abbrev pub section_text : ℕ → List A → List ℕ
  section_text i [] = []
  section_text i (a ∷ xs) = text_of i a ++ section_text (i + 1) xs

module _ {A : Type 0} (judge : List ℕ → ℕ → Line A) (first : ℕ) (text_of : ℕ → A → List ℕ) (Line-read : (line : List ℕ) (i : ℕ) (a : A) → judge line i ≡ Ok a → line ≡ text_of i a) where
  -- what was read is what stands there
  pub section_read : (n : ℕ) (text : List ℕ) (p i : ℕ) (xs : List A) (e : ℕ) → lines_at judge first n text p i ≡ read xs e → (drop p text ≡ section_text text_of i xs ++ drop e text) × (length xs ≡ n)
  unfolding lines_at
  section_read zero text p i xs e q =
      let w = read_is [] xs p e q in
      (rw (← w.1, ← w.0) refl, rw (← w.0) refl)
  section_read (suc n) text p i xs e q =
      go (λ ys h. section_read n text (p + length (line_of (drop p text))) (i + 1) ys e h) (judge (line_of (drop p text)) i) refl (lines_at judge first n text (p + length (line_of (drop p text))) (i + 1)) refl q
    where
      go : ((ys : List A) → lines_at judge first n text (p + length (line_of (drop p text))) (i + 1) ≡ read ys e → (drop (p + length (line_of (drop p text))) text ≡ section_text text_of (i + 1) ys ++ drop e text) × (length ys ≡ n))
          → (r : Line A) → judge (line_of (drop p text)) i ≡ r → (x : Section A) → lines_at judge first n text (p + length (line_of (drop p text))) (i + 1) ≡ x → on_line r (first + i) x ≡ read xs e
          → (drop p text ≡ section_text text_of i xs ++ drop e text) × (length xs ≡ suc n)
      go ih (Ok a) h (read ys m) k q =
          let w = read_is (a ∷ ys) xs m e q in
          let f = ih ys (k ∙ ap (read ys) w.1) in
          subst (λ (l : List A). (drop p text ≡ section_text text_of i l ++ drop e text) × (length l ≡ suc n)) w.0 (
            line_split (drop p text) ∙ ap (λ (l : List ℕ). line_of (drop p text) ++ l) (drop-drop (length (line_of (drop p text))) p text)
                ∙ ap₂ (λ (x y : List ℕ). x ++ y) (Line-read (line_of (drop p text)) i a h) f.0 ∙ sym (append_assoc (text_of i a) (section_text text_of (i + 1) ys) (drop e text)),
            ap suc f.1,
          )
      go ih (Ok a) h (fault w) k q = absurd (no_read w xs e q)
      go ih (Err bad) h x k q = absurd (no_read (refusal_of bad (first + i)) xs e q)

module _ {A : Type 0} (Fits : ℕ → A → Type 0) where
  abbrev pub AllFit : ℕ → List A → Type 0
  AllFit i [] = Unit {0}
  AllFit i (a ∷ xs) = Fits i a × AllFit (i + 1) xs

module _ {A : Type 0} (judge : List ℕ → ℕ → Line A) (first : ℕ) (text_of : ℕ → A → List ℕ) (Fits : ℕ → A → Type 0)
    (line_written : (i : ℕ) (a : A) → Fits i a → judge (text_of i a) i ≡ Ok a)
    (one_line : (i : ℕ) (a : A) (r : List ℕ) → line_of (text_of i a ++ r) ≡ text_of i a) where
  -- what is written reads back as it was
  pub section_written : (xs : List A) (text : List ℕ) (p i : ℕ) (r : List ℕ) → drop p text ≡ section_text text_of i xs ++ r → AllFit Fits i xs
      → lines_at judge first (length xs) text p i ≡ read xs (p + length (section_text text_of i xs))
  unfolding lines_at
  section_written [] text p i r here f = ap (read []) (sym (add-zero p))
  section_written (x ∷ xs) text p i r here f =
      let a : drop p text ≡ text_of i x ++ (section_text text_of (i + 1) xs ++ r) = here ∙ append_assoc (text_of i x) (section_text text_of (i + 1) xs) r in
      let l : line_of (drop p text) ≡ text_of i x = ap line_of a ∙ one_line i x (section_text text_of (i + 1) xs ++ r) in
      let d : drop (p + length (text_of i x)) text ≡ section_text text_of (i + 1) xs ++ r = sym (drop-drop (length (text_of i x)) p text) ∙ ap (drop (length (text_of i x))) a ∙ drop-append_seam (text_of i x) (section_text text_of (i + 1) xs ++ r) in
      let n : p + length (text_of i x) + length (section_text text_of (i + 1) xs) ≡ p + length (text_of i x ++ section_text text_of (i + 1) xs) = omega (arith, length-append (text_of i x) (section_text text_of (i + 1) xs)) in
      rw (l, line_written i x f.0, section_written xs text (p + length (text_of i x)) (i + 1) r d f.1) (ap (read (x ∷ xs)) n)
