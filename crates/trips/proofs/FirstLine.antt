-- The first line of a section that was read: what it holds, and the section of the others. No contract cites this file.
use mathlib.Core.Path.{◌≡◌, refl, ap, ◌∙◌}
use mathlib.Core.List.{List, ◌∷◌}
use Prim.Native.Nat.{ℕ, suc, ◌+◌}
use Rattle.text.specs.Line.{line_at, after, Line, refusal_of}
use Rattle.sections.specs.Section.{Section, read, fault, on_line, lines_at}
use Rattle.sections.proofs.SectionLaws.{read_is, no_read}
use Rattle.std.specs.Prelude.{Ok, Err}

module _ (text : List ℕ) where
  pub record FirstLine {A : Type 0} (judge : List ℕ → ℕ → Line A) (first n p i : ℕ) (xs : List A) (e : ℕ) : Type 0 where
    pub it : A
    pub others : List A
    pub is : it ∷ others ≡ xs
    pub held : judge (line_at text p) i ≡ Ok it
    pub rest : lines_at judge first n text (after text p) (i + 1) ≡ read others e

  pub first_line : {A : Type 0} (judge : List ℕ → ℕ → Line A) (first n p i : ℕ) (xs : List A) (e : ℕ) → lines_at judge first (suc n) text p i ≡ read xs e → FirstLine judge first n p i xs e
  unfolding lines_at
  first_line {A} judge first n p i xs e q = go (judge (line_at text p) i) refl (lines_at judge first n text (after text p) (i + 1)) refl q
    where
      go : (l : Line A) → judge (line_at text p) i ≡ l → (x : Section A) → lines_at judge first n text (after text p) (i + 1) ≡ x → on_line l (first + i) x ≡ read xs e → FirstLine judge first n p i xs e
      go (Ok a) h (read ys m) k q = let w = read_is (a ∷ ys) xs m e q in record { it = a; others = ys; is = w.0; held = h; rest = k ∙ ap (read ys) w.1 }
      go (Ok a) h (fault w) k q = absurd (no_read w xs e q)
      go (Err bad) h x k q = absurd (no_read (refusal_of bad (first + i)) xs e q)
