-- A loop that stores what each line of a section holds (`Stored`). No contract cites this file.
-- In order: lines put before a section; a section's first line; the loop.
use mathlib.Core.Path.{◌≡◌, refl, sym, ap, ◌∙◌}
use mathlib.Core.List.{List, [], ◌∷◌, ◌++◌}
use Prim.Native.Nat.{ℕ, suc, ◌+◌, ◌-◌, ◌≤◌, ◌<◌}
use native.Mathlib.Nat.{sub-zero}
use native.Mathlib.Numerals.{add-one}
use native.Mathlib.Omega.{arith}
use lib.ListN.{length, drop, take, set, length-set, length-drop}
use lib.Seq.{take-suc-set, take_all}
use Rattle.refusals.specs.declared.Refusal.{Refusal}
use Rattle.text.specs.Line.{line_at, after, Line, refusal_of}
use Rattle.text.proofs.LineLaws.{line_le_length}
use Rattle.sections.specs.Section.{Section, read, fault, more, on_line, lines_at}
use Rattle.std.specs.Prelude.{Ok, Err}
use Rattle.text.specs.declared.LineFault.{LineFault}

-- ---- lines put before a section
abbrev pub more_all : {A : Type 0} → List A → Section A → Section A
more_all [] b = b
more_all (a ∷ xs) b = more a (more_all xs b)

module _ {A : Type 0} where
  more-fault : (xs : List A) (w : Refusal) → more_all xs (fault w) ≡ fault w
  more-fault [] w = refl
  more-fault (a ∷ xs) w = ap (more a) (more-fault xs w)

  more-read : (xs : List A) (p : ℕ) → more_all xs (read [] p) ≡ read xs p
  more-read [] p = refl
  more-read (a ∷ xs) p = ap (more a) (more-read xs p)

  more-last : (xs : List A) (a : A) (b : Section A) → more_all (xs ++ (a ∷ [])) b ≡ more_all xs (more a b)
  more-last [] a b = refl
  more-last (x ∷ xs) a b = ap (more x) (more-last xs a b)

-- the place after a line is in the text
pub after_within : (text : List ℕ) (p : ℕ) → p ≤ length text → after text p ≤ length text
after_within text p h = omega (arith, line_le_length (drop p text), length-drop p text)

module _ {A : Type 0} (judge : List ℕ → ℕ → Line A) (first : ℕ) (text : List ℕ) where
  -- ---- a section's first line
  lines_first : (left rest p i : ℕ) → left ≡ suc rest → lines_at judge first left text p i ≡ on_line (judge (line_at text p) i) (first + i) (lines_at judge first rest text (after text p) (i + 1))
  unfolding lines_at
  lines_first left rest p i e = rw e

  lines_none : (left p i : ℕ) → left ≤ 0 → lines_at judge first left text p i ≡ read [] p
  unfolding lines_at
  lines_none left p i h =
      let e : left ≡ 0 = omega arith in
      rw e

  -- ---- the loop: the first i items are what the lines before place p hold
  pub record Stored (at : ℕ) (out₀ : List A) (n : ℕ) (out : List A) (i p : ℕ) : Type 0 where
    pub all : n ≡ length out₀
    pub as_long : length out ≡ length out₀
    pub high : i ≤ n
    pub within : p ≤ length text
    pub so_far : more_all (take i out) (lines_at judge first (n - i) text p i) ≡ lines_at judge first n text at 0

  module _ (at : ℕ) (out₀ : List A) where
    pub stored_none : at ≤ length text → Stored at out₀ (length out₀) out₀ 0 at
    stored_none h = record { all = refl; as_long = refl; high = omega arith; within = h; so_far = rw (sub-zero (length out₀)) refl }

    module _ (n : ℕ) (out : List A) (i p : ℕ) (u : Stored at out₀ n out i p) where
      pub stored_all : n ≤ i → read out p ≡ lines_at judge first (length out₀) text at 0
      stored_all h =
          let full : length out ≤ i = omega (arith, u.all, u.as_long) in
          rw (← u.all)
          (sym (more-read out p)
          ∙ rw (← take_all i out full, ← lines_none (n - i) p i (omega arith)) u.so_far)

      module _ (h : i < n) where
        stored-line : (r : Line A) → judge (line_at text p) i ≡ r → more_all (take i out) (on_line r (first + i) (lines_at judge first (n - (i + 1)) text (after text p) (i + 1))) ≡ lines_at judge first n text at 0
        stored-line r q =
            rw (← q, ← lines_first (n - i) (n - (i + 1)) p i (omega arith)) u.so_far

        pub stored_bad : (bad : LineFault) → judge (line_at text p) i ≡ Err bad → fault (refusal_of bad (first + i)) ≡ lines_at judge first (length out₀) text at 0
        stored_bad bad q = rw (← u.all) (sym (more-fault (take i out) (refusal_of bad (first + i))) ∙ stored-line (Err bad) q)

        pub stored_more : (a : A) → judge (line_at text p) i ≡ Ok a → Stored at out₀ n (set out i a) (i + 1) (after text p)
        stored_more a q =
            let rest = lines_at judge first (n - (i + 1)) text (after text p) (i + 1) in
            let l : i < length out = omega (arith, u.all, u.as_long) in
            record {
              all = u.all;
              as_long = length-set out i a ∙ u.as_long;
              high = omega arith;
              within = after_within text p u.within;
              so_far = ap (λ (m : ℕ). more_all (take m (set out i a)) rest) (add-one i)
                  ∙ ap (λ (l : List A). more_all l rest) (take-suc-set out i a l)
                  ∙ more-last (take i out) a rest
                  ∙ stored-line (Ok a) q;
            }
