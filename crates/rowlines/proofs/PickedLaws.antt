-- C lines with a good correction sheet of either kind (02, E2): as the day's text has them, as they are handed on, and as they are read (`corrected_by`): the day's fault, or else
-- what is handed on. No contract cites this file.
use Rattle.std.specs.Prelude.{Ok}
use mathlib.Core.Path.{◌≡◌, refl, sym, ap, ◌∙◌}
use mathlib.Core.List.{List, [], ◌∷◌}
use Prim.Native.Nat.{ℕ, zero, suc, ◌+◌}
use Rattle.refusals.specs.declared.Refusal.{Refusal}
use Rattle.text.specs.Line.{line_at, after, Line, refusal_of}
use Rattle.sections.specs.Section.{Section, read, fault, more, on_line, lines_at}
use Rattle.sections.proofs.SectionLaws.{no_read, read_is}
use Rattle.lines.specs.Lines.{RowLine, row_line}
use Rattle.lines.specs.declared.row.RowKind.TheVariants.{Table}
use Rattle.corrections.specs.Corrections.{pieces, sheet_kind, piece, handed_by, judge_corrections}
use Rattle.corrections.proofs.SheetLaws.{handed_good}
use Rattle.rowlines.specs.Rows.{picked_row, instead, corrected_by}
use Rattle.std.specs.Prelude.{Ok, Err}

-- a section that was read, and ended at place e
pub record SectionRead {A : Type 0} (b : Section A) (e : ℕ) : Type 0 where
  pub held : List A
  pub is : b ≡ read held e

-- a section's fault, or else what another comes to
abbrev follows : Section RowLine → Section RowLine → Section RowLine
follows (read xs next) other = other
follows (fault w) other = fault w

more_follows : (a b : RowLine) (x y : Section RowLine) → more b (follows x y) ≡ follows (more a x) (more b y)
more_follows a b (read xs next) y = refl
more_follows a b (fault w) y = refl

module _ (zones rows : ℕ) (sheet : List ℕ) (good : judge_corrections zones rows sheet ≡ Ok tt) (first : ℕ) (text : List ℕ) where
  abbrev merged : List ℕ → ℕ → Line RowLine
  merged = picked_row zones (handed_by sheet)

  abbrev day : (n p i : ℕ) → Section RowLine
  day n p i = lines_at (row_line zones) first n text p i

  abbrev handed : (n p i : ℕ) → Section RowLine
  handed n p i = lines_at merged first n text p i

  abbrev both : (n p i : ℕ) → Section RowLine
  both n p i = lines_at (corrected_by Table zones (handed_by sheet)) first n text p i

  -- rows that the day's text has are handed on good, and end where they ended
  pub picked_read : (n p i : ℕ) (xs : List RowLine) (e : ℕ) → day n p i ≡ read xs e → SectionRead (handed n p i) e
  unfolding lines_at
  picked_read zero p i xs e q = record { held = []; is = ap (read []) (read_is [] xs p e q).1 }
  picked_read (suc n) p i xs e q = go (row_line zones (line_at text p) i) refl (day n (after text p) (i + 1)) (handed n (after text p) (i + 1)) (picked_read n (after text p) (i + 1)) q
    where
      go : (l : Line RowLine) → row_line zones (line_at text p) i ≡ l → (x y : Section RowLine) → ((ys : List RowLine) (d : ℕ) → x ≡ read ys d → SectionRead y d)
          → on_line l (first + i) x ≡ read xs e → SectionRead (on_line (merged (line_at text p) i) (first + i) y) e
      go (Ok a) k (read ys d) y ih q =
          let h = handed_good (sheet_kind sheet) zones rows 0 1 (pieces sheet) good (piece Table (line_at text p)) i (record { it = a; is = k }) in
          let r = ih ys d refl in
          record {
            held = h.it ∷ r.held;
            is = ap (λ (m : Line RowLine). on_line m (first + i) y) h.is ∙ ap (more h.it) r.is ∙ ap (read (h.it ∷ r.held)) (read_is (a ∷ ys) xs d e q).1;
          }
      go (Ok a) k (fault w) y ih q = absurd (no_read w xs e q)
      go (Err bad) k x y ih q = absurd (no_read (refusal_of bad (first + i)) xs e q)

  both-follows : (n p i : ℕ) → both n p i ≡ follows (day n p i) (handed n p i)
  unfolding lines_at
  both-follows zero p i = refl
  both-follows (suc n) p i = go (row_line zones (line_at text p) i) refl (both n (after text p) (i + 1)) (day n (after text p) (i + 1)) (handed n (after text p) (i + 1)) (both-follows n (after text p) (i + 1))
    where
      go : (l : Line RowLine) → row_line zones (line_at text p) i ≡ l → (b x y : Section RowLine) → b ≡ follows x y
          → on_line (instead l (merged (line_at text p) i)) (first + i) b ≡ follows (on_line l (first + i) x) (on_line (merged (line_at text p) i) (first + i) y)
      go (Ok a) k b x y ih =
          let h = handed_good (sheet_kind sheet) zones rows 0 1 (pieces sheet) good (piece Table (line_at text p)) i (record { it = a; is = k }) in
          ap (on_line (merged (line_at text p) i) (first + i)) ih
          ∙ ap (λ (m : Line RowLine). on_line m (first + i) (follows x y)) h.is
          ∙ more_follows a h.it x y
          ∙ ap (λ (m : Line RowLine). follows (more a x) (on_line m (first + i) y)) (sym h.is)
      go (Err bad) k b x y ih = refl

  -- what reading them says of the day's lines, and of those handed on
  pub both_fault : (n p i : ℕ) (w : Refusal) → both n p i ≡ fault w → day n p i ≡ fault w
  both_fault n p i w q = go (day n p i) refl (sym (both-follows n p i) ∙ q)
    where
      go : (b : Section RowLine) → day n p i ≡ b → follows b (handed n p i) ≡ fault w → day n p i ≡ fault w
      go (read xs e) k r = let m = picked_read n p i xs e k in absurd (no_read w m.held e (sym r ∙ m.is))
      go (fault v) k r = k ∙ r

  pub both_read : (n p i : ℕ) (xs : List RowLine) (e : ℕ) → both n p i ≡ read xs e → SectionRead (day n p i) e × (handed n p i ≡ read xs e)
  both_read n p i xs e q = go (day n p i) refl (sym (both-follows n p i) ∙ q)
    where
      go : (b : Section RowLine) → day n p i ≡ b → follows b (handed n p i) ≡ read xs e → SectionRead (day n p i) e × (handed n p i ≡ read xs e)
      go (read ys d) k r =
          let m = picked_read n p i ys d k in
          (record { held = ys; is = k ∙ ap (read ys) (read_is m.held xs d e (sym m.is ∙ r)).1 }, r)
      go (fault v) k r = absurd (no_read v xs e r)
