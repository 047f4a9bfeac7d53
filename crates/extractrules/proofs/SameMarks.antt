-- Marks that agree below the number of borders (02, E13) make the same grid, judgement and cells. No contract cites this file.
use Rattle.std.specs.Prelude.{Ok, Option}
use mathlib.Core.Path.{◌≡◌, ap, ap₂}
use mathlib.Core.Bool.{Bool, true, cond, not, ◌&&◌}
use mathlib.Core.List.{List, []}
use Prim.Native.Nat.{ℕ, ◌≤◌, ◌<◌}
use native.Mathlib.Omega.{arith}
use lib.Dec.{ltb}
use lib.IntN.{ℤ}
use lib.ListN.{length, take}
use Rattle.numbers.specs.Below.{first_from, given, some_below, all_below}
use Rattle.numbers.proofs.BelowLaws.{first_cong}
use Rattle.numbers.proofs.TestLaws.{all_true_lem}
use Rattle.limits.specs.Limits.{borders_most}
use Rattle.refusals.specs.Refusals.{unless, refuse_at, refuse_first, no_row, unlimited, below_zero}
use Rattle.types.specs.declared.Header.{Header}
use Rattle.marks.specs.Marks.{flags_of, flagged}
use Rattle.marks.proofs.MarkLaws.{flags_tell}
use Rattle.setup.specs.Setup.{Setup, grid_by, free_by, low_by, judge_by}
use Rattle.staterules.specs.States.{kept}
use Rattle.extractrules.specs.Start.{every, grid_of, setup_with}
use Rattle.extractrules.specs.Filled.{cells}
use Rattle.extractrules.proofs.StartLaws.{cells_cong}

-- a setup with other marks
abbrev pub marking : Setup → (marked : ℕ → Bool) → Setup
marking s marked = record { rows = s.rows; borders = s.borders; takes = s.takes; marked = marked; p = s.p; margin = s.margin; strict = s.strict; from = s.from }

module _ (s : Setup) (f : ℕ → Bool) (e : (b : ℕ) → b < s.borders → f b ≡ s.marked b) where
  pub p_marks : (i b : ℕ) → b < s.borders → (grid_by (marking s f)).p i b ≡ (grid_by s).p i b
  unfolding grid_by
  p_marks i b h = ap (λ (m : Bool). cond (m && s.takes i) (s.p i b) 0) (e b h)

  pub cells_marks : cells (grid_by (marking s f)) ≡ cells (grid_by s)
  unfolding grid_by
  cells_marks = cells_cong s.rows s.borders (grid_by (marking s f)).p (grid_by s).p (λ i b hi hb. p_marks i b hb)

  free-marks : first_from s.borders 0 (free_by (marking s f)) ≡ first_from s.borders 0 (free_by s)
  free-marks =
      first_cong s.borders (free_by (marking s f)) (free_by s)
      (λ b h. ap₂ (λ (m : Bool) (o : Option ℕ). m && not (given o)) (e b h)
      (first_cong s.rows (λ i. ltb 0 ((grid_by (marking s f)).p i b)) (λ i. ltb 0 ((grid_by s).p i b)) (λ i l. ap (ltb 0) (p_marks i b h))))

  pub judge_marks_lem : {A : Type 0} (a : A) → judge_by (marking s f) a ≡ judge_by s a
  unfolding judge_by refuse_first
  judge_marks_lem {A} a =
      ap (λ (o : Option ℕ). unless (some_below s.rows s.takes) no_row (refuse_at o unlimited (refuse_first s.rows (low_by s) below_zero (Ok a)))) free-marks

-- ---- the cells of a table with flags
module _ (h : Header) (b : List (List ℤ)) (f : List ℤ) (states : List ℕ) where
  cells_agree : (m m' : ℕ → Bool) → ((k : ℕ) → k < h.borders → m k ≡ m' k) → cells (grid_of m h b f states) ≡ cells (grid_of m' h b f states)
  unfolding grid_of setup_with
  cells_agree m m' e = cells_marks (setup_with (kept states) m' h b f []) m e

  -- flags that are all set
  pub cells_all : (flags : List ℕ) → length flags ≡ h.borders → all_below (length flags) (flagged flags) ≡ true → cells (grid_of (flagged flags) h b f states) ≡ cells (grid_of every h b f states)
  cells_all flags long e = cells_agree (flagged flags) every (λ k l. all_true_lem (length flags) (flagged flags) e k (omega arith))

  -- flags that are made for every border
  pub cells_every : (marks : List ℕ) {flags : List ℕ} → flags ≡ flags_of borders_most true marks → h.borders ≤ borders_most
      → cells (grid_of (flagged (take h.borders flags)) h b f states) ≡ cells (grid_of every h b f states)
  cells_every marks {flags} e few = cells_agree (flagged (take h.borders flags)) every (flags_tell true marks h.borders e few)
