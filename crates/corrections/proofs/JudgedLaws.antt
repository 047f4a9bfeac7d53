-- A sheet judged line by line, as a loop: `SheetLeft` says that what is left of it comes to what the whole comes to. No contract cites this file.
use Rattle.std.specs.Prelude.{Err, Ok}
use mathlib.Core.Path.{◌≡◌, sym, ap, subst, ◌∙◌}
use mathlib.Core.List.{List, ◌∷◌}
use Prim.Native.Nat.{ℕ, ◌+◌, ◌≤◌, ◌<◌}
use native.Mathlib.Omega.{arith}
use lib.ListN.{length, drop, length-drop, drop_of_length-le}
use Rattle.refusals.specs.Refusals.{wrong_correction}
use Rattle.text.specs.Line.{line_at, after, Line, byte_of}
use Rattle.text.proofs.LineLaws.{line_le_length}
use Rattle.lines.specs.Lines.{RowLine}
use Rattle.lines.specs.SaidRow.{line_by}
use Rattle.lines.specs.declared.row.RowKind.{RowKind}
use Rattle.corrections.specs.Corrections.{pieces, sheet_kind, due_index, on_correction, judge_from, judge_corrections}
use Rattle.corrections.proofs.PieceLaws.{pieces_at, line_some}
use Rattle.std.specs.Prelude.{Ok, Err}
use Rattle.text.specs.declared.LineFault.{LineFault}

-- no line is empty, so that there are not more of them than bytes
pub record SheetLeft (kind : RowKind) (zones rows : ℕ) (sheet : List ℕ) (s least number : ℕ) : Type 0 where
  pub within : s ≤ length sheet
  pub few : number ≤ s + 1
  pub rest : judge_from kind zones rows least number (pieces (drop s sheet)) ≡ judge_corrections zones rows sheet

pub left_start : (kind : RowKind) (zones rows : ℕ) (sheet : List ℕ) → kind ≡ sheet_kind sheet → SheetLeft kind zones rows sheet 0 0 1
left_start kind zones rows sheet is = record { within = omega arith; few = omega arith; rest = ap (λ (k : RowKind). judge_from k zones rows 0 1 (pieces sheet)) is }

module _ (kind : RowKind) (zones rows : ℕ) (sheet : List ℕ) (s least number : ℕ) (u : SheetLeft kind zones rows sheet s least number) where
  pub left_all : length sheet ≤ s → Ok tt ≡ judge_corrections zones rows sheet
  left_all h = sym (ap (λ (l : List ℕ). judge_from kind zones rows least number (pieces l)) (drop_of_length-le sheet h)) ∙ u.rest

  module _ (h : s < length sheet) (line : List ℕ) (is : line ≡ line_at sheet s) (i : ℕ) (due : i ≡ due_index kind rows least line) where
    step : (l : Line RowLine) → line_by kind zones line i ≡ l → on_correction l number (judge_from kind zones rows (i + 1) (number + 1) (pieces (drop (after sheet s) sheet))) ≡ judge_corrections zones rows sheet
    step l q =
        ap (λ (m : Line RowLine). on_correction m number (judge_from kind zones rows (i + 1) (number + 1) (pieces (drop (after sheet s) sheet)))) (sym q)
        ∙ ap (λ (k : ℕ). on_correction (line_by kind zones line k) number (judge_from kind zones rows (k + 1) (number + 1) (pieces (drop (after sheet s) sheet)))) due
        ∙ ap (λ (x : List ℕ). judge_from kind zones rows least number (x ∷ pieces (drop (after sheet s) sheet))) is
        ∙ sym (ap (judge_from kind zones rows least number) (pieces_at sheet s h)) ∙ u.rest

    pub left_bad : (bad : LineFault) → line_by kind zones line i ≡ Err bad → Err (wrong_correction number (byte_of bad)) ≡ judge_corrections zones rows sheet
    left_bad bad q = step (Err bad) q

    pub left_more : (c : RowLine) → line_by kind zones line i ≡ Ok c → SheetLeft kind zones rows sheet (s + length line) (i + 1) (number + 1)
    left_more c q =
        subst (λ (l : List ℕ). SheetLeft kind zones rows sheet (s + length l) (i + 1) (number + 1)) (sym is)
        (record {
          within = omega (arith, line_le_length (drop s sheet), length-drop s sheet);
          few = omega (arith, u.few, line_some sheet s h);
          rest = step (Ok c) q;
        })
