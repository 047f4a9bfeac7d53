-- The laws of `specs/Alongside.antt`: a good sheet walked along with the day's text, as a loop over the rows (`Walked`). No contract cites this file.
use Rattle.std.specs.Prelude.{Ok}
use mathlib.Core.Path.{◌≡◌, refl, sym, ap, subst, ◌∙◌}
use mathlib.Core.Bool.{Bool, true, false, cond}
use mathlib.Core.List.{List, [], ◌∷◌}
use mathlib.Core.Logic.{⊎_elim}
use Prim.Native.Nat.{ℕ, ◌+◌, ◌≤◌, ◌<◌}
use native.Mathlib.Nat.{not-suc-le-zero}
use native.Mathlib.Omega.{arith}
use borrow.Author.Tests.{eqb-true, eqb-false, ne_eqb}
use lib.Dec.{eqb}
use lib.ListN.{length, drop, length-drop, drop_of_length-le}
use Rattle.numbers.proofs.BelowLaws.{le_or_lt}
use Rattle.text.specs.Fields.{number_at}
use Rattle.text.specs.Line.{line_of, line_at, after}
use Rattle.text.proofs.LineLaws.{line_le_length}
use Rattle.lines.specs.declared.row.RowKind.{RowKind}
use Rattle.lines.specs.declared.row.RowKind.TheVariants.{Table, Sheet}
use Rattle.corrections.specs.Corrections.{pieces, sheet_kind, Piece, piece, of_row, handed_on, judge_from, judge_corrections}
use Rattle.corrections.specs.Alongside.{piece_for, sheet_after}
use Rattle.corrections.proofs.PieceLaws.{pieces_at}
use Rattle.corrections.proofs.SheetLaws.{row_is, Split, split, joined_good, next_line}

no_line : (kind : RowKind) (i : ℕ) → of_row kind [] i ≡ false
unfolding of_row number_at
no_line Table i = refl
no_line Sheet i = refl

module _ (kind : RowKind) (zones rows : ℕ) where
  -- the lines before place s are of rows before i, those from it on of rows from i on
  pub record Walked (sheet : List ℕ) (s i : ℕ) : Type 0 where
    pub number : ℕ
    pub within : s ≤ length sheet
    pub same : (d : Piece) (k : ℕ) → i ≤ k → handed_on kind (pieces sheet) d k ≡ handed_on kind (pieces (drop s sheet)) d k
    pub good : judge_from kind zones rows i number (pieces (drop s sheet)) ≡ Ok tt

  pub walked_start : (sheet : List ℕ) → kind ≡ sheet_kind sheet → judge_corrections zones rows sheet ≡ Ok tt → Walked sheet 0 0
  walked_start sheet is e = record { number = 1; within = omega arith; same = λ d k h. refl; good = ap (λ (k : RowKind). judge_from k zones rows 0 1 (pieces sheet)) is ∙ e }

  module _ (sheet : List ℕ) (s i : ℕ) (u : Walked sheet s i) where
    at-end : length sheet ≤ s → (line_at sheet s ≡ []) × (pieces (drop s sheet) ≡ [])
    at-end h = let e = drop_of_length-le sheet h in (ap line_of e, ap pieces e)

    pub walked_line : (day : Piece) → piece_for kind (line_at sheet s) day i ≡ handed_on kind (pieces sheet) day i
    walked_line day =
        ⊎_elim
        (λ h. let e = at-end h in
        ap (λ (l : List ℕ). cond (of_row kind l i) (piece kind l) day) e.0
        ∙ ap (λ (v : Bool). cond v (piece kind []) day) (no_line kind i)
        ∙ sym (u.same day i (omega arith) ∙ ap (λ (ls : List (List ℕ)). handed_on kind ls day i) e.1))
        (λ h. let e = pieces_at sheet s h in
        next_line kind zones rows i u.number (line_at sheet s) (pieces (drop (after sheet s) sheet)) (subst (λ (ls : List (List ℕ)). judge_from kind zones rows i u.number ls ≡ Ok tt) e u.good) day
        ∙ sym (u.same day i (omega arith) ∙ ap (λ (ls : List (List ℕ)). handed_on kind ls day i) e))
        (le_or_lt (length sheet) s)

    pub walked_more : Walked sheet (sheet_after kind (line_at sheet s) s i) (i + 1)
    walked_more = ⊎_elim ended going (le_or_lt (length sheet) s)
      where
        stay : of_row kind (line_at sheet s) i ≡ false → judge_from kind zones rows (i + 1) u.number (pieces (drop s sheet)) ≡ Ok tt → Walked sheet (sheet_after kind (line_at sheet s) s i) (i + 1)
        stay q e =
            subst (λ (v : Bool). Walked sheet (cond v (after sheet s) s) (i + 1)) (sym q)
            (record { number = u.number; within = u.within; same = λ d k h. u.same d k (omega arith); good = e })

        ended : length sheet ≤ s → Walked sheet (sheet_after kind (line_at sheet s) s i) (i + 1)
        ended h = let e = at-end h in stay (ap (λ (l : List ℕ). of_row kind l i) e.0 ∙ no_line kind i) (ap (judge_from kind zones rows (i + 1) u.number) e.1)

        going : s < length sheet → Walked sheet (sheet_after kind (line_at sheet s) s i) (i + 1)
        going h = by_row (eqb w.first.index i) refl
          where
            line : List ℕ
            line = line_at sheet s

            rest : List (List ℕ)
            rest = pieces (drop (after sheet s) sheet)

            e : pieces (drop s sheet) ≡ line ∷ rest
            e = pieces_at sheet s h

            w : Split kind zones rows i u.number line rest
            w = split kind zones rows i u.number line rest (subst (λ (ls : List (List ℕ)). judge_from kind zones rows i u.number ls ≡ Ok tt) e u.good)

            by_row : (v : Bool) → eqb w.first.index i ≡ v → Walked sheet (sheet_after kind (line_at sheet s) s i) (i + 1)
            by_row true q =
                subst (λ (v : Bool). Walked sheet (cond v (after sheet s) s) (i + 1)) (sym (row_is w.first i ∙ q))
                (record {
                  number = u.number + 1;
                  within = omega (arith, line_le_length (drop s sheet), length-drop s sheet);
                  same = λ d k l.
                      let other : of_row kind line k ≡ false = row_is w.first k ∙ ne_eqb w.first.index k (λ r. not-suc-le-zero {n = 0} (omega (arith, r, eqb-true w.first.index i q))) in
                      u.same d k (omega arith) ∙ ap (λ (ls : List (List ℕ)). handed_on kind ls d k) e ∙ ap (λ (v : Bool). cond v (piece kind line) (handed_on kind rest d k)) other;
                  good = subst (λ (n : ℕ). judge_from kind zones rows (n + 1) (u.number + 1) rest ≡ Ok tt) (eqb-true w.first.index i q) w.others;
                })
            by_row false q =
                stay (row_is w.first i ∙ q)
                (ap (judge_from kind zones rows (i + 1) u.number) e
                ∙ joined_good kind zones rows i u.number line rest w (i + 1) (omega (arith, w.first.low, eqb-false w.first.index i q)))
