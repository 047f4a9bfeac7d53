-- `rowlines::row_corrected` meets its contract: the sheet has no line for the row, or the day's line is faulty, or the sheet's is read; one law of `RowLaws` for each.
use mathlib.Core.Path.{◌≡◌, sym, ap, ◌∙◌}
use mathlib.Core.Logic.{◌⊎◌, inl, inr}
use mathlib.Core.List.{List}
use Prim.Native.Nat.{ℕ}
use native.Mathlib.Omega.{arith}
use borrow.Author.Tests.{not-true, not-false}
use lib.ListN.{length}
use Rattle.lines.specs.SaidRow.{line_by}
use Rattle.rowlines.proofs.RowLaws.{own_handed, handed_holds, handed_bad}
use Rattle.rowlines.proofs.row_corrected.Goals as goal
use Rattle.std.proofs.lemmas.Result.{err_from_is_err_and}

pub returns-then-not-of_row : goal.returns-then-not-of_row
returns-then-not-of_row c = c.row_read.ensures
    ∙ ap (λ (l : List ℕ). line_by c.args.kind (length c.args.f.now) l c.args.i) c.row_line-line.ensures
    ∙ own_handed c.args.kind c.args.by (length c.args.f.now) c.args.next.now c.args.day.now c.args.i (sym c.of_row.ensures ∙ not-true _ c.if-not-of_row.true-raw)

pub returns-in_err-row_read : goal.returns-in_err-row_read
returns-in_err-row_read c =
    let p = err_from_is_err_and c.from_residual.result c.from_residual.ensures.1 in
    rw (p.1, p.2)
    (handed_bad c.args.kind c.args.by (length c.args.f.now) c.args.next.now c.args.day.now c.args.i _ _ c.row_read-2.ensures c.in_err-row_read.was)

pub row_read-requires-3 : goal.row_read-requires-3
row_read-requires-3 c = (omega (arith, c.requires, c.row_read-2.auto.f), omega (arith, c.requires, c.row_read-2.auto.f))

pub shape_of-f : goal.shape_of-f
shape_of-f c = c.row_read-3.auto.f ∙ c.row_read-2.auto.f

pub returns : goal.returns
returns c = c.row_read-3.ensures
    ∙ ap (λ (n : ℕ). line_by c.args.by n c.row_line-line.result.now c.args.i) c.row_read-2.auto.f
    ∙ ap (λ (l : List ℕ). line_by c.args.by (length c.args.f.now) l c.args.i) c.row_line-line.ensures
    ∙ handed_holds c.args.kind c.args.by (length c.args.f.now) c.args.next.now c.args.day.now c.args.i _ _ c.row_read-2.ensures (sym c.of_row.ensures ∙ not-false _ c.if-not-of_row.false-raw) c.in_ok-row_read.was
