-- `lines::row::row_judged` meets its contract.
use mathlib.Core.Path.{sym, ap, ◌∙◌}
use Prim.Native.Nat.{ℕ}
use mathlib.Core.List.{List}
use lib.IntN.{ℤ}
use lib.Seq.{length-take-le}
use Rattle.std.specs.Prelude.{Result}
use Rattle.std.proofs.lemmas.Result.{err_from_is_err_and}
use Rattle.text.specs.declared.LineFault.{LineFault}
use Rattle.lines.specs.SaidRow.{judged_of, said_row, line_by}
use Rattle.lines.proofs.row.row_judged.Goals as goal

pub slice_bounds-row_read-end : goal.slice_bounds-row_read-end
slice_bounds-row_read-end c = sym (length-take-le _ _ c.requires.1)

pub row_read-requires : goal.row_read-requires
row_read-requires c = (rw (length-take-le _ _ c.requires.1) c.requires.0, rw (length-take-le _ _ c.requires.1) c.requires.1)

pub returns-in_err-row_read : goal.returns-in_err-row_read
returns-in_err-row_read c =
    let p = err_from_is_err_and c.from_residual.result c.from_residual.ensures.1 in
    rw (p.1, p.2)
    (ap (λ (r : Result (List ℤ) LineFault). judged_of (said_row r c.row_read.new.f)) (sym c.in_err-row_read.was)
    ∙ ap judged_of c.row_read.ensures
    ∙ ap (λ (n : ℕ). judged_of (line_by c.args.kind n c.args.line.now c.args.i)) (length-take-le _ _ c.requires.1))

pub returns : goal.returns
returns c = ap (λ (r : Result (List ℤ) LineFault). judged_of (said_row r c.row_read.new.f)) (sym c.in_ok-row_read.was)
    ∙ ap judged_of c.row_read.ensures
    ∙ ap (λ (n : ℕ). judged_of (line_by c.args.kind n c.args.line.now c.args.i)) (length-take-le _ _ c.requires.1)
