-- `columns::optional::optional_at` meets its contract: the shorter list where it reads the line to its end, or else the longer.
use mathlib.Core.Path.{◌≡◌, sym, ap, ◌∙◌}
use mathlib.Core.List.{List}
use native.Mathlib.Omega.{arith}
use lib.ListN.{length, take, drop, length-drop}
use lib.Seq.{length-take-le}
use Rattle.types.specs.LineColumns.{Column, columns_of}
use Rattle.columns.specs.Columns.{stored}
use Rattle.columns.specs.ColumnLine.{columns_line}
use Rattle.columns.proofs.ColumnPut.{columns_long}
use Rattle.columns.proofs.OptionalLaws.{columns_split, optional_first, optional_long}
use borrow.Author.Rules.{rules}
use Rattle.columns.proofs.optional.optional_at.Goals as goal
use Prim.Native.Nat.{ℕ}
use Rattle.std.specs.Prelude.{Result}

pub slice_bounds-line_at-end : goal.slice_bounds-line_at-end
slice_bounds-line_at-end c = sym (length-take-le _ _ (omega (arith, c.requires.0)))

pub slice_bounds-line_at-end-3 : goal.slice_bounds-line_at-end-3
slice_bounds-line_at-end-3 c = sym (length-take-le _ _ (omega (arith, c.requires.0, c.requires.1)))

pub line_at-requires : goal.line_at-requires
line_at-requires c = length-take-le c.args.n c.args.columns.now (omega (arith, c.requires.0)) ∙ sym (length-take-le c.args.n c.args.out.now (omega (arith, c.requires.0, c.requires.1)))

pub returns : goal.returns
returns c = let long : length c.line_at.new.out ≡ length (take c.args.n c.args.out.now) = search rules in
    optional_first c.args.sep c.args.head (columns_of (take c.args.n c.args.columns.now)) (columns_of (drop c.args.n c.args.columns.now)) c.args.line.now c.args.n c.line_at.new.out (drop c.args.n c.args.out.now) c.leave_out.new.out _
    (long ∙ length-take-le c.args.n c.args.out.now (omega (arith, c.requires.0, c.requires.1)))
    (length-drop c.args.n c.args.out.now ∙ sym (columns_long (drop c.args.n c.args.columns.now) ∙ length-drop c.args.n c.args.columns.now ∙ omega (arith, c.requires.1)))
    c.leave_out.ensures
    (ap (λ (f : Result ℕ ℕ). stored f c.line_at.new.out) (sym c.in-Ok.is) ∙ c.line_at.ensures)

pub returns-in_default : goal.returns-in_default
returns-in_default c = optional_long c.args.sep c.args.head (columns_of (take c.args.n c.args.columns.now)) (columns_of (drop c.args.n c.args.columns.now)) c.args.line.now _ _
    (ap (λ (f : Result ℕ ℕ). stored f c.line_at.new.out) (sym c.in_default.is) ∙ c.line_at.ensures)
    (c.line_at-in_default.ensures ∙ ap (λ (l : List Column). columns_line c.args.sep c.args.head l c.args.line.now) (sym (columns_split c.args.n c.args.columns.now)))
