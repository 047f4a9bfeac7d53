-- `lines::header::header_line` meets its contract: what the columns hold is judged.
use Prim.Native.Nat.{ℕ}
use mathlib.Core.Path.{sym, ap, ◌∙◌}
use Rattle.numbers.proofs.IntLaws.{plain, natural_cast}
use Rattle.columns.specs.Columns.{stored}
use Rattle.lines.proofs.HeaderTrip.{header_form, header_range, header_holds, header_numbers}
use Rattle.lines.proofs.header.header_line.Goals as goal
use Rattle.std.specs.Prelude.{Result, Err}
use Rattle.text.specs.declared.LineFault.TheVariants.{Form, Range}

pub returns-in_default : goal.returns-in_default
returns-in_default c = ap (λ (byte : ℕ). Err (Form byte)) c.line_byte.ensures ∙ header_form _ _ (ap (λ (f : Result ℕ ℕ). stored f c.optional_at.new.out) (sym c.in_default.is) ∙ c.optional_at.ensures)

pub overflow_cast-zones : goal.overflow_cast-zones
overflow_cast-zones c = natural_cast _ _ c.zones-1.given (header_numbers _ _ _ (ap (λ (f : Result ℕ ℕ). stored f c.optional_at.new.out) (sym c.in-Ok.is) ∙ c.optional_at.ensures)).zones

pub overflow_cast-borders : goal.overflow_cast-borders
overflow_cast-borders c = natural_cast _ _ c.borders-1.given (header_numbers _ _ _ (ap (λ (f : Result ℕ ℕ). stored f c.optional_at.new.out) (sym c.in-Ok.is) ∙ c.optional_at.ensures)).borders

pub overflow_cast-rows : goal.overflow_cast-rows
overflow_cast-rows c = natural_cast _ _ c.rows-1.given (header_numbers _ _ _ (ap (λ (f : Result ℕ ℕ). stored f c.optional_at.new.out) (sym c.in-Ok.is) ∙ c.optional_at.ensures)).rows

pub returns-then-fits : goal.returns-then-fits
returns-then-fits c = let read = ap (λ (f : Result ℕ ℕ). stored f c.optional_at.new.out) (sym c.in-Ok.is) ∙ c.optional_at.ensures in
    simp (plain, c.zones-1.given, c.borders-1.given, c.rows-1.given, c.share-1.given)
    (header_holds _ _ _ read (sym (simp (plain, c.zones-1.given, c.borders-1.given, c.rows-1.given, c.share-1.given) at c.fits.ensures) ∙ c.if-fits.true))

pub returns : goal.returns
returns c = let read = ap (λ (f : Result ℕ ℕ). stored f c.optional_at.new.out) (sym c.in-Ok.is) ∙ c.optional_at.ensures in
    ap (λ (byte : ℕ). Err (Range byte)) (simp (c.tests-tests.ensures, plain, c.zones-1.given, c.borders-1.given, c.rows-1.given, c.share-1.given) at c.range_byte.ensures)
    ∙ header_range _ _ _ read (sym (simp (plain, c.zones-1.given, c.borders-1.given, c.rows-1.given, c.share-1.given) at c.fits.ensures) ∙ c.if-fits.false)
