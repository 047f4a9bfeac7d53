-- `lines::border::border_line` meets its contract: what the columns hold is judged.
use Prim.Native.Nat.{ℕ}
use mathlib.Core.Path.{sym, ap, ◌∙◌}
use Rattle.columns.specs.Columns.{stored}
use Rattle.lines.proofs.BorderTrip.{border_form, border_range, border_holds}
use Rattle.lines.proofs.border.border_line.Goals as goal
use Rattle.std.specs.Prelude.{Result, Err}
use Rattle.text.specs.declared.LineFault.TheVariants.{Form, Range}

pub returns-in_default : goal.returns-in_default
returns-in_default c = ap (λ (byte : ℕ). Err (Form byte)) c.line_byte.ensures ∙ border_form _ _ _ _ (ap (λ (f : Result ℕ ℕ). stored f c.optional_at.new.out) (sym c.in_default.is) ∙ c.optional_at.ensures)

pub returns-then-fits : goal.returns-then-fits
returns-then-fits c = border_holds _ _ _ c.optional_at.new.out _ (ap (λ (f : Result ℕ ℕ). stored f c.optional_at.new.out) (sym c.in-Ok.is) ∙ c.optional_at.ensures) (sym c.fits.ensures ∙ c.if-fits.true)

pub returns : goal.returns
returns c = ap (λ (byte : ℕ). Err (Range byte)) (simp c.tests-tests.ensures at c.range_byte.ensures)
    ∙ border_range _ _ _ c.optional_at.new.out _ (ap (λ (f : Result ℕ ℕ). stored f c.optional_at.new.out) (sym c.in-Ok.is) ∙ c.optional_at.ensures) (sym c.fits.ensures ∙ c.if-fits.false)
