-- `lines::zone::zone_line` meets its contract: what the column holds is judged.
use Prim.Native.Nat.{ℕ}
use mathlib.Core.Path.{sym, ap, ◌∙◌}
use Rattle.numbers.proofs.IntLaws.{plain}
use Rattle.types.proofs.ConstructorLaws.{zone_good, zone_out_lem}
use Rattle.columns.specs.Columns.{stored}
use Rattle.lines.proofs.ZoneTrip.{zone_form, zone_range, zone_holds}
use Rattle.lines.proofs.zone.zone_line.Goals as goal
use Rattle.std.specs.Prelude.{Result, Err}
use Rattle.text.specs.declared.LineFault.TheVariants.{Form, Range}

pub returns-in_default : goal.returns-in_default
returns-in_default c = ap (λ (byte : ℕ). Err (Form byte)) c.line_byte.ensures ∙ zone_form _ _ _ _ (ap (λ (f : Result ℕ ℕ). stored f c.line_at.new.out) (sym c.in_default.is) ∙ c.line_at.ensures)

pub returns-in_default-of : goal.returns-in_default-of
returns-in_default-of c = ap (λ (byte : ℕ). Err (Range byte)) (simp (c.tests-tests.ensures, plain, c.net-1.given) at c.range_byte.ensures)
    ∙ zone_range _ _ _ c.line_at.new.out _ (ap (λ (f : Result ℕ ℕ). stored f c.line_at.new.out) (sym c.in-Ok.is) ∙ c.line_at.ensures) (zone_out_lem _ (simp (plain, c.net-1.given) at (sym c.of.ensures ∙ c.in_default-of.is)))

pub returns : goal.returns
returns c = simp (plain, c.net-1.given) (zone_holds _ _ _ c.line_at.new.out _ (ap (λ (f : Result ℕ ℕ). stored f c.line_at.new.out) (sym c.in-Ok.is) ∙ c.line_at.ensures) (zone_good _ _ (simp (plain, c.net-1.given) at (sym c.of.ensures ∙ c.in-Some.is))))
