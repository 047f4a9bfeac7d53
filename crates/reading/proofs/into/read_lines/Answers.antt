-- `reading::into::read_lines` meets its contract: the H line decides, or else the lines after it.
use Rattle.std.specs.Prelude.{Err}
use mathlib.Core.Path.{sym, ap, ◌∙◌}
use native.Mathlib.Omega.{arith}
use lib.ListN.{length}
use Rattle.lines.specs.Lines.{header_line}
use Rattle.reading.proofs.JudgedTextLaws.{header_bad}
use Rattle.reading.proofs.into.read_lines.Goals as goal

pub read_zones-requires : goal.read_zones-requires
read_zones-requires c = record { headed = record { header_is = ap header_line (sym c.line_at-line.ensures) ∙ sym c.header_line.ensures ∙ c.in-Ok.is; at_is = omega (arith, ap length c.line_at-line.ensures) }; roomy = c.requires }

pub returns-in-Err : goal.returns-in-Err
returns-in-Err c = ap Err c.refusal.ensures ∙ header_bad _ _ _ (ap header_line (sym c.line_at-line.ensures) ∙ sym c.header_line.ensures ∙ c.in-Err.is)
