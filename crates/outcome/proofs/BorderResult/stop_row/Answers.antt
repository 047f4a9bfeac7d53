-- `outcome::BorderResult::stop_row` meets its contract: a row is what the search found, and its index fits.
use Rattle.std.specs.Prelude.{Option, ℕ}
use mathlib.Core.Path.{sym, ap, ◌∙◌}
use mir.Facts.{to_z_pos}
use mir.Syntax.{w64}
use Rattle.outcome.specs.Outcome.{row_or_dash}
use Rattle.outcome.proofs.BorderResult.stop_row.Goals as goal

pub overflow_cast-result : goal.overflow_cast-result
overflow_cast-result c = record { sfits = c.requires _ (sym (c.in-Some.is)) }

pub returns-in-Some : goal.returns-in-Some
returns-in-Some c = to_z_pos w64 (c.requires _ (sym (c.in-Some.is))) ∙ sym (ap (λ (s : Option ℕ). row_or_dash s) c.in-Some.is)

pub returns-in-None : goal.returns-in-None
returns-in-None c = sym (ap (λ (s : Option ℕ). row_or_dash s) c.in-None.is)
