-- `blame::byte_at` meets its contract.
use mathlib.Core.Path.{sym, ◌∙◌}
use Rattle.blame.proofs.BlameLaws.{byte_good, byte_here, byte_end}
use Rattle.blame.proofs.byte_at.Goals as goal

pub returns-then-good_at : goal.returns-then-good_at
returns-then-good_at c = byte_good _ _ _ _ _ (sym c.good_at.ensures ∙ c.if-good_at.true)

pub returns-then-place-line : goal.returns-then-place-line
returns-then-place-line c = byte_here _ _ _ _ _ (sym c.good_at.ensures ∙ c.if-good_at.false) c.if-place-line.true

pub returns-else-place-line : goal.returns-else-place-line
returns-else-place-line c = byte_end _ _ _ _ _ (sym c.good_at.ensures ∙ c.if-good_at.false) c.if-place-line.false
