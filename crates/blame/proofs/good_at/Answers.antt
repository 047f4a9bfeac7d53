-- `blame::good_at` meets its contract.
use mathlib.Core.Path.{sym, ap, ◌∙◌}
use Rattle.std.specs.Prelude.{is_ok}
use Rattle.blame.proofs.BlameLaws.{good_sep, good_feed}
use Rattle.blame.proofs.good_at.Goals as goal

pub returns-then-is_ok : goal.returns-then-is_ok
returns-then-is_ok c = c.if-is_ok.true ∙ good_sep _ _ _ _ (ap is_ok (sym c.field_at.ensures) ∙ sym c.is_ok.ensures.value ∙ c.if-is_ok.true)

pub returns-else-is_ok : goal.returns-else-is_ok
returns-else-is_ok c = c.is_ok-else-is_ok.ensures.value ∙ ap is_ok c.field_at-else-is_ok.ensures
    ∙ good_feed _ _ _ _ (ap is_ok (sym c.field_at.ensures) ∙ sym c.is_ok.ensures.value ∙ c.if-is_ok.false)
