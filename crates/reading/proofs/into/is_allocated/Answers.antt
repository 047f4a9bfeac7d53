-- `reading::into::is_allocated` meets its contract: beyond the text no letter stands.
use mathlib.Core.Path.{sym, ◌∙◌}
use native.Mathlib.Omega.{arith}
use lib.ListN.{length}
use borrow.Author.Tests.{le-ltb}
use Rattle.reading.proofs.JudgedTextLaws.{letter_beyond}
use Rattle.reading.proofs.into.is_allocated.Goals as goal

pub returns-else-at-text : goal.returns-else-at-text
returns-else-at-text c = le-ltb c.args.at (length c.args.text.now) (omega arith) ∙ sym (letter_beyond c.args.text.now c.args.at (omega arith))
