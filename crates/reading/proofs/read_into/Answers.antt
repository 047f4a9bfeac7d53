-- `reading::read_into` meets its contract: the lengths of both texts decide, or else their lines.
use Rattle.std.specs.Prelude.{Err}
use mathlib.Core.Path.{ap, ◌∙◌}
use Rattle.reading.proofs.CorrectedLaws.{sheet_too_long, text_too_long, texts_short}
use Rattle.reading.proofs.read_into.Goals.{then-sheet-gt-BYTES_MOST-via-then-sheet-gt-BYTES_MOST as first, then-sheet-gt-BYTES_MOST-via-else-sheet-gt-BYTES_MOST+then-text-gt-BYTES_MOST as second}
use Rattle.reading.proofs.read_into.Goals as goal

pub returns-then-sheet-gt-BYTES_MOST : goal.returns-then-sheet-gt-BYTES_MOST
returns-then-sheet-gt-BYTES_MOST c = elim c.then-sheet-gt-BYTES_MOST.branch [ first w ↦ sheet_too_long _ _ w.if-sheet-gt-BYTES_MOST.true | second w ↦ text_too_long _ _ w.if-sheet-gt-BYTES_MOST.false w.if-text-gt-BYTES_MOST.true ]

pub read_lines-requires : goal.read_lines-requires
read_lines-requires c = record { zones = c.requires.0; allocated = c.requires.1; borders = c.requires.2; rows = c.requires.3; factors = c.requires.4 }

pub returns : goal.returns
returns c = c.read_lines.ensures ∙ texts_short _ _ c.if-sheet-gt-BYTES_MOST.false c.if-text-gt-BYTES_MOST.false
