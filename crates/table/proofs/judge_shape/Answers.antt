-- `table::judge_shape` meets its contract: the header, and then lengths.
use Rattle.std.specs.Prelude.{Err}
use mathlib.Core.Path.{sym, ap, ◌∙◌}
use borrow.Author.Tests.{not-true, not-false}
use Rattle.tablerules.proofs.JudgeLaws.{header_refused, shape_said}
use Rattle.table.proofs.judge_shape.Goals as goal

pub returns-then-not-fits : goal.returns-then-not-fits
returns-then-not-fits c = header_refused _ (sym c.fits.ensures ∙ not-true _ c.if-not-fits.true-raw)

pub judge_room-requires : goal.judge_room-requires
judge_room-requires c = sym c.fits.ensures ∙ not-false _ c.if-not-fits.false-raw

pub returns : goal.returns
returns c = shape_said _ (sym c.fits.ensures ∙ not-false _ c.if-not-fits.false-raw) c.judge_room.result c.judge_room.ensures
