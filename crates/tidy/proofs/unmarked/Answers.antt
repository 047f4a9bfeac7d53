-- `tidy::unmarked` meets its contract: what is left behind a mark is the same, and a text that begins with none stays.
use mathlib.Core.Path.{◌∙◌}
use Rattle.std.proofs.Common.{rules}
use Rattle.tidy.proofs.BeginLaws.{unmarked_none, unmarked_more}
use Rattle.tidy.proofs.unmarked.Goals as goal

pub loop-after-preserved : goal.loop-after-preserved
loop-after-preserved c = unmarked_more c.loop-after.rest.now c.in-Some.after.now (search rules) (search rules) ∙ c.loop-after.invariant

pub returns : goal.returns
returns c = unmarked_none c.loop-after.rest.now (search rules) ∙ c.loop-after.invariant
