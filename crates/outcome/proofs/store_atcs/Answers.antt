use mathlib.Core.Path.{ap, ◌∙◌}
use native.Mathlib.Omega.{arith}
use Rattle.numbers.specs.Below.{at}
use Rattle.numbers.proofs.FirstLaws.{first_within}
use Rattle.numbers.proofs.ListLaws.{filled_none, filled_more, filled_over}
use Rattle.rounds.specs.AllRounds.{stop_by}
use Rattle.outcome.specs.Outcome.{border_left}
use Rattle.outcome.proofs.store_atcs.Goals as goal

pub loop-b-init : goal.loop-b-init
loop-b-init c = filled_none _ _ _

pub stop_row-requires : goal.stop_row-requires
stop_row-requires c = record { border_in_bounds = omega arith; shares_len = c.requires.shares_len.0 }

pub as_record-requires : goal.as_record-requires
unfolding stop_by
as_record-requires c = (c.requires.by_index c.loop-b.b (omega arith), λ i e. omega (arith, c.requires.shares_len.1, first_within _ _ (e ∙ c.stop_row.ensures)))

pub loop-b-preserved : goal.loop-b-preserved
loop-b-preserved c = filled_more c.loop-b.invariant _ (omega arith) (omega (arith, c.requires.x_len.2))
    (c.as_record.ensures ∙ ap (border_left (at c.args.x.now c.loop-b.b) (at c.args.lasts.now c.loop-b.b)) c.stop_row.ensures)

pub returns : goal.returns
returns c = filled_over c.loop-b.invariant (omega arith)
