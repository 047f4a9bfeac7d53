-- `holding::work` meets its contract: the copy of the margins goes through as many rounds as the border's last.
use mathlib.Core.Path.{sym, ap, ◌∙◌}
use lib.ListN.{length}
use Rattle.holding.proofs.HoldLaws.{work_startable, work_ready}
use Rattle.holding.proofs.work.Goals as goal

pub copy_from_slice-requires : goal.copy_from_slice-requires
copy_from_slice-requires c = c.requires.ns_len.2 ∙ sym c.requires.startable.ready.margins

pub extract_rounds-end-requires : goal.extract_rounds-end-requires
extract_rounds-end-requires c = record { startable = work_startable c.requires.startable c.count_sharers.ensures; lasts_len = c.requires.ns_len.1 }

pub replay-requires : goal.replay-requires
replay-requires c = record { borders_few = c.requires.borders_in_bounds.1; ready = work_ready c.requires.startable c.count_sharers.ensures (ap length c.copy_from_slice.ensures.after ∙ c.requires.startable.ready.margins) }

pub returns : goal.returns
returns c = record { work = c.extract_rounds-end.ensures; counts = c.count_sharers.ensures; then_stood = rw c.copy_from_slice.ensures.after at c.replay.ensures }
