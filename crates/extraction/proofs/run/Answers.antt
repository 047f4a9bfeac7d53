-- `extraction::run` meets its contract: the rounds begin where the borders start, with n of each row, and the shares are of the margins that the rounds leave.
use mathlib.Core.Path.{◌∙◌}
use native.Mathlib.Omega.{arith}
use Rattle.extractrules.proofs.ExtractLaws.{run_startable, run_left}
use Rattle.extraction.proofs.run.Goals as goal

pub invariant_of-grid : goal.invariant_of-grid
invariant_of-grid c = omega (arith, c.requires.runnable.p_long)

pub extract_rounds-end-requires : goal.extract_rounds-end-requires
extract_rounds-end-requires c = record { startable = run_startable c.requires.runnable c.exchanges-x.ensures c.count_sharers.ensures; lasts_len = c.requires.ns_len.1 }

pub returns : goal.returns
returns c = run_left c.requires.runnable c.exchanges-x.ensures c.extract_rounds-end.ensures c.count_sharers.ensures
    (c.extract_rounds-end.auto.margins ∙ c.requires.runnable.margins_long) c.share_out.ensures
