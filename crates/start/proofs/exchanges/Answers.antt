-- `start::exchanges` meets its contract.
use mathlib.Core.Path.{refl, sym}
use borrow.Author.Rules.{rules}
use lib.Seq.{length-take-le}
use Rattle.numbers.specs.Below.{table}
use Rattle.types.specs.Ranges.{is_intraday}
use Rattle.extractrules.proofs.StartLaws.{exchanges_are}
use Rattle.start.proofs.exchanges.Goals as goal

pub slice_bounds-fill_froms-end : goal.slice_bounds-fill_froms-end
slice_bounds-fill_froms-end c = sym (length-take-le _ _ (search rules))

pub fill_froms-requires : goal.fill_froms-requires
fill_froms-requires c = record { borders_in_range = c.requires; x_len = length-take-le _ _ (search rules) }

pub returns : goal.returns
unfolding table
returns c = exchanges_are (is_intraday c.args.h) c.args.b.now _ _ (rw c.is_intraday-intraday.ensures at c.fill_froms.ensures) refl
