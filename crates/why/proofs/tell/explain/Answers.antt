-- `why::tell::explain` meets its contract: its promise is that of `explain_in`, each part of the room as long as the header says.
use mathlib.Core.Path.{sym}
use lib.Seq.{length-take-le}
use Rattle.types.proofs.RangeLaws.{header_in_lem}
use Rattle.why.proofs.tell.explain.Goals as goal

pub slice_bounds-ns-end : goal.slice_bounds-ns-end
slice_bounds-ns-end c = (header_in_lem _ c.requires.runnable.header).rows_most_lem

pub slice_bounds-explain_in-end : goal.slice_bounds-explain_in-end
slice_bounds-explain_in-end c = sym (length-take-le _ _ (header_in_lem _ c.requires.runnable.header).rows_most_lem)

pub slice_bounds-lasts-end : goal.slice_bounds-lasts-end
slice_bounds-lasts-end c = (header_in_lem _ c.requires.runnable.header).borders_most_lem

pub slice_bounds-explain_in-end-2 : goal.slice_bounds-explain_in-end-2
slice_bounds-explain_in-end-2 c = sym (length-take-le _ _ (header_in_lem _ c.requires.runnable.header).borders_most_lem)

pub slice_bounds-stood-end : goal.slice_bounds-stood-end
slice_bounds-stood-end c = (header_in_lem _ c.requires.runnable.header).rows_most_lem

pub slice_bounds-explain_in-end-3 : goal.slice_bounds-explain_in-end-3
slice_bounds-explain_in-end-3 c = sym (length-take-le _ _ (header_in_lem _ c.requires.runnable.header).rows_most_lem)

pub explain_in-requires : goal.explain_in-requires
explain_in-requires c = record { runnable = c.requires.runnable; states_len = c.requires.states_len; ns_len = (length-take-le _ _ (header_in_lem _ c.requires.runnable.header).rows_most_lem, length-take-le _ _ (header_in_lem _ c.requires.runnable.header).borders_most_lem, length-take-le _ _ (header_in_lem _ c.requires.runnable.header).rows_most_lem); borders_in_bounds = c.requires.borders_in_bounds }
