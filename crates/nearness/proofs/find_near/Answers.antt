use mathlib.Core.Path.{sym, ◌∙◌}
use native.Mathlib.Omega.{arith}
use borrow.Author.Tests.{ltb-false}
use lib.Pow.{pow_pos}
use Rattle.rounds.proofs.Loops.{ready_long}
use Rattle.nearness.proofs.SortLaws.{sorting_none, sort_loadable, sort_most, far_rests, sorting_listed, sorting_rests, sorting_all}
use Rattle.nearness.proofs.find_near.Goals as goal
use Rattle.nearness.proofs.find_near.Goals.{then-is_near, else-is_near}

pub loop-i-init : goal.loop-i-init
loop-i-init c = sorting_none _ _ _ _ _ _

pub row_loads-loads-requires : goal.row_loads-loads-requires
row_loads-loads-requires c = record { row_in_bounds = omega (arith, c.requires.near_len_bound.0); loadable = sort_loadable c.requires.sortable _ (omega (arith, c.requires.near_len_bound.0)) }

pub bounds-ns-i : goal.bounds-ns-i
bounds-ns-i c = omega (arith, ready_long c.requires.sortable.ready, c.requires.near_len_bound.0)

pub is_near-requires : goal.is_near-requires
is_near-requires c = (sort_most c.requires.sortable _ (omega (arith, c.requires.near_len_bound.0)) _ _ c.row_loads-loads.ensures.1 c.row_loads-loads.ensures.0, c.requires.near_len_bound.1)

pub list_row-count-requires : goal.list_row-count-requires
list_row-count-requires c = record { row_in_bounds = omega (arith, c.requires.near_len_bound.0); ready = c.requires.sortable.ready; rising_in_bounds = c.requires.sortable.listed.inside; count_le_i = (omega (arith, c.loop-i.invariant.sorted.few), omega (arith, c.loop-i.invariant.long), c.loop-i.invariant.sorted.inside) }

pub loop-i-preserved : goal.loop-i-preserved
loop-i-preserved c = elim c.if-is_near.branch [
  | then-is_near w ↦ rw (w.near-is, w.count-is) (sorting_listed c.loop-i.invariant (omega arith) w.list_row-count.ensures)
  | else-is_near w ↦ rw (w.near-is, w.count-is) (sorting_rests c.loop-i.invariant (omega arith) (far_rests c.requires.sortable _ (omega (arith, c.requires.near_len_bound.0)) _ _ c.row_loads-loads.ensures.1 c.row_loads-loads.ensures.0 _ (pow_pos _) (ltb-false _ _ (sym c.is_near.ensures ∙ w.if-is_near.false))))
]

pub returns : goal.returns
returns c = sorting_all c.loop-i.invariant (omega arith)
