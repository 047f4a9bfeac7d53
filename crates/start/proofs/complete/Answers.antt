-- `start::complete` meets its contract: where every border is marked the cells are those of all borders (`cells-all`), and else they are filled again (`cells-every`).
use mathlib.Core.Bool.{true}
use mathlib.Core.List.{[]}
use mathlib.Core.Path.{◌≡◌, refl, sym, ◌∙◌}
use native.Mathlib.Omega.{arith}
use lib.ListN.{replicate}
use lib.Seq.{length-take-le}
use Rattle.limits.specs.Limits.{borders_most}
use Rattle.numbers.specs.Below.{table}
use Rattle.marks.specs.Marks.{flags_of}
use Rattle.extractrules.proofs.SameMarks.{cells_all, cells_every}
use Rattle.extractrules.proofs.StartLaws.{filled_long}
use Rattle.start.proofs.complete.Goals as goal

pub returns-then-all_marked : goal.returns-then-all_marked
returns-then-all_marked c = c.requires.p_value ∙ cells_all _ _ _ _ _ c.requires.b_len.1 (sym c.all_marked.ensures ∙ c.if-all_marked.true)

pub slice_bounds-every-end : goal.slice_bounds-every-end
slice_bounds-every-end c = omega (arith, c.requires.borders_le_borders_most)

pub slice_bounds-fill_grid-end : goal.slice_bounds-fill_grid-end
slice_bounds-fill_grid-end c = sym (length-take-le _ _ (omega (arith, c.requires.borders_le_borders_most)))

pub fill_grid-requires : goal.fill_grid-requires
fill_grid-requires c = record { table_factors_in_range = c.requires.table_factors_in_range; borders_in_range = c.requires.borders_in_range; b_len = (c.requires.b_len.0, length-take-le _ _ (omega (arith, c.requires.borders_le_borders_most))); states_len = c.requires.states_len; p_len = filled_long _ _ _ _ _ c.requires.p_value }

-- a flag for each border that a table may have
ones : replicate borders_most 1 ≡ flags_of borders_most true []
unfolding table
ones = refl

pub returns : goal.returns
returns c = c.fill_grid.ensures ∙ cells_every _ _ _ _ [] ones c.requires.borders_le_borders_most
