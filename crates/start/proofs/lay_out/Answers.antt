-- `start::lay_out` meets its contract: the cells are the grid's, and the margins those of the start.
use Rattle.extractrules.proofs.StartLaws.{margins_are}
use Rattle.start.proofs.lay_out.Goals as goal

pub fill_grid-requires : goal.fill_grid-requires
fill_grid-requires c = record { table_factors_in_range = c.requires.table_factors_in_range; borders_in_range = c.requires.borders_in_range; b_len = c.requires.b_len; states_len = c.requires.starts_len.1; p_len = c.requires.p_len.0 }

pub returns : goal.returns
returns c = (c.fill_grid.ensures, margins_are _ _ _ _ c.requires.starts_len.1 c.fill_margins.ensures)
