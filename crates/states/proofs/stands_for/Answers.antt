-- `states::stands_for` meets its contract.
use mathlib.Core.Path.{sym, ap₂, ◌∙◌}
use lib.IntN.{ℤ}
use mathlib.Core.List.{List}
use Rattle.staterules.specs.States.{shifted, below}
use Rattle.marginrules.proofs.JudgedLaws.{part_long, part_ranges}
use Rattle.staterules.proofs.StateLaws.{late_first, late_second}
use Rattle.states.proofs.stands_for.Goals as goal

pub shifted-requires : goal.shifted-requires
shifted-requires c = record { factors_in_range = part_ranges c.requires.table_factors_in_range c.args.j c.requires.j_lt_rows.0 c.row_factors.ensures; factors_in_range_2 = part_ranges c.requires.table_factors_in_range c.args.i c.requires.j_lt_rows.1 c.row_factors-2.ensures; gs_len = part_long c.requires.table_factors_in_range c.args.i c.requires.j_lt_rows.1 c.row_factors-2.ensures ∙ sym (part_long c.requires.table_factors_in_range c.args.j c.requires.j_lt_rows.0 c.row_factors.ensures) }

pub returns-then-shifted : goal.returns-then-shifted
returns-then-shifted c = late_first
    (c.shifted.ensures ∙ ap₂ (λ (fs gs : List ℤ). shifted fs gs) c.row_factors.ensures c.row_factors-2.ensures)
    c.if-shifted.true c.below.ensures

pub returns-else-shifted : goal.returns-else-shifted
returns-else-shifted c = late_second (below c.args.rams.now c.args.j c.args.i)
    (c.shifted.ensures ∙ ap₂ (λ (fs gs : List ℤ). shifted fs gs) c.row_factors.ensures c.row_factors-2.ensures)
    c.if-shifted.false
