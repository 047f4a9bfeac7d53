-- `bound::bound_in` meets its contract: a refusal of what preparing refuses, and else the measure of what is laid out (`laid-bound`).
use Rattle.std.specs.Prelude.{Err, Ok}
use mathlib.Core.Path.{◌≡◌, ap, ◌∙◌}
use native.Mathlib.Omega.{arith}
use borrow.Author.Rules.{rules}
use lib.ListN.{length}
use Rattle.numbers.proofs.BelowLaws.{table_long}
use Rattle.types.proofs.RangeLaws.{header_in_lem}
use Rattle.marks.specs.Marks.{flagged}
use Rattle.tablerules.specs.Table.{Table, lent_view, front}
use Rattle.tablerules.proofs.RoomLaws.{factors_most}
use Rattle.marginrules.proofs.JudgedLaws.{good_factors, good_borders}
use Rattle.staterules.proofs.StandingsLaws.{rows_in_lem}
use Rattle.extractrules.proofs.StartLaws.{PreparedAs, prepared_as, laid_grid, laid_margins}
use Rattle.boundrules.proofs.BoundLaws.{start_refused, start_passed, laid_bound, start_long, start_small}
use Rattle.bound.proofs.bound_in.Goals as goal

pub prepare-requires : goal.prepare-requires
prepare-requires c = record { good = c.requires.good; flags_len = c.requires.flags_len; rams_len = c.requires.rams_len; states_len = c.requires.states_len.0 }

pub returns-in_err-prepare : goal.returns-in_err-prepare
returns-in_err-prepare c = let whole : Table = front (lent_view c.args.view.now) in
    let as_said : PreparedAs (flagged c.args.flags.now) (whole) c.prepare.result c.prepare.new.rams c.prepare.new.starts c.prepare.new.states = prepared_as c.prepare.result c.prepare.ensures in
    let told : c.from_residual.result ≡ Err c.in_err-prepare.field-0.0 = search rules in
    rw told (start_refused as_said _ c.in_err-prepare.was)

pub overflow_mul-factors : goal.overflow_mul-factors
overflow_mul-factors c = omega (arith, factors_most _ c.requires.good.exact.header)

pub lay_out-requires : goal.lay_out-requires
lay_out-requires c = let whole : Table = front (lent_view c.args.view.now) in
    let as_said : PreparedAs (flagged c.args.flags.now) (whole) c.prepare.result c.prepare.new.rams c.prepare.new.starts c.prepare.new.states = prepared_as c.prepare.result c.prepare.ensures in
    let said = as_said in record { table_factors_in_range = good_factors c.requires.good; borders_in_range = good_borders c.requires.good; b_len = (c.requires.good.exact.borders_long, c.requires.flags_len); starts_len = (ap length said.starts_are ∙ table_long _ _, (rows_in_lem _ _ said.rows).states_long); p_len = (c.requires.ns_len.1, c.requires.states_len.1) }

pub measure-requires : goal.measure-requires
measure-requires c = let whole : Table = front (lent_view c.args.view.now) in
    let as_said : PreparedAs (flagged c.args.flags.now) (whole) c.prepare.result c.prepare.new.rams c.prepare.new.starts c.prepare.new.states = prepared_as c.prepare.result c.prepare.ensures in
    let said = as_said in
    let t = whole in
    let margins = laid_margins t said.rows said.starts_are c.lay_out.ensures.1 in record { borders_few = (header_in_lem _ c.requires.good.exact.header).borders_most_lem; margins_len = (ap length margins ∙ start_long t, c.requires.ns_len.0); small = start_small c.requires.good margins }

pub returns : goal.returns
returns c = let whole : Table = front (lent_view c.args.view.now) in
    let as_said : PreparedAs (flagged c.args.flags.now) (whole) c.prepare.result c.prepare.new.rams c.prepare.new.starts c.prepare.new.states = prepared_as c.prepare.result c.prepare.ensures in
    let said = as_said in
    let t = whole in
    ap Ok (c.measure.ensures ∙ laid_bound _ t (laid_grid _ t said.rows c.lay_out.ensures.0) (laid_margins t said.rows said.starts_are c.lay_out.ensures.1))
    ∙ start_passed said c.in_ok-prepare.was
