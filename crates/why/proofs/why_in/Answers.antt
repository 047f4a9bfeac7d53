-- `why::why_in` meets its contract: a return for each judgement that may decide, and the last for what is told.
use Rattle.std.specs.Prelude.{Err, Ok}
use mathlib.Core.Path.{◌≡◌, sym, ap, ◌∙◌}
use mathlib.Core.Bool.{Bool}
use Prim.Native.Nat.{ℕ}
use native.Mathlib.Omega.{arith}
use borrow.Author.Rules.{rules}
use lib.ListN.{length}
use Rattle.numbers.proofs.BelowLaws.{table_long}
use Rattle.types.proofs.RangeLaws.{header_in_lem}
use Rattle.marks.specs.Marks.{flagged}
use Rattle.tablerules.specs.Table.{Table, lent_view, front}
use Rattle.tablerules.proofs.RoomLaws.{factors_most}
use Rattle.marginrules.proofs.JudgedLaws.{good_factors, good_borders}
use Rattle.staterules.specs.Standings.{standings_of}
use Rattle.staterules.proofs.StandingsLaws.{rows_in_lem}
use Rattle.extractrules.specs.Start.{every, judge_marked}
use Rattle.extractrules.proofs.StartLaws.{PreparedAs, prepared_as, laid_grid, laid_margins}
use Rattle.extractrules.proofs.ExtractLaws.{finishable}
use Rattle.extractrules.proofs.ExtractLaws as extraction
use Rattle.why.proofs.WhyLaws.{stored_is, left_refused, start_refused, short_ends, short_rows, all_stored}
use Rattle.why.proofs.why_in.Goals as goal

pub prepare-requires : goal.prepare-requires
prepare-requires c = record { good = c.requires.good; flags_len = c.requires.flags_len.0; rams_len = c.requires.rams_len; states_len = c.requires.states_len.0 }

pub returns-in_err-prepare : goal.returns-in_err-prepare
returns-in_err-prepare c = let whole : Table = front (lent_view c.args.view.now) in
    let marked : ℕ → Bool = flagged c.args.flags.now in
    let as_said : PreparedAs (marked) (whole) c.prepare.result c.prepare.new.rams c.prepare.new.starts c.prepare.new.states = prepared_as c.prepare.result c.prepare.ensures in
    let told : c.from_residual.result ≡ Err c.in_err-prepare.field-0.0 = search rules in
    rw told (left_refused _ _ _ (start_refused marked whole c.args.border (extraction.start_turned as_said c.in_err-prepare.was)))

pub returns-then-ends-header : goal.returns-then-ends-header
returns-then-ends-header c = let whole : Table = front (lent_view c.args.view.now) in
    let marked : ℕ → Bool = flagged c.args.flags.now in
    let as_said : PreparedAs (marked) (whole) c.prepare.result c.prepare.new.rams c.prepare.new.starts c.prepare.new.states = prepared_as c.prepare.result c.prepare.ensures in
    let passes : judge_marked (marked) (whole) ≡ Ok (standings_of (whole)).states = extraction.start_passed (as_said) c.in_ok-prepare.was in
    short_ends marked whole c.args.border _ _ _ passes c.if-ends-header.true

pub returns-then-rows-header : goal.returns-then-rows-header
returns-then-rows-header c = let whole : Table = front (lent_view c.args.view.now) in
    let marked : ℕ → Bool = flagged c.args.flags.now in
    let as_said : PreparedAs (marked) (whole) c.prepare.result c.prepare.new.rams c.prepare.new.starts c.prepare.new.states = prepared_as c.prepare.result c.prepare.ensures in
    let passes : judge_marked (marked) (whole) ≡ Ok (standings_of (whole)).states = extraction.start_passed (as_said) c.in_ok-prepare.was in
    short_rows marked whole c.args.border _ _ _ passes c.if-ends-header.false c.if-rows-header.true

pub slice_bounds-given-end : goal.slice_bounds-given-end
slice_bounds-given-end c = sym c.requires.good.exact.borders_long

pub overflow_mul-factors : goal.overflow_mul-factors
overflow_mul-factors c = omega (arith, factors_most _ c.requires.good.exact.header)

pub slice_bounds-factors-end : goal.slice_bounds-factors-end
slice_bounds-factors-end c = sym c.requires.good.exact.factors_long

pub lay_out-requires : goal.lay_out-requires
lay_out-requires c = let whole : Table = front (lent_view c.args.view.now) in
    let marked : ℕ → Bool = flagged c.args.flags.now in
    let as_said : PreparedAs (marked) (whole) c.prepare.result c.prepare.new.rams c.prepare.new.starts c.prepare.new.states = prepared_as c.prepare.result c.prepare.ensures in
    let said = as_said in record { table_factors_in_range = good_factors c.requires.good; borders_in_range = good_borders c.requires.good; b_len = (c.requires.good.exact.borders_long, c.requires.flags_len.0); starts_len = (ap length said.starts_are ∙ table_long _ _, (rows_in_lem _ _ said.rows).states_long); p_len = (c.requires.p_len, c.requires.states_len.1) }

pub explain-reasons-requires : goal.explain-reasons-requires
explain-reasons-requires c = let whole : Table = front (lent_view c.args.view.now) in
    let marked : ℕ → Bool = flagged c.args.flags.now in
    let as_said : PreparedAs (marked) (whole) c.prepare.result c.prepare.new.rams c.prepare.new.starts c.prepare.new.states = prepared_as c.prepare.result c.prepare.ensures in
    let said = as_said in
    let t = whole in record { runnable = (finishable (marked) c.requires.good said.rows (laid_grid (marked) t said.rows c.lay_out.ensures.0) (laid_margins t said.rows said.starts_are c.lay_out.ensures.1)).run; states_len = ((rows_in_lem _ _ said.rows).states_long, c.requires.flags_len.1); borders_in_bounds = (c.if-ends-header.false, c.if-rows-header.false) }

pub complete-requires : goal.complete-requires
complete-requires c = let whole : Table = front (lent_view c.args.view.now) in
    let marked : ℕ → Bool = flagged c.args.flags.now in
    let as_said : PreparedAs (marked) (whole) c.prepare.result c.prepare.new.rams c.prepare.new.starts c.prepare.new.states = prepared_as c.prepare.result c.prepare.ensures in
    record { table_factors_in_range = good_factors c.requires.good; borders_in_range = good_borders c.requires.good; b_len = (c.requires.good.exact.borders_long, c.requires.flags_len.0); states_len = (rows_in_lem _ _ (as_said).rows).states_long; borders_le_borders_most = (header_in_lem _ c.requires.good.exact.header).borders_most_lem; p_value = c.lay_out.ensures.0 }

pub shape_of-rams : goal.shape_of-rams
shape_of-rams c = c.prepare.auto.rams

pub shape_of-starts : goal.shape_of-starts
shape_of-starts c = c.prepare.auto.starts

pub shape_of-states : goal.shape_of-states
shape_of-states c = c.prepare.auto.states

pub shape_of-margins : goal.shape_of-margins
shape_of-margins c = c.explain-reasons.auto.margins ∙ c.lay_out.auto.margins

pub shape_of-p : goal.shape_of-p
shape_of-p c = c.complete.auto.p ∙ c.lay_out.auto.p

pub shape_of-ends : goal.shape_of-ends
shape_of-ends c = c.explain-reasons.auto.ends

pub shape_of-rows : goal.shape_of-rows
shape_of-rows c = c.explain-reasons.auto.out

pub returns : goal.returns
returns c = let whole : Table = front (lent_view c.args.view.now) in
    let marked : ℕ → Bool = flagged c.args.flags.now in
    let as_said : PreparedAs (marked) (whole) c.prepare.result c.prepare.new.rams c.prepare.new.starts c.prepare.new.states = prepared_as c.prepare.result c.prepare.ensures in
    let passes : judge_marked (marked) (whole) ≡ Ok (standings_of (whole)).states = extraction.start_passed (as_said) c.in_ok-prepare.was in
    let said = as_said in
    let t = whole in
    stored_is (marked) c.requires.good said.rows (laid_grid (marked) t said.rows c.lay_out.ensures.0) (laid_margins t said.rows said.starts_are c.lay_out.ensures.1) c.args.border c.requires.flags_len.1
    c.args.p.now c.requires.p_len _ _ _ c.explain-reasons.ensures (laid_grid every t said.rows c.complete.ensures)
    ∙ all_stored (marked) t c.args.border c.args.p.now _ _ (passes) c.if-ends-header.false c.if-rows-header.false
