use mathlib.Core.Path.{sym, subst, ◌∙◌}
use Prim.Native.Nat.{ℕ}
use native.Mathlib.Omega.{arith}
use borrow.Author.Rules.{sfits_of}
use mir.Facts.{to_z-of_z}
use mir.Syntax.{w64}
use mir.Val.{SFits}
use Rattle.numbers.proofs.ListLaws.{filled_none, filled_more, filled_over}
use Rattle.numbers.proofs.IntLaws.{plain}
use Rattle.types.proofs.RangeLaws.{default_in}
use Rattle.marginrules.specs.Magnitudes.{NetsInRange, BordersInRange}
use Rattle.marginrules.proofs.MagnitudeLaws.{within_is}
use Rattle.marginrules.proofs.JudgedLaws.{part_long, part_ranges}
use Rattle.parts.proofs.PartsLaws.{stored_at}
use Rattle.parts.proofs.store_parts.Goals as goal

pub loop-i-init : goal.loop-i-init
loop-i-init c = filled_none _ _ _

pub row_factors-factors-requires : goal.row_factors-factors-requires
row_factors-factors-requires c = record { table_factors_in_range = c.requires.storable.factors_in; i_lt_rows = omega arith }

pub offset_bounds-states-i : goal.offset_bounds-states-i
offset_bounds-states-i c = omega (arith, c.requires.states_len.0)

pub bounds-states-i : goal.bounds-states-i
bounds-states-i c = omega (arith, c.requires.states_len.0)

pub offset_bounds-rams-i : goal.offset_bounds-rams-i
offset_bounds-rams-i c = omega (arith, c.requires.rams_len.0)

pub bounds-rams-i : goal.bounds-rams-i
bounds-rams-i c = omega (arith, c.requires.rams_len.0)

pub offset_bounds-starts-i : goal.offset_bounds-starts-i
offset_bounds-starts-i c = omega (arith, c.requires.rams_len.1)

pub bounds-starts-i : goal.bounds-starts-i
bounds-starts-i c = omega (arith, c.requires.rams_len.1)

pub offset_bounds-c-i : goal.offset_bounds-c-i
offset_bounds-c-i c = omega (arith, c.requires.storable.rows_long)

pub bounds-c-i : goal.bounds-c-i
bounds-c-i c = omega (arith, c.requires.storable.rows_long)

pub row_parts-requires : goal.row_parts-requires
row_parts-requires c = let long = part_long c.requires.storable.factors_in c.loop-i.i (omega arith) c.row_factors-factors.ensures in
    let default_fits : SFits w64 c.default_share-default.result = sfits_of c.default_share-default.type_inv in record { within = simp (to_z-of_z, default_fits) (within_is c.default_share-default.ensures (default_in _ c.requires.storable.header)); raw_value = c.requires.storable.rows_in_lem c.loop-i.i (omega arith); factors_in_range = part_ranges c.requires.storable.factors_in c.loop-i.i (omega arith) c.row_factors-factors.ensures; nets_in_range = subst (λ (n : ℕ). NetsInRange n c.args.z.now) (sym long) c.requires.storable.nets_in; borders_in_range = subst (λ (n : ℕ). BordersInRange n c.args.b.now) (sym long) c.requires.storable.borders_in; state_bound = c.requires.storable.states_in c.loop-i.i (omega arith) }

pub offset_bounds-out-i : goal.offset_bounds-out-i
offset_bounds-out-i c = omega (arith, c.loop-i.invariant.as_long, c.requires.states_len.1)

pub bounds-out-i : goal.bounds-out-i
bounds-out-i c = omega (arith, c.loop-i.invariant.as_long, c.requires.states_len.1)

pub overflow_step-i : goal.overflow_step-i
overflow_step-i c = omega (arith, c.loop-i.invariant.as_long, c.requires.states_len.1)

pub loop-i-preserved : goal.loop-i-preserved
loop-i-preserved c = let default_fits : SFits w64 c.default_share-default.result = sfits_of c.default_share-default.type_inv in
    let start_fits : SFits w64 c.start_from-start.result = sfits_of c.start_from-start.type_inv in
    let start = simp (plain, c.start_from-arg-1.given) at c.start_from-start.ensures in
    let row = simp (to_z-of_z, plain, default_fits, c.ram-1.given, start_fits) at c.row_parts.ensures in
    filled_more c.loop-i.invariant _ (omega arith) (omega (arith, c.requires.states_len.1))
    (row ∙ stored_at c.args.h c.args.z.now c.args.b.now c.args.c.now c.args.f.now c.args.rams.now c.args.starts.now c.args.states.now c.loop-i.i c.default_share-default.ensures c.is_intraday-intraday.ensures c.row_factors-factors.ensures start)

pub shape_of-out : goal.shape_of-out
shape_of-out c = c.loop-i.invariant.as_long

pub returns : goal.returns
returns c = filled_over c.loop-i.invariant (omega arith)
