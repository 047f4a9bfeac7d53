use mathlib.Core.Path.{◌≡◌, sym, subst, ◌∙◌}
use mathlib.Core.Bool.{Bool}
use mathlib.Core.List.{List, []}
use Prim.Native.Nat.{ℕ, ◌<◌, ◌≤◌}
use native.Mathlib.Omega.{arith}
use borrow.Author.Rules.{sfits_of}
use lib.IntN.{ℤ}
use lib.ListN.{length, get_or}
use mir.Facts.{to_z-of_z}
use mir.Syntax.{w64}
use Rattle.numbers.proofs.ListLaws.{filled_none, filled_more, filled_all}
use Rattle.numbers.specs.Ints.{Within}
use Rattle.types.specs.Ranges.{is_intraday, row_of, default_of}
use Rattle.types.proofs.RangeLaws.{default_in}
use Rattle.tablerules.specs.Table.{Table, stretch}
use Rattle.tablerules.specs.Good.{Good}
use Rattle.marginrules.specs.Margin.{f0core_of, s_of, ram_of, ram_at, start_by, margin_of}
use Rattle.marginrules.specs.Magnitudes.{FactorsInRange, NetsInRange, BordersInRange, s_most, ram_most}
use Rattle.marginrules.proofs.MagnitudeLaws.{within_is}
use Rattle.marginrules.proofs.JudgedLaws.{part_long, part_ranges, s_bound, good_factors, good_borders, good_nets, good_allocated}
use Rattle.marginrules.proofs.Small.{ram_in}
use Rattle.margin.proofs.fill_rams.Goals as goal

-- what the parts of a good table ask of a row, and what they come to: its RAM, and where its margin starts
module _ {t : Table} (good : Good t) {i : ℕ} (h : i < t.header.rows) {factors : List ℤ} (e : factors ≡ stretch t.header.zones t.factors i) where
  long : length factors ≡ t.header.zones
  long = part_long (good_factors good) i h e

  ranges : FactorsInRange factors
  ranges = part_ranges (good_factors good) i h e

  borders_in : BordersInRange (length factors) t.borders
  borders_in = subst (λ (n : ℕ). BordersInRange n t.borders) (sym long) (good_borders good)

  nets_in : NetsInRange (length factors) t.nets
  nets_in = subst (λ (n : ℕ). NetsInRange n t.nets) (sym long) (good_nets good)

  allocated_in : NetsInRange (length factors) t.allocated
  allocated_in = subst (λ (n : ℕ). NetsInRange n t.allocated) (sym long) (good_allocated good)

  module _ {s : ℕ} (u : s ≡ s_of factors t.borders) where
    s_in : s ≤ s_most
    s_in = s_bound ranges borders_in u

    module _ {default : ℤ} (d : default ≡ default_of t.header) {ram : ℤ} (v : ram ≡ ram_of default (row_of (get_or t.rows i [])) (f0core_of (row_of (get_or t.rows i [])) factors t.nets) s) where
      ram_is : ram ≡ ram_at t i
      unfolding ram_at
      ram_is = cc

      ram_within : Within ram_most ram
      ram_within = within_is ram_is (ram_in good i h)

      start_is : (intraday : Bool) → intraday ≡ is_intraday t.header → start_by intraday ram s factors t.allocated ≡ margin_of t i
      start_is intraday w = cc ram_is

pub loop-i-init : goal.loop-i-init
loop-i-init c = record { rams-filled = filled_none _ _ _; starts-filled = filled_none _ _ _ }

pub row_factors-factors-requires : goal.row_factors-factors-requires
row_factors-factors-requires c = record { table_factors_in_range = good_factors c.requires.good; i_lt_rows = omega arith }

pub s-s-requires : goal.s-s-requires
s-s-requires c = record {
  factors_in_range = ranges c.requires.good (omega arith) c.row_factors-factors.ensures;
  borders_in_range = borders_in c.requires.good (omega arith) c.row_factors-factors.ensures;
}

pub offset_bounds-view-i : goal.offset_bounds-view-i
offset_bounds-view-i c = omega (arith, c.requires.good.exact.rows_long)

pub bounds-view-i : goal.bounds-view-i
bounds-view-i c = omega (arith, c.requires.good.exact.rows_long)

pub row_ram-ram-requires : goal.row_ram-ram-requires
row_ram-ram-requires c = record {
  within = simp (to_z-of_z, sfits_of {w = w64} {z = c.default_share-default.result} c.default_share-default.type_inv) (within_is c.default_share-default.ensures (default_in _ c.requires.good.exact.header));
  raw_value = c.requires.good.rows_fit c.loop-i.i (omega arith);
  factors_in_range = ranges c.requires.good (omega arith) c.row_factors-factors.ensures;
  nets_in_range = nets_in c.requires.good (omega arith) c.row_factors-factors.ensures;
  s_le_s_most = s_in c.requires.good (omega arith) c.row_factors-factors.ensures c.s-s.ensures;
}

pub offset_bounds-rams-i : goal.offset_bounds-rams-i
offset_bounds-rams-i c = omega (arith, c.loop-i.invariant.rams-filled.as_long, c.requires.rams_len.0)

pub bounds-rams-i : goal.bounds-rams-i
bounds-rams-i c = omega (arith, c.loop-i.invariant.rams-filled.as_long, c.requires.rams_len.0)

pub start-requires : goal.start-requires
start-requires c = record {
  within = simp (to_z-of_z, sfits_of {w = w64} {z = c.row_ram-ram.result} c.row_ram-ram.type_inv)
      (ram_within c.requires.good (omega arith) c.row_factors-factors.ensures c.s-s.ensures c.default_share-default.ensures (simp (to_z-of_z, sfits_of {w = w64} {z = c.default_share-default.result} c.default_share-default.type_inv) at c.row_ram-ram.ensures));
  s_le_s_most = s_in c.requires.good (omega arith) c.row_factors-factors.ensures c.s-s.ensures;
  factors_in_range = ranges c.requires.good (omega arith) c.row_factors-factors.ensures;
  nets_in_range = allocated_in c.requires.good (omega arith) c.row_factors-factors.ensures;
}

pub offset_bounds-starts-i : goal.offset_bounds-starts-i
offset_bounds-starts-i c = omega (arith, c.loop-i.invariant.starts-filled.as_long, c.requires.rams_len.1)

pub bounds-starts-i : goal.bounds-starts-i
bounds-starts-i c = omega (arith, c.loop-i.invariant.starts-filled.as_long, c.requires.rams_len.1)

pub overflow_step-i : goal.overflow_step-i
overflow_step-i c = omega (arith, c.loop-i.invariant.starts-filled.as_long, c.requires.rams_len.1)

pub loop-i-preserved : goal.loop-i-preserved
loop-i-preserved c =
    let below : c.loop-i.i < c.args.view.now.header.rows = omega arith in
    let given = simp (to_z-of_z, sfits_of {w = w64} {z = c.default_share-default.result} c.default_share-default.type_inv) at c.row_ram-ram.ensures in
    let started = simp (to_z-of_z, sfits_of {w = w64} {z = c.row_ram-ram.result} c.row_ram-ram.type_inv) at c.start.ensures in
    record {
      rams-filled = filled_more c.loop-i.invariant.rams-filled _ below (omega (arith, c.requires.rams_len.0))
          (to_z-of_z {w = w64} (sfits_of {w = w64} {z = c.row_ram-ram.result} c.row_ram-ram.type_inv) ∙ ram_is c.requires.good below c.row_factors-factors.ensures c.s-s.ensures c.default_share-default.ensures given);
      starts-filled = filled_more c.loop-i.invariant.starts-filled _ below (omega (arith, c.requires.rams_len.1))
          (to_z-of_z {w = w64} (sfits_of c.start.type_inv) ∙ started ∙ start_is c.requires.good below c.row_factors-factors.ensures c.s-s.ensures c.default_share-default.ensures given _ c.is_intraday-intraday.ensures);
    }

pub shape_of-rams : goal.shape_of-rams
shape_of-rams c = c.loop-i.invariant.rams-filled.as_long

pub shape_of-starts : goal.shape_of-starts
shape_of-starts c = c.loop-i.invariant.starts-filled.as_long

pub returns : goal.returns
returns c = (filled_all c.loop-i.invariant.rams-filled (omega arith) c.requires.rams_len.0, filled_all c.loop-i.invariant.starts-filled (omega arith) c.requires.rams_len.1)
