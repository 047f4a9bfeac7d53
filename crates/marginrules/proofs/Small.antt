-- 01, "Margin of a row": each value named in the list stays under 2^48 in magnitude, for every judged table, and RAM less a flow under 2^49 (`specs/Small.antt`). No contract cites this file.
-- The bounds are laws with the limits as variables (`MagnitudeLaws.antt`); here stand 01's limits.
use Prim.Native.Nat.{ℕ, ◌≤◌, ◌<◌}
use native.Mathlib.Omega.{arith}
use lib.IntN.{ℤ, pos, ◌-ℤ◌}
use lib.ListN.{length, get_or}
use lib.Signed.{◌≤ℤ◌}
use mathlib.Core.List.{[]}
use mathlib.Core.Path.{◌≡◌, refl, sym, subst}
use mathlib.Core.Bool.{Bool, true, false, cond}
use Rattle.numbers.specs.Ints.{Within}
use Rattle.numbers.proofs.IntLaws.{Between, diffs, zarith, within_le}
use Rattle.limits.specs.Limits.{zones_most}
use Rattle.types.specs.LineLimits.{share_most}
use Rattle.types.specs.Ranges.{is_intraday, border_fits, default_of}
use Rattle.types.proofs.RangeLaws.{row_in, default_in}
use Rattle.tablerules.specs.Table.{Table, row_at, border_at, factors_at}
use Rattle.tablerules.specs.Good.{Good}
use Rattle.marginrules.specs.Margin.{flow_of, p_of, s_at, ram_at, margin_of}
use Rattle.marginrules.specs.Magnitudes.{RowInRange, BordersInRange, p_most, f0core_most, s_most, ram_most, start_most}
use Rattle.marginrules.specs.Small.{f0core_at, NamedSmall}
use Rattle.marginrules.proofs.MagnitudeLaws.{within_flow, within_f0core, within_fuaf, within_base, within_amr, p_most_lem, lta_margin_most, within_ram, within_start}
use Rattle.marginrules.proofs.JudgedLaws.{border_ranges, row_ranges, stretch_long, stretch_ranges, s_bound, good_factors, good_borders, good_nets, good_allocated}

between_low : {m n : ℕ} {z : ℤ} → Between m n z → pos 0 ≤ℤ z
between_low {z} h = rw h.is (simp diffs (omega zarith))

module _ {t : Table} (good : Good t) (i : ℕ) (below : i < t.header.rows) where
  -- the row's values, the default in force, the row's F0core and its S
  row-in-range : RowInRange (row_at t i)
  row-in-range = row_ranges (get_or t.rows i []) (good.rows_fit i below)

  default-in-range : Within share_most (default_of t.header)
  default-in-range = default_in t.header good.exact.header

  fmax-low : pos 0 ≤ℤ (row_at t i).fmax
  fmax-low = between_low (row_in (get_or t.rows i []) (good.rows_fit i below)).fmax

  pub f0core_in : Within f0core_most (f0core_at t i)
  f0core_in =
      let f = good_factors good in
      let n = good_nets good in
      let long = stretch_long f i below in
      within_f0core (row_at t i) row-in-range.fref_in (factors_at t i) t.nets (omega (arith, long, n.few)) (stretch_ranges f i below).each n.each zones_most
      (omega (arith, n.few, f.few))

  abbrev s : ℕ
  s = s_at t.header t.borders t.factors i

  pub s_in : s ≤ s_most
  s_in =
      s_bound (stretch_ranges (good_factors good) i below)
      (subst (λ (n : ℕ). BordersInRange n t.borders) (sym (stretch_long (good_factors good) i below)) (good_borders good)) refl

  pub p_in : (b : ℕ) → b < t.header.borders → p_of (factors_at t i) (border_at t b) ≤ p_most
  p_in b h =
      let f = good_factors good in
      let raw = get_or t.borders b [] in
      p_most_lem (stretch_ranges f i below).each
      (border_ranges (length (factors_at t i)) raw (subst (λ (n : ℕ). border_fits n raw ≡ true) (sym (stretch_long f i below)) (good.borders_fit b h)))

  -- over S, R x Fmax / 10000 - Fuaf, Fmax / 5 and Base
  abbrev top : ℕ
  top = s_most

  pub ram_in : Within ram_most (ram_at t i)
  unfolding ram_at
  ram_in = within_ram default-in-range row-in-range f0core_in top s (omega (arith, s_in)) (omega arith) (omega arith) (omega arith)

  pub less_s_in : Within ram_most (ram_at t i -ℤ pos s)
  unfolding ram_at
  less_s_in = within_start default-in-range row-in-range f0core_in top s (omega (arith, s_in)) (omega arith) (omega arith) (omega arith)

  pub remainder_in : Within start_most (ram_at t i -ℤ flow_of (factors_at t i) t.allocated)
  remainder_in =
      let f = good_factors good in
      let n = good_allocated good in
      let long = stretch_long f i below in
      within_flow ram_in (factors_at t i) t.allocated (omega (arith, long, n.few)) (stretch_ranges f i below).each n.each zones_most (omega (arith, n.few, f.few))

  pub start_in : Within start_most (margin_of t i)
  start_in = go (is_intraday t.header)
    where
      go : (intraday : Bool) → Within start_most (cond intraday (ram_at t i -ℤ flow_of (factors_at t i) t.allocated) (ram_at t i -ℤ pos s))
      go true = remainder_in
      go false = within_le less_s_in (omega arith)

  pub named_values_small : NamedSmall t i
  named_values_small =
      record {
        f0core = omega (arith, f0core_in.abs);
        fuaf = omega (arith, (within_fuaf row-in-range f0core_in).abs);
        base = omega (arith, (within_base row-in-range f0core_in).abs);
        amr = omega (arith, (within_amr row-in-range f0core_in default-in-range).abs);
        p = λ b h. omega (arith, p_in b h);
        s = omega (arith, s_in);
        lta_margin = omega (arith, (lta_margin_most default-in-range row-in-range f0core_in fmax-low s).abs, s_in);
        ram = omega (arith, ram_in.abs);
        less_s = omega (arith, less_s_in.abs);
        remainder = omega (arith, remainder_in.abs);
        start = omega (arith, start_in.abs);
      }
