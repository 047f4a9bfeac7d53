-- 01, "Margin of a row": each value named in the list stays under 2^48 in magnitude (p is a factor, the others are grains). RAM less a flow stays under 2^49 (02, E12).
-- That it does, of every judged table, is `named-values-small` of `proofs/Small.antt`.
use Rattle.std.specs.Prelude.{ℕ, ◌^◌, ◌<◌, ℤ, pos, nat_abs, ◌-ℤ◌}
use Rattle.types.specs.Ranges.{default_of}
use Rattle.tablerules.specs.Table.{Table, row_at, border_at, factors_at}
use Rattle.marginrules.specs.Margin.{flow_of, f0core_of, fuaf_of, base_of, amr_of, p_of, lta_margin_of, s_at, ram_at, margin_of}
use Rattle.marginrules.specs.Magnitudes.{named_bits, start_bits}

-- F0core of row i of a table
abbrev pub f0core_at : Table → (i : ℕ) → ℤ
f0core_at t i = f0core_of (row_at t i) (factors_at t i) t.nets

pub record NamedSmall (t : Table) (i : ℕ) : Type 0 where
  pub f0core : nat_abs (f0core_at t i) < 2 ^ named_bits
  pub fuaf : nat_abs (fuaf_of (row_at t i) (f0core_at t i)) < 2 ^ named_bits
  pub base : nat_abs (base_of (row_at t i) (f0core_at t i)) < 2 ^ named_bits
  pub amr : nat_abs (amr_of (default_of t.header) (row_at t i) (f0core_at t i)) < 2 ^ named_bits
  pub p : (b : ℕ) → b < t.header.borders → p_of (factors_at t i) (border_at t b) < 2 ^ named_bits
  pub s : s_at t.header t.borders t.factors i < 2 ^ named_bits
  pub lta_margin : nat_abs (lta_margin_of (row_at t i) (f0core_at t i) (amr_of (default_of t.header) (row_at t i) (f0core_at t i)) (s_at t.header t.borders t.factors i)) < 2 ^ named_bits
  pub ram : nat_abs (ram_at t i) < 2 ^ named_bits
  pub less_s : nat_abs (ram_at t i -ℤ pos (s_at t.header t.borders t.factors i)) < 2 ^ named_bits
  pub remainder : nat_abs (ram_at t i -ℤ flow_of (factors_at t i) t.allocated) < 2 ^ start_bits
  -- the starting margin, whichever of the two the profile takes
  pub start : nat_abs (margin_of t i) < 2 ^ start_bits
