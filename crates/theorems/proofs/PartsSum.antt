-- What the values of a record are to one another. Nobody cites these: they are for the planner who reads a row's line from left to right.
use mathlib.Core.Path.{◌≡◌, refl}
use mathlib.Core.Bool.{true, false}
use Prim.Native.Nat.{ℕ}
use lib.IntN.{pos, ◌+ℤ◌, ◌-ℤ◌}
use Rattle.numbers.specs.Ints.{max_ℤ}
use Rattle.types.specs.Ranges.{is_intraday}
use Rattle.tablerules.specs.Table.{Table, factors_at}
use Rattle.marginrules.specs.Margin.{flow_of, ram_of, ram_at}
use Rattle.partrules.specs.Parts.{start_from, parts_of}

module _ (t : Table) (i : ℕ) where
  -- RAM = Base + AMR + LTA margin - CVA - IVA
  pub ram_is_the_sum : let m = parts_of t i in m.ram ≡ m.base +ℤ m.amr +ℤ m.lta_margin -ℤ m.cva -ℤ m.iva
  unfolding parts_of ram_at ram_of
  ram_is_the_sum = refl

  -- a row's margin starts at RAM - S
  pub day_ahead_start : is_intraday t.header ≡ false → let m = parts_of t i in m.start ≡ m.ram -ℤ pos m.s
  unfolding parts_of start_from
  day_ahead_start e = rw e

  -- in the intraday profile a row's margin starts at RAM less the sum of factor times T, taken as 0 where negative
  pub intraday_start : is_intraday t.header ≡ true → let m = parts_of t i in m.start ≡ max_ℤ (m.ram -ℤ flow_of (factors_at t i) t.allocated) (pos 0)
  unfolding parts_of start_from
  intraday_start e = rw e
