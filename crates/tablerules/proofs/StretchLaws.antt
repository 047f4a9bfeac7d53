-- The laws of `specs/Table.antt`'s `stretch`: where row i's stretch of the factors ends, and what stands in it. No contract cites this file.
use Prim.Native.Nat.{ℕ, ◌+◌, ◌*◌, ◌≤◌, ◌<◌}
use native.Mathlib.Nat.{mul-le-mul_right, suc-mul}
use native.Mathlib.Omega.{arith}

-- the stretch of one of `rows` rows ends within rows x zones
pub stretch_end : (zones rows i : ℕ) → i < rows → i * zones + zones ≤ rows * zones
stretch_end zones rows i h = omega (arith, mul-le-mul_right zones h, suc-mul i zones)
