-- What the functions that list corners ask and leave: how large a part and a flow can be, in grains, and flows in front of what a buffer held.
use Rattle.std.specs.Prelude.{◌≡◌, List, ℕ, ◌*◌, ℤ, length}
use Rattle.numbers.specs.Below.{over}
use Rattle.types.specs.LineLimits.{lta_most}
use Rattle.marginrules.specs.Magnitudes.{p_most}
use Rattle.cornerrules.specs.Corners.{sheet_borders_most}

-- a border's part, and a sum of parts, in magnitude
abbrev pub part_most : ℕ
part_most = p_most * (lta_most * 1000)

abbrev pub corner_flow_most : ℕ
corner_flow_most = sheet_borders_most * part_most

-- the flows stand in front of a buffer, `count` of them, and the rest is not changed
pub record FlowsListed (flows old : List ℤ) (count : ℕ) (out : List ℤ) : Type 0 where
  pub counted : count ≡ length flows
  pub wrote : out ≡ over flows old
