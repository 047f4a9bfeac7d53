-- 01, "Margin of a row": S, the sum of p times LTA, is the largest sum over all corners. That it is: `s-largest-corner` of crate theorems.
use Rattle.std.specs.Prelude.{◌≡◌, List, ℕ, ◌^◌, ◌<◌, ℤ, pos, length, ◌≤ℤ◌}
use Rattle.marginrules.specs.Margin.{corner_sum, s_of}

pub record LargestCorner (factors : List ℤ) (borders : List (List ℤ)) : Type 0 where
  -- no corner is over S
  pub all : (k : ℕ) → corner_sum factors borders k ≤ℤ pos (s_of factors borders)
  -- one of the 2 ^ borders corners reaches S
  pub corner : ℕ
  pub below : corner < 2 ^ length borders
  pub is : corner_sum factors borders corner ≡ pos (s_of factors borders)
