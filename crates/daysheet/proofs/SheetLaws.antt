-- The laws of `specs/Sheet.antt` that proofs cite. No contract cites this file.
use Rattle.std.proofs.Common.{◌≤◌, ℕ, Bool, true, false, not, cond, ltb, Some, None, List, length, unwrap_or, arith}
use Rattle.std.proofs.lemmas.List.Sums.{prefix_len-le-length}
use Rattle.std.specs.List.{position_or_len}
use Rattle.daysheet.specs.declared.Hour.{Hour}
use Rattle.daysheet.specs.Sheet.{has_border, first_with}

-- ---- the first hour that has a border is one of them, or none
pub first_le : (b : ℕ) (hours : List Hour) → first_with b hours ≤ length hours
first_le b hours = go (ltb (position_or_len (has_border b) hours) (length hours))
  where
    go : (v : Bool) → unwrap_or (cond v (Some (position_or_len (has_border b) hours)) None) (length hours) ≤ length hours
    go true = prefix_len-le-length (λ h. not (has_border b h)) hours
    go false = omega arith
