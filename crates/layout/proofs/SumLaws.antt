-- Lengths of lines as they are added up, and a row's part of lent factors. No contract cites this file.
use mathlib.Core.Path.{◌≡◌, sym, ◌∙◌}
use mathlib.Core.List.{List}
use Prim.Native.Nat.{ℕ, ◌+◌, ◌*◌, ◌-◌, ◌≤◌, ◌<◌}
use native.Mathlib.Omega.{arith}
use lib.ListN.{length}
use Rattle.numbers.proofs.BelowLaws.{Summed, sum_part, summed_all}
use Rattle.limits.specs.Limits.{bytes_most}
use Rattle.text.specs.Written.{lines_text}
use Rattle.text.proofs.PutLaws.{lines_length}

-- ---- a row's part of the factors is as long as there are zones
pub part_count : (i zones : ℕ) → i * zones + zones - i * zones ≡ zones
part_count i zones = omega arith

-- ---- lengths of lines, added up
module _ (line : ℕ → List ℕ) (n : ℕ) (few : length (lines_text n 0 line) ≤ bytes_most) {i s : ℕ} (u : Summed (λ i. length (line i)) n i s) where
  pub sum_within : i < n → s + length (line i) ≤ bytes_most
  sum_within h = omega (arith, u.total, lines_length line n, sum_part n (λ i. length (line i)) i h)

  pub sum_lines : n ≤ i → s ≡ length (lines_text n 0 line)
  sum_lines h = summed_all u h ∙ sym (lines_length line n)
