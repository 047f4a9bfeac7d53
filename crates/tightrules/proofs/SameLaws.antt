-- The measures of a grid ask for p at its rows and borders alone. No contract cites this file.
use mathlib.Core.Path.{◌≡◌, refl, ap, ap₂}
use mathlib.Core.List.{List}
use Prim.Native.Nat.{ℕ, zero, suc, ◌-◌, ◌/◌, ◌<◌}
use native.Mathlib.Omega.{arith}
use Rattle.numbers.specs.Below.{at, least, or_zero}
use Rattle.numbers.proofs.BelowLaws.{count_cong}
use Rattle.rounds.specs.Rounds.{sharers, alone, most_sharers, bits, alone_bits}
use Rattle.rounds.proofs.Laid.{grid}
use Rattle.tightrules.specs.Tight.{steps, row_reach, reach, farthest, tight_bound}
use Rattle.tightrules.specs.Measure.{bound_by}
use Rattle.tightrules.proofs.PassLaws.{largest_cong}

least_cong : (k : ℕ) (w w' f f' : ℕ → ℕ) → ((i : ℕ) → i < k → (w i ≡ w' i) × (f i ≡ f' i)) → least k w f ≡ least k w' f'
unfolding least
least_cong zero w w' f f' e = refl
least_cong (suc k) w w' f f' e = rw ((e k (omega arith)).0, (e k (omega arith)).1, least_cong k w w' f f' (λ i h. e i (omega arith)))

-- two grids that agree on p have the same measures
module _ (rows borders : ℕ) (p p' : ℕ → ℕ → ℕ) (e : (i b : ℕ) → i < rows → b < borders → p i b ≡ p' i b) (m : List ℕ) where
  same-sharers : (i : ℕ) → i < rows → sharers (grid rows borders p) i ≡ sharers (grid rows borders p') i
  unfolding sharers
  same-sharers i h = count_cong borders (p i) (p' i) (λ b hb. e i b h hb)

  same-most : most_sharers (grid rows borders p) ≡ most_sharers (grid rows borders p')
  unfolding most_sharers
  same-most = largest_cong rows (sharers (grid rows borders p)) (sharers (grid rows borders p')) same-sharers

  same-alone : (b : ℕ) → b < borders → alone (grid rows borders p) m b ≡ alone (grid rows borders p') m b
  unfolding alone
  same-alone b hb = ap or_zero (least_cong rows (λ i. p i b) (λ i. p' i b) (λ i. at m i / p i b) (λ i. at m i / p' i b) (λ i h. (e i b h hb, ap (λ (f : ℕ). at m i / f) (e i b h hb))))

  same-reach : (b : ℕ) → b < borders → reach (grid rows borders p) m b ≡ reach (grid rows borders p') m b
  unfolding reach row_reach
  same-reach b hb =
      ap or_zero
      (least_cong rows (λ i. p i b) (λ i. p' i b) (row_reach (grid rows borders p) m b) (row_reach (grid rows borders p') m b)
      (λ i h. (e i b h hb, ap₂ (λ (f n : ℕ). at m i / f - (n - 1)) (e i b h hb) (same-sharers i h))))

  same_bits : alone_bits (grid rows borders p) m ≡ alone_bits (grid rows borders p') m
  unfolding alone_bits
  same_bits = ap bits (largest_cong borders (alone (grid rows borders p) m) (alone (grid rows borders p') m) same-alone)

  same-sharp : tight_bound (grid rows borders p) m ≡ tight_bound (grid rows borders p') m
  unfolding tight_bound farthest
  same-sharp = ap₂ steps same-most (largest_cong borders (reach (grid rows borders p) m) (reach (grid rows borders p') m) same-reach)

  pub same_bound : bound_by (grid rows borders p) m ≡ bound_by (grid rows borders p') m
  unfolding bound_by
  same_bound = rw (same-most, same_bits, same-sharp)
