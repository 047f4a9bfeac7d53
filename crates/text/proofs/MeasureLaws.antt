-- Lines whose lengths a loop adds up, where none has more than q bytes, so that no sum overflows. No contract cites this file.
use mathlib.Core.Path.{◌≡◌, sym, ◌∙◌}
use mathlib.Core.List.{List}
use Prim.Native.Nat.{ℕ, ◌+◌, ◌*◌, ◌≤◌, ◌<◌}
use native.Mathlib.Nat.{suc-mul}
use native.Mathlib.Numerals.{add-one}
use native.Mathlib.Omega.{arith}
use lib.ListN.{length}
use Rattle.numbers.proofs.BelowLaws.{Summed, summed_none, summed_more, summed_all}
use Rattle.text.specs.Written.{lines_text}
use Rattle.text.proofs.PutLaws.{lines_length}

-- the lengths of the first i of n lines, added up
pub record Measured (line : ℕ → List ℕ) (q n i total : ℕ) : Type 0 where
  pub summed : Summed (λ k. length (line k)) n i total
  pub few : total ≤ i * q

pub measured_none : (line : ℕ → List ℕ) (q n : ℕ) → Measured line q n 0 0
measured_none line q n = record { summed = summed_none _ n; few = omega arith }

module _ {line : ℕ → List ℕ} {q n i total : ℕ} (u : Measured line q n i total) where
  pub measured_more : (v : ℕ) → i < n → v ≡ length (line i) → length (line i) ≤ q → Measured line q n (i + 1) (total + v)
  measured_more v h e l = record { summed = summed_more u.summed v h e; few = rw (add-one i) (omega (arith, u.few, e, suc-mul i q)) }

  pub measured_all : n ≤ i → total ≡ length (lines_text n 0 line)
  measured_all h = summed_all u.summed h ∙ sym (lines_length line n)
