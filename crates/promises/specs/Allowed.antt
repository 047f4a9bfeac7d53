-- What a list of rows allows (02, E10): the net positions that load no row of it beyond its RAM, and that two lists allow the same. That an accepted list of claims changes
-- nothing there: `claimed-rows-can-go` of crate theorems.
use Rattle.std.specs.Prelude.{◌≡◌, Bool, true, ◌↔◌, ℕ, ◌<◌, ℤ, pos, ◌*ℤ◌, ◌≤ℤ◌}
use Rattle.numbers.specs.Ints.{sum_ℤ}
use Rattle.types.specs.Ranges.{at_ℤ}
use Rattle.tablerules.specs.Table.{Table, factors_at}
use Rattle.marginrules.specs.Margin.{ram_at}

-- Net positions are rational numbers of kW, written over one denominator: q z / k at zone z.
-- k times their load on row i, in grains
unfoldable pub net_load : Table → (q : ℕ → ℤ) → (i : ℕ) → ℤ
net_load t q i = sum_ℤ t.header.zones (λ z. at_ℤ (factors_at t i) z *ℤ q z)

-- net positions q / k that a list of rows allows: no row of it is loaded beyond its RAM, each side taken k times
pub record Allowed (t : Table) (listed : ℕ → Bool) (k : ℕ) (q : ℕ → ℤ) : Type 0 where
  pub each : (i : ℕ) → i < t.header.rows → listed i ≡ true → net_load t q i ≤ℤ (pos k *ℤ ram_at t i)

-- two lists of rows allow the same net positions, among those that sum to zero
pub record Same (t : Table) (listed listed' : ℕ → Bool) : Type 0 where
  pub same : (k : ℕ) → 0 < k → (q : ℕ → ℤ) → sum_ℤ t.header.zones q ≡ pos 0 → Allowed t listed k q ↔ Allowed t listed' k q

-- whole net positions q that a list of rows allows, which are q / 1
pub record WholeAllowed (t : Table) (listed : ℕ → Bool) (q : ℕ → ℤ) : Type 0 where
  pub each : (i : ℕ) → i < t.header.rows → listed i ≡ true → net_load t q i ≤ℤ ram_at t i
