-- A table with its rows in another order and numbered again (02, E14): row i of the second is row `row i` of the first, record and factors together.
use Rattle.std.specs.Prelude.{◌≡◌, [], ℕ, ◌+◌, ◌*◌, ◌/◌, ◌%◌, ◌<◌, length, get_or}
use Rattle.numbers.specs.Below.{table}
use Rattle.types.specs.Ranges.{at_ℤ}
use Rattle.tablerules.specs.Table.{Table, factors_at}

pub record Reordered (t t' : Table) : Type 0 where
  pub header : t'.header ≡ t.header
  pub nets : t'.nets ≡ t.nets
  pub allocated : t'.allocated ≡ t.allocated
  pub borders : t'.borders ≡ t.borders
  pub rows_long : length t'.rows ≡ length t.rows
  pub factors_long : length t'.factors ≡ length t.factors
  pub row : ℕ → ℕ
  pub place : ℕ → ℕ
  -- each row of the first stands somewhere in the second; since both have as many rows, it stands there just once
  pub row_below : (i : ℕ) → i < t.header.rows → row i < t.header.rows
  pub place_below : (i : ℕ) → i < t.header.rows → place i < t.header.rows
  pub there : (i : ℕ) → i < t.header.rows → row (place i) ≡ i
  pub records : (i : ℕ) → i < t.header.rows → get_or t'.rows i [] ≡ get_or t.rows (row i) []
  pub factors : (i : ℕ) → i < t.header.rows → factors_at t' i ≡ factors_at t (row i)

-- the table with its rows in this order
unfoldable pub reorder : (row : ℕ → ℕ) → Table → Table
reorder row t =
    let zones = t.header.zones in
    record {
      header = t.header;
      nets = t.nets;
      allocated = t.allocated;
      borders = t.borders;
      rows = table t.header.rows (λ i. get_or t.rows (row i) []);
      factors = table (t.header.rows * zones) (λ k. at_ℤ t.factors (row (k / zones) * zones + k % zones));
    }
