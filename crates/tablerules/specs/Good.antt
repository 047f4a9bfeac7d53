-- What a table that was judged has: lengths as its header says, every record in range, T in balance, no border given twice.
-- Functions on judged tables ask for `Good`; that judging and reading give it is proved (`GoodLaws.antt`).
use Rattle.refusals.specs.Refusals.{Ruling}
use Rattle.std.specs.Prelude.{◌≡◌, true, false, [], ℕ, ◌*◌, ◌<◌, length, get_or, Err, Ok}
use Rattle.types.specs.LineColumns.{border_items, row_items}
use Rattle.types.specs.Ranges.{at_ℤ, header_fits, allocated_items, zone_fits, border_fits, row_fits, factor_fits}
use Rattle.tablerules.specs.Table.{Table, balanced, twice, front}

-- lengths as the header says, and a header in range
pub record Exact (t : Table) : Type 0 where
  pub header : header_fits t.header ≡ true
  pub nets_long : length t.nets ≡ t.header.zones
  pub allocated_long : length t.allocated ≡ allocated_items t.header
  pub borders_long : length t.borders ≡ t.header.borders
  pub rows_long : length t.rows ≡ t.header.rows
  pub factors_long : length t.factors ≡ t.header.rows * t.header.zones

pub record Good (t : Table) : Type 0 where
  pub exact : Exact t
  pub nets_fit : (i : ℕ) → i < t.header.zones → zone_fits (at_ℤ t.nets i) ≡ true
  pub allocated_fit : (i : ℕ) → i < allocated_items t.header → zone_fits (at_ℤ t.allocated i) ≡ true
  pub in_balance : balanced t.allocated ≡ true
  pub borders_fit : (b : ℕ) → b < t.header.borders → border_fits t.header.zones (get_or t.borders b []) ≡ true
  pub rows_fit : (i : ℕ) → i < t.header.rows → row_fits (get_or t.rows i []) ≡ true
  pub factors_fit : (k : ℕ) → k < t.header.rows * t.header.zones → factor_fits (at_ℤ t.factors k) ≡ true
  pub once : (b : ℕ) → b < t.header.borders → twice t.borders b ≡ false

-- what judging lent tables gives: where they passed, their front is good
abbrev pub GoodIn : Ruling → (given : Table) → Type 0
GoodIn (Ok tt) given = Good (front given)
GoodIn (Err w) given = Unit {0}

-- a raw border record has five numbers, a raw row record seven: what a lent record's type says of it
pub record Shaped (t : Table) : Type 0 where
  pub borders_wide : (b : ℕ) → b < t.header.borders → length (get_or t.borders b []) ≡ border_items
  pub rows_wide : (i : ℕ) → i < t.header.rows → length (get_or t.rows i []) ≡ row_items
