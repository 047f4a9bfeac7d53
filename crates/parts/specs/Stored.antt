-- What the inner functions of src/ ask and leave: the parts of a row by the values that are at hand, and of each row by lists of RAMs, starting margins and states.
use Rattle.std.specs.Prelude.{◌≡◌, true, List, [], ℕ, ◌<◌, ◌≤◌, ℤ, length, get_or}
use Rattle.numbers.specs.Below.{at}
use Rattle.types.specs.declared.Header.{Header}
use Rattle.types.specs.declared.Row.{Row}
use Rattle.types.specs.Ranges.{at_ℤ, header_fits, is_intraday, row_fits, row_of, default_of}
use Rattle.tablerules.specs.Table.{stretch}
use Rattle.marginrules.specs.Margin.{grains, f0core_of, fuaf_of, base_of, amr_of, s_of, lta_margin_of}
use Rattle.marginrules.specs.Magnitudes.{TableFactorsInRange, NetsInRange, BordersInRange}
use Rattle.partrules.specs.Parts.{Parts, n_of, start_from}

abbrev pub parts_by : (default : ℤ) → Row → (f0core : ℤ) → (s n state : ℕ) → (ram start : ℤ) → Parts
parts_by default row f0core s n state ram start =
    record {
      state = state;
      n = n;
      f0core = f0core;
      fuaf = fuaf_of row f0core;
      base = base_of row f0core;
      amr = amr_of default row f0core;
      s = s;
      lta_margin = lta_margin_of row f0core (amr_of default row f0core) s;
      cva = grains row.cva;
      iva = grains row.iva;
      ram = ram;
      start = start;
    }

abbrev pub parts_at : Header → (nets : List ℤ) → (borders rows : List (List ℤ)) → (factors rams starts : List ℤ) → (states : List ℕ) → (i : ℕ) → Parts
parts_at h nets borders rows factors rams starts states i =
    let row = row_of (get_or rows i []) in
    let own = stretch h.zones factors i in
    parts_by (default_of h) row (f0core_of row own nets) (s_of own borders) (n_of own borders) (at states i) (at_ℤ rams i) (start_from (is_intraday h) (at_ℤ starts i))

-- what storing the records of all rows asks
pub record Storable (h : Header) (nets : List ℤ) (borders rows : List (List ℤ)) (factors : List ℤ) (states : List ℕ) : Type 0 where
  pub header : header_fits h ≡ true
  pub nets_in : NetsInRange h.zones nets
  pub borders_in : BordersInRange h.zones borders
  pub rows_long : length rows ≡ h.rows
  pub rows_in_lem : (i : ℕ) → i < h.rows → row_fits (get_or rows i []) ≡ true
  pub factors_in : TableFactorsInRange h factors
  pub states_in : (i : ℕ) → i < h.rows → at states i ≤ 2
