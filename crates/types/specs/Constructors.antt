-- What each judging constructor answers: the value where the raw record is in range (`Ranges.antt`), else none.
use Rattle.std.specs.Prelude.{cond, List, ℕ, ℤ, None, Option, Some}
use Rattle.types.specs.declared.Zone.{Zone}
use Rattle.types.specs.declared.Border.{Border}
use Rattle.types.specs.declared.Row.{Row}
use Rattle.types.specs.Ranges.{zone_fits, border_fits, border_of, row_fits, row_of}

unfoldable pub zone_read : ℤ → Option Zone
zone_read net = cond (zone_fits net) (Some (record { net = net })) None

unfoldable pub border_read : (zones : ℕ) → List ℤ → Option Border
border_read zones raw = cond (border_fits zones raw) (Some (border_of raw)) None

unfoldable pub row_read : List ℤ → Option Row
row_read raw = cond (row_fits raw) (Some (row_of raw)) None
