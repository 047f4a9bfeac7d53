-- The items of an hour's borders: where each goes, and its ATC; and items at a place of a table. Contracts of `items` cite them.
use Rattle.std.specs.Prelude.{List, [], ℕ, ◌+◌, ℤ, nat_abs, length, get_or, None, Option, Some}
use Rattle.std.proofs.Math.Seq.{paste}
use Rattle.numbers.specs.Below.{table}
use Rattle.types.specs.declared.Hubs.{Hubs}
use Rattle.types.specs.declared.Border.{Border}
use Rattle.types.specs.Ranges.{at_ℤ, border_of}
use Rattle.daysheet.specs.Sheet.{way_of}

-- a hub in a way: one higher than its zone, and 0 where there is none
abbrev pub sending_of : Option Hubs → ℕ
sending_of None = 0
sending_of (Some hubs) = hubs.sending + 1

abbrev pub receiving_of : Option Hubs → ℕ
receiving_of None = 0
receiving_of (Some hubs) = hubs.receiving + 1

-- where a border goes
unfoldable pub border_way : Border → ℕ
border_way b = way_of b.from b.to (sending_of b.hubs) (receiving_of b.hubs)

-- where each of raw borders goes
unfoldable pub ways_of : (borders : List (List ℤ)) → List ℕ
ways_of borders = table (length borders) (λ b. border_way (border_of (get_or borders b [])))

-- the ATC of each border, which is the first number of its record
unfoldable pub atcs_of : (records : List (List ℤ)) → List ℕ
atcs_of records = table (length records) (λ b. nat_abs (at_ℤ (get_or records b []) 0))

-- items at a place of a lent table: all else is as it was
abbrev pub pasted : (place : ℕ) → (items old : List ℕ) → List ℕ
pasted place items old = paste old place items (length items)
