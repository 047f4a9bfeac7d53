-- The table as a value, and how lent tables are judged (01, "The table as text", "When the table is turned away").
-- Every definition above this file speaks of a `Table`. Raw records hold no index.
use Rattle.std.specs.Prelude.{Bool, not, ◌&&◌, List, [], ℕ, ◌+◌, ◌*◌, ℤ, pos, length, get_or, take, drop, Ok, None, Option, Some}
use Rattle.numbers.specs.Below.{some_below}
use Rattle.numbers.specs.Ints.{same_ℤ, sum_ℤ}
use Rattle.refusals.specs.Refusals.{Judged, then, unless, refuse_first, need, out_of_range, given_twice}
use Rattle.types.specs.declared.Header.{Header}
use Rattle.types.specs.declared.Border.{Border}
use Rattle.types.specs.declared.Row.{Row}
use Rattle.types.specs.Ranges.{at_ℤ, all_true, header_fits, allocated_items, zone_fits, border_fits, border_of, row_of, row_line_tests}
use Rattle.tablerules.specs.declared.TableView.{TableView}

-- the header, and as many items as it says: net positions, allocated net positions (02, E12: one a zone, or none), raw border and row records, and the factors
-- of all rows (lent tables may hold more)
pub record Table : Type 0 where
  pub header : Header
  pub nets : List ℤ
  pub allocated : List ℤ
  pub borders : List (List ℤ)
  pub rows : List (List ℤ)
  pub factors : List ℤ

-- lent tables, as a call takes them
abbrev pub lent : Header → (z t : List ℤ) → (b c : List (List ℤ)) → (f : List ℤ) → Table
lent h z t b c f = record { header = h; nets = z; allocated = t; borders = b; rows = c; factors = f }

abbrev pub lent_view : TableView → Table
lent_view v = lent v.header v.nets.now v.allocated.now v.borders.now v.rows.now v.factors.now

-- row i's stretch of a table of factors starts at item i x zones
unfoldable pub stretch : (zones : ℕ) → (factors : List ℤ) → (i : ℕ) → List ℤ
stretch zones factors i = take zones (drop (i * zones) factors)

abbrev pub border_at : Table → (b : ℕ) → Border
border_at t b = border_of (get_or t.borders b [])

abbrev pub row_at : Table → (i : ℕ) → Row
row_at t i = row_of (get_or t.rows i [])

abbrev pub factors_at : Table → (i : ℕ) → List ℤ
factors_at t i = stretch t.header.zones t.factors i

-- the number of a record's line in the text: the H line is line 1; then come all Z lines, all T lines (if the table has them), all B lines, all C lines
abbrev pub header_line_no : ℕ
header_line_no = 1

abbrev pub zone_line_no : ℕ
zone_line_no = header_line_no + 1

abbrev pub allocated_line_no : Header → ℕ
allocated_line_no h = zone_line_no + h.zones

abbrev pub border_line_no : Header → ℕ
border_line_no h = allocated_line_no h + allocated_items h

abbrev pub row_line_no : Header → ℕ
row_line_no h = border_line_no h + h.borders

-- the last T line, where the table has T lines: as many lines as H, Z and T have together
abbrev pub last_allocated_line_no : Header → ℕ
last_allocated_line_no h = header_line_no + h.zones + allocated_items h

-- the line after the last C line
abbrev pub past_line_no : Header → ℕ
past_line_no h = row_line_no h + h.rows

-- the T positions sum to zero; so do none at all
unfoldable pub balanced : (allocated : List ℤ) → Bool
balanced allocated = same_ℤ (sum_ℤ (length allocated) (at_ℤ allocated)) (pos 0)

-- 4: border b has the same from and to, and the same hubs in their order (02, E3), as an earlier border
abbrev pub same_ends : (x y : List ℤ) → Bool
same_ends x y =
    same_ℤ (at_ℤ x 0) (at_ℤ y 0) && same_ℤ (at_ℤ x 1) (at_ℤ y 1)
    && same_ℤ (at_ℤ x 3) (at_ℤ y 3) && same_ℤ (at_ℤ x 4) (at_ℤ y 4)

unfoldable pub twice : (borders : List (List ℤ)) → (b : ℕ) → Bool
twice borders b = some_below b (λ e. same_ends (get_or borders e []) (get_or borders b []))

abbrev pub not_twice : Table → Judged Table
not_twice t = refuse_first t.header.borders (twice t.borders) given_twice (Ok t)

-- a row record with its factors, all in range
abbrev pub row_good : (values factors : List ℤ) → Bool
row_good values factors = all_true (row_line_tests values factors)

-- 8, in the order Z, T, B, C, factors: a table of this header, in buffers of so many items
unfoldable pub room_for : {A : Type 0} → Header → (z t b c f : ℕ) → Judged A → Judged A
room_for h z t b c f next = need h.zones z (need (allocated_items h) t (need h.borders b (need h.rows c (need (h.rows * h.zones) f next))))

abbrev pub table_room : {A : Type 0} → Header → (given : Table) → Judged A → Judged A
table_room h given next = room_for h (length given.nets) (length given.allocated) (length given.borders) (length given.rows) (length given.factors) next

-- the items that a header asks for, of lent tables that may hold more
abbrev pub front : (given : Table) → Table
front given =
    let h = given.header in
    record {
      header = h;
      nets = take h.zones given.nets;
      allocated = take (allocated_items h) given.allocated;
      borders = take h.borders given.borders;
      rows = take h.rows given.rows;
      factors = take (h.rows * h.zones) given.factors;
    }

-- each record in range, with the line it would have; the sum of T is judged at the last T line, after that line's own range
abbrev pub in_range : Table → Judged Table
in_range t =
    let h = t.header in
    refuse_first h.zones (λ i. not (zone_fits (at_ℤ t.nets i))) (λ i. out_of_range (zone_line_no + i))
    (refuse_first (allocated_items h) (λ i. not (zone_fits (at_ℤ t.allocated i))) (λ i. out_of_range (allocated_line_no h + i))
    (unless (balanced t.allocated) (out_of_range (last_allocated_line_no h))
    (refuse_first h.borders (λ i. not (border_fits h.zones (get_or t.borders i []))) (λ i. out_of_range (border_line_no h + i))
    (refuse_first h.rows (λ i. not (row_good (get_or t.rows i []) (factors_at t i))) (λ i. out_of_range (row_line_no h + i))
    (Ok t)))))

-- a call on lent tables judges the header (3, line 1) and then lengths (8); what passes is the front of them
unfoldable pub judge_shape : (given : Table) → Judged Table
judge_shape given =
    unless (header_fits given.header) (out_of_range header_line_no)
    (table_room given.header given
    (Ok (front given)))

-- where a call is lent a table of p too, room in it for each row at each border (8)
abbrev pub room_for_p : {A : Type 0} → Option ℕ → Header → Judged A → Judged A
room_for_p None h next = next
room_for_p (Some items) h next = need (h.rows * h.borders) items next

-- the records: ranges (3), and then borders given twice (4). They are judged after all lengths
abbrev pub judge_records : Table → Judged Table
judge_records t = then (in_range t) not_twice

unfoldable pub judge_for : Option ℕ → (given : Table) → Judged Table
judge_for room given = then (judge_shape given) (λ t. room_for_p room t.header (judge_records t))

-- lent tables, for a call that is lent no table of p
abbrev pub judge_lent : (given : Table) → Judged Table
judge_lent given = judge_for None given
