-- The corner sheet (02, E1): every corner's flow on one row, in grains, as summed for S, and what the open call `corner_flows` leaves.
-- `flows_of`, `judge_corner_sheet`, `sheet_left` and `corners_left` are what contracts cite; `Stands` and `Largest` are what the theorems say of a sheet.
use Rattle.std.specs.Prelude.{◌≡◌, Bool, cond, List, [], ◌∷◌, ◌++◌, ℕ, zero, suc, ◌/◌, ◌%◌, ◌^◌, ◌<◌, eqb, leb, ltb, ℤ, pos, ◌+ℤ◌, ◌*ℤ◌, length, get_or, ◌≤ℤ◌, Err, Ok}
use Rattle.numbers.specs.Ints.{sum_ℤ}
use Rattle.numbers.specs.Below.{over}
use Rattle.refusals.specs.Refusals.{Judged, then, either, unless, need, no_corners}
use Rattle.types.specs.Ranges.{at_ℤ, border_of}
use Rattle.tablerules.specs.Table.{Table, factors_at, judge_lent}
use Rattle.marginrules.specs.Margin.{signed_factor, lta_kw, corner_part}

-- a sheet is made for at most so many borders
abbrev pub sheet_borders_most : ℕ
sheet_borders_most = 12

-- each flow with a border's part added
unfoldable pub raised_by : ℤ → List ℤ → List ℤ
raised_by part [] = []
raised_by part (flow ∷ flows) = (flow +ℤ part) ∷ raised_by part flows

-- the corners of the first n borders, by number: those that do not use border n - 1, and then the same with it used, since its bit is the highest
unfoldable pub corner_flows : (part : ℕ → ℤ) → (n : ℕ) → List ℤ
corner_flows part zero = pos 0 ∷ []
corner_flows part (suc n) = let rest = corner_flows part n in rest ++ raised_by (part n) rest

-- what border b puts on a row at its whole LTA
abbrev pub part_of : (factors : List ℤ) → (borders : List (List ℤ)) → (b : ℕ) → ℤ
part_of factors borders b = corner_part factors (border_of (get_or borders b []))

-- the sheet of a row
abbrev pub flows_of : (factors : List ℤ) → (borders : List (List ℤ)) → List ℤ
flows_of factors borders = corner_flows (part_of factors borders) (length borders)

-- 9: more than 12 borders, place the border count, or else no such row, place its index
abbrev pub judge_corner_sheet : Table → (row : ℕ) → Judged Table
judge_corner_sheet t row =
    unless (leb t.header.borders sheet_borders_most) (no_corners t.header.borders)
    (unless (ltb row t.header.rows) (no_corners row)
    (Ok t))

-- lent tables are judged as for every call on them, and then whether there is a sheet (9)
unfoldable pub judge_corners : (given : Table) → (row : ℕ) → Judged Table
judge_corners given row = then (judge_lent given) (λ t. judge_corner_sheet t row)

-- what the open call `corner_flows` leaves: its answer, and the lent numbers
pub record FlowsLeft : Type 0 where
  pub answer : Judged ℕ
  pub out : List ℤ

abbrev pub flows_left : (answer : Judged ℕ) → (out : List ℤ) → FlowsLeft
flows_left answer out = record { answer = answer; out = out }

-- room for one number for each corner comes last; a refusal writes nothing
unfoldable pub sheet_left : (judged : Judged Table) → (row : ℕ) → (out : List ℤ) → FlowsLeft
sheet_left judged row out =
    either
    (then judged (λ t.
    let flows = flows_of (factors_at t row) t.borders in
    need (length flows) (length out) (Ok flows)))
    (λ flows. flows_left (Ok (length flows)) (over flows out))
    (λ w. flows_left (Err w) out)

unfoldable pub corners_left : (given : Table) → (row : ℕ) → (out : List ℤ) → FlowsLeft
corners_left given row out = sheet_left (judge_corners given row) row out

-- border b is used when bit b of the corner's number is set
abbrev pub bit : (corner b : ℕ) → Bool
bit corner b = eqb (corner / 2 ^ b % 2) 1

-- one use of the borders stands on the sheet, once: at the one number whose bits are that use, and with the flow of the borders used
pub record Stands (factors : List ℤ) (borders : List (List ℤ)) (used : ℕ → Bool) : Type 0 where
  pub corner : ℕ
  pub below : corner < length (flows_of factors borders)
  pub bits : (b : ℕ) → b < length borders → bit corner b ≡ used b
  pub once : (k : ℕ) → k < length (flows_of factors borders) → ((b : ℕ) → b < length borders → bit k b ≡ used b) → k ≡ corner
  pub flow : at_ℤ (flows_of factors borders) corner
      ≡ sum_ℤ (length borders) (λ b. cond (used b) (signed_factor factors (border_of (get_or borders b [])) *ℤ pos (lta_kw (border_of (get_or borders b [])))) (pos 0))

-- z is the largest of the flows: no flow is larger, and one is equal to it
pub record Largest (flows : List ℤ) (z : ℤ) : Type 0 where
  pub none_over : (k : ℕ) → k < length flows → at_ℤ flows k ≤ℤ z
  pub corner : ℕ
  pub below : corner < length flows
  pub is : at_ℤ flows corner ≡ z
