-- What each row's margin is made of (01, "Margin of a row"; the method asks for these values to be published: 000, Article 25(2)(d)vii), and what the open call
-- `margins` leaves. `parts_of`, `record_of` and `margins_left` are what contracts cite. Every value is by the definition that the extraction uses.
use Rattle.std.specs.Prelude.{Bool, cond, List, [], ◌∷◌, ℕ, ℤ, pos, length, get_or, Err, Ok}
use Rattle.numbers.specs.Ints.{max_ℤ}
use Rattle.numbers.specs.Below.{count, table, over}
use Rattle.refusals.specs.Refusals.{Judged, then, either, need}
use Rattle.types.specs.Ranges.{is_intraday, border_of, default_of}
use Rattle.tablerules.specs.Table.{Table, row_at, factors_at, judge_lent}
use Rattle.marginrules.specs.Margin.{grains, fuaf_of, base_of, amr_of, p_of, lta_margin_of, s_at, ram_at, rams_of, margin_of}
use Rattle.marginrules.specs.Small.{f0core_at}
use Rattle.staterules.specs.States.{state_of}

-- the parts of a row's margin under 01's names, in the order of a record; state and n are plain numbers, the others grains
pub record Parts : Type 0 where
  pub state : ℕ
  pub n : ℕ
  pub f0core : ℤ
  pub fuaf : ℤ
  pub base : ℤ
  pub amr : ℤ
  pub s : ℕ
  pub lta_margin : ℤ
  pub cva : ℤ
  pub iva : ℤ
  pub ram : ℤ
  pub start : ℤ

-- n: the count of borders with p > 0 on a row (01, "Extraction"), of all borders and whatever the row's state
unfoldable pub n_of : (factors : List ℤ) → (borders : List (List ℤ)) → ℕ
n_of factors borders = count (length borders) (λ b. p_of factors (border_of (get_or borders b [])))

-- the starting margin: RAM - S, which may be below 0 (and is then refusal 7 of the extraction); in the intraday profile the remainder, taken as 0 where negative (02, E12)
unfoldable pub start_from : (intraday : Bool) → (margin : ℤ) → ℤ
start_from intraday margin = cond intraday (max_ℤ margin (pos 0)) margin

-- row i of a table
unfoldable pub parts_of : Table → (i : ℕ) → Parts
parts_of t i =
    let h = t.header in
    let row = row_at t i in
    let f0core = f0core_at t i in
    let s = s_at h t.borders t.factors i in
    record {
      state = state_of h t.factors (rams_of t) i;
      n = n_of (factors_at t i) t.borders;
      f0core = f0core;
      fuaf = fuaf_of row f0core;
      base = base_of row f0core;
      amr = amr_of (default_of h) row f0core;
      s = s;
      lta_margin = lta_margin_of row f0core (amr_of (default_of h) row f0core) s;
      cva = grains row.cva;
      iva = grains row.iva;
      ram = ram_at t i;
      start = start_from (is_intraday h) (margin_of t i);
    }

-- the record of a row: twelve numbers
abbrev pub record_of : Parts → List ℤ
record_of m =
    pos m.state ∷ pos m.n ∷ m.f0core ∷ m.fuaf ∷ m.base ∷ m.amr ∷ pos m.s ∷ m.lta_margin ∷ m.cva ∷ m.iva ∷ m.ram ∷ m.start ∷ []

-- the records of all rows
abbrev pub records_of : Table → List (List ℤ)
records_of t = table t.header.rows (λ i. record_of (parts_of t i))

-- what `margins` leaves: its answer, and the lent records
pub record MarginsLeft : Type 0 where
  pub answer : Judged (Unit {0})
  pub out : List (List ℤ)

abbrev pub leaves : (answer : Judged (Unit {0})) → (out : List (List ℤ)) → MarginsLeft
leaves answer out = record { answer = answer; out = out }

-- a lent table is judged as for writing: 5, 6 and 7 are not looked at; room for a record of each row comes last (8), and a refusal writes nothing
unfoldable pub margins_left : (given : Table) → (out : List (List ℤ)) → MarginsLeft
margins_left given out =
    either (then (judge_lent given) (λ t. need t.header.rows (length out) (Ok t)))
    (λ t. leaves (Ok tt) (over (records_of t) out))
    (λ w. leaves (Err w) out)
