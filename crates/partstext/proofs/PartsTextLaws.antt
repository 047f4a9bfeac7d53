-- The laws of `specs/PartsText.antt`: how long a line and the text get, where the records stand, and what is left. No contract cites this file.
use mathlib.Core.Path.{◌≡◌, refl, sym, ap, subst, ◌∙◌}
use mathlib.Core.Bool.{Bool, true, false}
use mathlib.Core.List.{List, []}
use Prim.Native.Char.{code}
use Prim.Native.Nat.{ℕ, ◌^◌, ◌≤◌, ◌<◌}
use native.Mathlib.Omega.{arith}
use lib.IntN.{ℤ, pos, nat_abs}
use lib.ListN.{length, get_or, take, drop, length-append}
use lib.Seq.{take_at}
use Rattle.numbers.specs.Below.{over}
use Rattle.numbers.specs.Ints.{Within}
use Rattle.numbers.proofs.BelowLaws.{table_long, table_get}
use Rattle.numbers.proofs.IntLaws.{within_pos, within_max}
use Rattle.limits.specs.Limits.{borders_most, rows_most}
use Rattle.types.specs.Ranges.{is_intraday}
use Rattle.types.proofs.RangeLaws.{header_in_lem}
use Rattle.text.specs.Fields.{tab}
use Rattle.text.proofs.PutLaws.{lines_most_lem}
use Rattle.text.proofs.WrittenLaws.{decimal_long, decimal_ℤ_long}
use Rattle.columns.specs.ColumnText.{field_text, fields_length}
use Rattle.columns.specs.declared.Head.TheVariants.{Indexed}
use Rattle.columns.proofs.ColumnPut.{line_long}
use Rattle.tablerules.specs.Table.{Table, factors_at}
use Rattle.tablerules.specs.Good.{Good}
use Rattle.marginrules.specs.Magnitudes.{start_bits}
use Rattle.marginrules.specs.Margin.{rams_of}
use Rattle.marginrules.proofs.MagnitudeLaws.{within_grains}
use Rattle.marginrules.proofs.JudgedLaws.{row_ranges, good_borders}
use Rattle.marginrules.proofs.Small.{start_in, named_values_small}
use Rattle.staterules.proofs.StateLaws.{state_most}
use Rattle.partrules.specs.Parts.{Parts, n_of, start_from, parts_of, record_of, records_of}
use Rattle.parts.proofs.PartsLaws.{n_few}
use Rattle.partstext.specs.PartsText.{parts_columns, parts_line, parts_line_at, parts_text, parts_line_most, parts_most}

-- ---- a row's values are small
pub record Small (m : Parts) : Type 0 where
  pub state : m.state < 2 ^ start_bits
  pub n : m.n < 2 ^ start_bits
  pub f0core : nat_abs m.f0core < 2 ^ start_bits
  pub fuaf : nat_abs m.fuaf < 2 ^ start_bits
  pub base : nat_abs m.base < 2 ^ start_bits
  pub amr : nat_abs m.amr < 2 ^ start_bits
  pub s : m.s < 2 ^ start_bits
  pub lta_margin : nat_abs m.lta_margin < 2 ^ start_bits
  pub cva : nat_abs m.cva < 2 ^ start_bits
  pub iva : nat_abs m.iva < 2 ^ start_bits
  pub ram : nat_abs m.ram < 2 ^ start_bits
  pub start : nat_abs m.start < 2 ^ start_bits

start_within : (intraday : Bool) {n : ℕ} {z : ℤ} → Within n z → Within n (start_from intraday z)
unfolding start_from
start_within true h = within_max h (within_pos (omega arith))
start_within false h = h

pub parts_small : {t : Table} → Good t → (i : ℕ) → i < t.header.rows → Small (parts_of t i)
unfolding parts_of
parts_small {t} good i h =
    let v = named_values_small good i h in
    let row = row_ranges (get_or t.rows i []) (good.rows_fit i h) in
    let few : n_of (factors_at t i) t.borders ≤ borders_most = n_few (factors_at t i) (good_borders good) refl in
    record {
      state = omega (arith, state_most t.header t.factors (rams_of t) i);
      n = omega (arith, few);
      f0core = omega (arith, v.f0core);
      fuaf = omega (arith, v.fuaf);
      base = omega (arith, v.base);
      amr = omega (arith, v.amr);
      s = omega (arith, v.s);
      lta_margin = omega (arith, v.lta_margin);
      cva = omega (arith, (within_grains row.cva_in).abs);
      iva = omega (arith, (within_grains row.iva_in).abs);
      ram = omega (arith, v.ram);
      start = omega (arith, (start_within (is_intraday t.header) (start_in good i h)).abs);
    }

-- ---- lines
line_most_lem : (i : ℕ) (m : Parts) → i < rows_most → Small m → length (parts_line i (record_of m)) ≤ parts_line_most
unfolding fields_length field_text
line_most_lem i m h v =
    rw (line_long tab (Indexed (code "V") i) parts_columns (record_of m))
    (omega (
      arith,
      decimal_long 2 i (omega arith),
      decimal_ℤ_long 14 (pos m.state) (omega (arith, v.state)),
      decimal_ℤ_long 14 (pos m.n) (omega (arith, v.n)),
      decimal_ℤ_long 14 m.f0core (omega (arith, v.f0core)),
      decimal_ℤ_long 14 m.fuaf (omega (arith, v.fuaf)),
      decimal_ℤ_long 14 m.base (omega (arith, v.base)),
      decimal_ℤ_long 14 m.amr (omega (arith, v.amr)),
      decimal_ℤ_long 14 (pos m.s) (omega (arith, v.s)),
      decimal_ℤ_long 14 m.lta_margin (omega (arith, v.lta_margin)),
      decimal_ℤ_long 14 m.cva (omega (arith, v.cva)),
      decimal_ℤ_long 14 m.iva (omega (arith, v.iva)),
      decimal_ℤ_long 14 m.ram (omega (arith, v.ram)),
      decimal_ℤ_long 14 m.start (omega (arith, v.start)),
    ))

module _ {t : Table} (good : Good t) where
  records-few : length (records_of t) ≤ rows_most
  records-few = omega (arith, table_long t.header.rows (λ i. record_of (parts_of t i)), (header_in_lem t.header good.exact.header).rows_most_lem)

  lines-short : (i : ℕ) → i < length (records_of t) → length (parts_line_at (records_of t) i) ≤ parts_line_most
  lines-short i h =
      let below : i < t.header.rows = omega (arith, table_long t.header.rows (λ i. record_of (parts_of t i))) in
      rw (table_get t.header.rows (λ i. record_of (parts_of t i)) i [] below) (line_most_lem i (parts_of t i) (omega (arith, records-few)) (parts_small good i below))

  -- the text is never longer than `parts_most`
  pub parts_text_most : length (parts_text (records_of t)) ≤ parts_most
  parts_text_most = omega (arith, lines_most_lem (parts_line_at (records_of t)) (length (records_of t)) lines-short, records-few)

  -- the records stand in front of the room that `margins_good` was lent
  module _ {o : List (List ℤ)} (room : List (List ℤ)) (e : o ≡ over (records_of t) room) where
    count : length (records_of t) ≡ t.header.rows
    count = table_long t.header.rows (λ i. record_of (parts_of t i))

    pub records_first : take t.header.rows o ≡ records_of t
    records_first = ap (take t.header.rows) e ∙ take_at (records_of t) (drop (length (records_of t)) room) t.header.rows count

    pub records_long : t.header.rows ≤ length o
    records_long = omega (arith, ap length e, count, length-append (records_of t) (drop (length (records_of t)) room))

    pub records_short : let rs = take t.header.rows o in (length rs ≤ rows_most) × ((i : ℕ) → i < length rs → length (parts_line_at rs i) ≤ parts_line_most)
    records_short = subst (λ (rs : List (List ℤ)). (length rs ≤ rows_most) × ((i : ℕ) → i < length rs → length (parts_line_at rs i) ≤ parts_line_most)) (sym records_first) (records-few, lines-short)
