-- How long the text of a good table gets (specs/Writing.antt): each line, and by the longest line all lines. No contract cites this file.
-- The bound is rough: only that it is no more than 65,536 bytes is asked (`never-too-long`).
use mathlib.Core.Path.{◌≡◌, refl, ap, ◌∙◌}
use mathlib.Core.Bool.{Bool, true, false, cond}
use mathlib.Core.List.{List, [], ◌∷◌, ◌++◌}
use Prim.Native.Char.{code}
use Prim.Native.Nat.{ℕ, suc, ◌+◌, ◌*◌, ◌≤◌, ◌<◌}
use native.Mathlib.Nat.{le_trans}
use native.Mathlib.Omega.{arith}
use borrow.Author.Tests.{le-ltb}
use lib.Dec.{leb→le, lit≤}
use lib.IntN.{ℤ, pos, negsuc, nat_abs}
use lib.ListN.{length, get_or, drop, length-append}
use lib.Seq.{get_or-drop}
use lib.Signed.{lt_z}
use Rattle.numbers.specs.Ints.{minus, inside}
use Rattle.numbers.proofs.IntLaws.{inside_true}
use Rattle.limits.specs.Limits.{zones_most, borders_most, rows_most, bytes_most}
use Rattle.types.specs.declared.Header.{Header}
use Rattle.types.specs.LineLimits.{share_most}
use Rattle.types.specs.Ranges.{at_ℤ, header_fits, allocated_items, zone_fits, border_fits, border_of, row_of, row_fits, factor_fits}
use Rattle.types.proofs.RangeLaws.{HeaderIn, header_in_lem, allocated_most, raw_share_in, zone_in, HubsIn, none, both, border_in, row_in, factor_in}
use Rattle.text.specs.Written.{decimal, decimal_ℤ, share_text, lines_text}
use Rattle.text.proofs.PutLaws.{lines_most_lem}
use Rattle.text.proofs.WrittenLaws.{decimal_long, decimal_ℤ_long, pos_long}
use Rattle.tablerules.specs.Table.{Table, factors_at}
use Rattle.tablerules.specs.Good.{Good}
use Rattle.tablerules.proofs.GoodLaws.{stretch_long, row_fit}
use Rattle.types.specs.LineColumns.{header_columns, default_columns, zone_columns, border_columns, hub_columns, row_columns, factor_columns}
use Rattle.text.specs.Fields.{tab}
use Rattle.columns.specs.declared.Head.TheVariants.{Lettered, Indexed}
use Rattle.columns.specs.ColumnText.{field_text, fields_length, numbers_of}
use Rattle.columns.specs.Optional.{written_by}
use Rattle.columns.proofs.ColumnPut.{line_long, length_parts}
use Rattle.layout.specs.Layout.{header_text, position_text, zone_text, allocated_text, border_text, row_text}
use Rattle.writing.specs.Writing.{table_text}

-- the digits of an index
abbrev pub digits_of : ℕ → ℕ
digits_of i = length (decimal i)

-- ---- the lines
-- zones and borders of 2 digits, rows of 3, and a default of 5
counts_most : (h : Header) → HeaderIn h → (r : ℤ) → inside (minus 1) (pos share_most) r ≡ true
    → fields_length (written_by header_columns default_columns (pos h.zones ∷ pos h.borders ∷ pos h.rows ∷ r ∷ [])) (pos h.zones ∷ pos h.borders ∷ pos h.rows ∷ r ∷ []) ≤ 16
unfolding fields_length field_text decimal_ℤ
counts_most h i (pos n) e =
    rw (le-ltb n 0 (omega arith))
    (omega (arith, decimal_long 1 h.zones (omega (arith, i.zones_most_lem)), decimal_long 1 h.borders (omega (arith, i.borders_most_lem)), decimal_long 2 h.rows (omega (arith, i.rows_most_lem)), decimal_long 4 n (omega (arith, (raw_share_in (pos n) e).abs))))
counts_most h i (negsuc n) e =
    omega (arith, decimal_long 1 h.zones (omega (arith, i.zones_most_lem)), decimal_long 1 h.borders (omega (arith, i.borders_most_lem)), decimal_long 2 h.rows (omega (arith, i.rows_most_lem)))

pub header_most : (h : Header) → header_fits h ≡ true → length (header_text h) ≤ 18
header_most h e =
    let i = header_in_lem h e in
    let raw = pos h.zones ∷ pos h.borders ∷ pos h.rows ∷ h.share ∷ [] in
    omega (arith, line_long tab (Lettered (code "H")) (written_by header_columns default_columns raw) raw, counts_most h i h.share i.share)

pub zone_most : (letter i : ℕ) (net : ℤ) → zone_fits net ≡ true → length (position_text letter i net) ≤ 14 + digits_of i
unfolding fields_length field_text
zone_most letter i net e = rw (line_long tab (Indexed letter i) zone_columns (net ∷ [])) (omega (arith, decimal_ℤ_long 8 net (omega (arith, (zone_in net e).abs))))

-- R is "-", or a number
share_most_lem : (r : ℤ) → inside (minus 1) (pos share_most) r ≡ true → length (share_text r) ≤ 5
share_most_lem (pos n) e = decimal_long 4 n (omega (arith, leb→le n share_most (inside_true (minus 1) (pos share_most) (pos n) e).1.le))
share_most_lem (negsuc n) e = omega arith

each_most : (zs : List ℤ) → ((z : ℕ) → z < length zs → factor_fits (at_ℤ zs z) ≡ true) → fields_length (factor_columns (length zs)) zs ≤ length zs * 8
unfolding fields_length field_text
each_most [] h = omega arith
each_most (y ∷ zs) h = omega (arith, decimal_ℤ_long 5 y (omega (arith, (factor_in y (h 0 (omega arith))).abs)), each_most zs (λ z l. h (suc z) (omega arith)))

values_most : (values : List ℤ) → row_fits values ≡ true → fields_length row_columns (numbers_of row_columns values) ≤ 62
unfolding row_of fields_length field_text
values_most values e =
    let k = row_in values e in
    omega (
      arith,
      pos_long 7 (at_ℤ values 0) k.fmax.is (omega (arith, k.fmax.most)),
      pos_long 7 (at_ℤ values 1) k.frm.is (omega (arith, k.fmax.most, k.frm.most)),
      decimal_ℤ_long 7 (at_ℤ values 2) (omega (arith, k.fref.abs)),
      decimal_ℤ_long 7 (at_ℤ values 3) (omega (arith, k.f0all.abs)),
      share_most_lem (at_ℤ values 4) k.share,
      pos_long 7 (at_ℤ values 5) k.cva.is (omega (arith, k.cva.most)),
      pos_long 7 (at_ℤ values 6) k.iva.is (omega (arith, k.iva.most)),
    )

pub row_most : (i : ℕ) (values factors : List ℤ) → row_fits values ≡ true → ((z : ℕ) → z < length factors → factor_fits (at_ℤ factors z) ≡ true) → length factors ≤ zones_most
    → length (row_text i values factors) ≤ 193 + digits_of i
row_most i values factors e h few =
    rw (line_long tab (Indexed (code "C") i) (row_columns ++ factor_columns (length factors)) (numbers_of row_columns values ++ factors))
    (omega (arith, length_parts row_columns (factor_columns (length factors)) (numbers_of row_columns values) factors refl, values_most values e, each_most factors h))

border_fields : (zones : ℕ) (raw : List ℤ) → border_fits zones raw ≡ true → fields_length border_columns raw ≡ digits_of (border_of raw).from + 1 + (digits_of (border_of raw).to + 1 + (digits_of (border_of raw).lta + 1 + 0))
unfolding fields_length field_text decimal_ℤ
border_fields zones raw e =
    let b = border_in zones raw e in
    let two : get_or (drop 1 raw) 0 (pos 0) ≡ pos (border_of raw).to = get_or-drop 1 raw 0 (pos 0) ∙ b.to in
    let three : get_or (drop 1 (drop 1 raw)) 0 (pos 0) ≡ pos (border_of raw).lta = get_or-drop 1 (drop 1 raw) 0 (pos 0) ∙ get_or-drop 1 raw 1 (pos 0) ∙ b.lta in
    rw (two, three, b.from)

-- zones of 2 digits, and an LTA of 5
ends_most : (zones : ℕ) (raw : List ℤ) → zones ≤ zones_most → border_fits zones raw ≡ true → fields_length border_columns raw ≤ 12
ends_most zones raw few e =
    let b = border_in zones raw e in
    omega (
      arith,
      border_fields zones raw e,
      decimal_long 1 (border_of raw).from (omega (arith, b.from_below)),
      decimal_long 1 (border_of raw).to (omega (arith, b.to_below)),
      decimal_long 4 (border_of raw).lta (omega (arith, b.lta_most_lem)),
    )

-- a hub is a zone; -1 is as long
hubs_small : (zones : ℕ) (sending receiving : ℤ) → zones ≤ zones_most → HubsIn zones sending receiving → (nat_abs sending < 100) × (nat_abs receiving < 100)
hubs_small zones sending receiving few (none s r) = (rw s (omega arith), rw r (omega arith))
hubs_small zones sending receiving few (both s r apart) = (omega (arith, s.1), omega (arith, r.1))

hub_fields : (raw : List ℤ) → fields_length (border_columns ++ hub_columns) raw ≡ fields_length border_columns raw + (length (decimal_ℤ (at_ℤ raw 3)) + 1 + (length (decimal_ℤ (at_ℤ raw 4)) + 1 + 0))
unfolding fields_length field_text
hub_fields raw =
    let four : get_or (drop 1 (drop 1 (drop 1 raw))) 0 (pos 0) ≡ at_ℤ raw 3 = get_or-drop 1 (drop 1 (drop 1 raw)) 0 (pos 0) ∙ get_or-drop 1 (drop 1 raw) 1 (pos 0) ∙ get_or-drop 1 raw 2 (pos 0) in
    let five : get_or (drop 1 (drop 1 (drop 1 (drop 1 raw)))) 0 (pos 0) ≡ at_ℤ raw 4 =
    get_or-drop 1 (drop 1 (drop 1 (drop 1 raw))) 0 (pos 0) ∙ get_or-drop 1 (drop 1 (drop 1 raw)) 1 (pos 0) ∙ get_or-drop 1 (drop 1 raw) 2 (pos 0) ∙ get_or-drop 1 raw 3 (pos 0) in
    omega (arith, ap (λ (z : ℤ). length (decimal_ℤ z)) four, ap (λ (z : ℤ). length (decimal_ℤ z)) five)

border_most : (zones i : ℕ) (raw : List ℤ) → zones ≤ zones_most → border_fits zones raw ≡ true → length (border_text i raw) ≤ 23 + digits_of i
border_most zones i raw few e =
    rw (line_long tab (Indexed (code "B") i) (written_by border_columns hub_columns raw) raw) (omega (arith, go (lt_z (at_ℤ raw 3) (pos 0))))
  where
    go : (t : Bool) → fields_length (cond t border_columns (border_columns ++ hub_columns)) raw ≤ 20
    go true = omega (arith, ends_most zones raw few e)
    go false =
        let h = hubs_small zones (at_ℤ raw 3) (at_ℤ raw 4) few (border_in zones raw e).hubs in
        omega (arith, ends_most zones raw few e, hub_fields raw, decimal_ℤ_long 1 (at_ℤ raw 3) h.0, decimal_ℤ_long 1 (at_ℤ raw 4) h.1)

-- ---- all lines: none is longer than a C line of the most zones, which has its letter, an index of 3 digits, values of 62 bytes and factors of 8 bytes each,
-- tabs included, and its LF
abbrev table_line_most : ℕ
table_line_most = 1 + 4 + 62 + zones_most * 8 + 1

abbrev pub table_most : ℕ
table_most = (1 + zones_most + zones_most + borders_most + rows_most) * table_line_most

module _ (t : Table) (g : Good t) where
  within : HeaderIn t.header
  within = header_in_lem t.header g.exact.header

  index-most : (i : ℕ) → i < rows_most → digits_of i ≤ 3
  index-most i h = decimal_long 2 i (omega arith)

  zones-length : length (lines_text t.header.zones 0 (λ i. zone_text i (at_ℤ t.nets i))) ≤ t.header.zones * table_line_most
  zones-length =
      lines_most_lem (λ i. zone_text i (at_ℤ t.nets i)) t.header.zones (λ i h.
      omega (arith, zone_most (code "Z") i (at_ℤ t.nets i) (g.nets_fit i h), index-most i (omega (arith, within.zones_most_lem))))

  allocated-length : length (lines_text (allocated_items t.header) 0 (λ i. allocated_text i (at_ℤ t.allocated i))) ≤ allocated_items t.header * table_line_most
  allocated-length =
      lines_most_lem (λ i. allocated_text i (at_ℤ t.allocated i)) (allocated_items t.header) (λ i h.
      omega (arith, zone_most (code "T") i (at_ℤ t.allocated i) (g.allocated_fit i h), index-most i (omega (arith, allocated_most t.header, within.zones_most_lem))))

  borders-length : length (lines_text t.header.borders 0 (λ i. border_text i (get_or t.borders i []))) ≤ t.header.borders * table_line_most
  borders-length =
      lines_most_lem (λ i. border_text i (get_or t.borders i [])) t.header.borders (λ i h.
      omega (arith, border_most t.header.zones i (get_or t.borders i []) within.zones_most_lem (g.borders_fit i h), index-most i (omega (arith, within.borders_most_lem))))

  rows-length : length (lines_text t.header.rows 0 (λ i. row_text i (get_or t.rows i []) (factors_at t i))) ≤ t.header.rows * table_line_most
  rows-length = lines_most_lem (λ i. row_text i (get_or t.rows i []) (factors_at t i)) t.header.rows (λ i h. omega (arith, row_at i h, index-most i (omega (arith, within.rows_most_lem))))
    where
      row_at : (i : ℕ) → i < t.header.rows → length (row_text i (get_or t.rows i []) (factors_at t i)) ≤ 193 + digits_of i
      row_at i h =
          let long = stretch_long t.header.zones t.header.rows t.factors g.exact.factors_long i h in
          row_most i (get_or t.rows i []) (factors_at t i) (g.rows_fit i h)
          (λ z k. row_fit t.header.zones t.header.rows t.factors g.exact.factors_long (omega (arith, within.zones_least_lem)) g.factors_fit i h z (rw long at k))
          (omega (arith, long, within.zones_most_lem))

  pub text_most : length (table_text t) ≤ table_most
  unfolding table_text
  text_most =
      simp length-append
      (omega (
        arith,
        header_most t.header g.exact.header,
        zones-length,
        allocated-length,
        allocated_most t.header,
        borders-length,
        rows-length,
        within.zones_most_lem,
        within.borders_most_lem,
        within.rows_most_lem,
      ))

-- refusal 1 is never given of a good table that was written
pub never_too_long : (t : Table) → Good t → length (table_text t) ≤ bytes_most
never_too_long t g = le_trans (text_most t g) (lit≤ {m = table_most} {n = bytes_most} tt)
