-- The chain of H, Z, T, B and C lines, both ways: a text that was read is the text of its sections of lines, and that text reads as the table. No contract cites this file.
use Rattle.std.specs.Prelude.{Err, Ok}
use mathlib.Core.Path.{◌≡◌, refl, sym, ap, ap₂, subst, ◌∙◌}
use mathlib.Core.Bool.{Bool, true, false, cond}
use mathlib.Core.List.{List, [], ◌∷◌, ◌++◌, append-nil}
use Prim.Native.Char.{code}
use Prim.Native.Nat.{ℕ, zero, suc, ◌^◌, ◌≤◌, ◌<◌}
use native.Mathlib.Nat.{zero-add, add-zero}
use native.Mathlib.Omega.{arith}
use lib.Dec.{ltb, eqb}
use lib.IntN.{ℤ, pos}
use lib.ListN.{length, get_or, drop, length-drop, drop_of_length-le}
use lib.Seq.{drop-append_seam, get_or-drop}
use borrow.Author.Tests.{le-ltb}
use Rattle.numbers.specs.Below.{at}
use Rattle.limits.specs.Limits.{bytes_most}
use Rattle.refusals.specs.Refusals.{Judged, wrong_form}
use Rattle.refusals.proofs.RefusalLaws.{unless_ok, none_next, then_next}
use Rattle.types.specs.declared.Header.{Header}
use Rattle.types.specs.Ranges.{header_fits, is_intraday, allocated_items, profiled, zone_fits}
use Rattle.types.proofs.RangeLaws.{header_in_lem, allocated_most, allocated_all, allocated_none}
use Rattle.text.specs.Line.{line_of, line_at, after}
use Rattle.text.proofs.LineLaws.{line_split}
use Rattle.columns.specs.ColumnText.{columns_text, head_text}
use Rattle.sections.proofs.SectionLaws.{section_text, AllFit, section_read}
use Rattle.sections.proofs.SectionRecords.{fits_all, lines_goes}
use Rattle.tablerules.specs.Table.{Table, row_good, stretch, not_twice, zone_line_no, allocated_line_no, border_line_no, row_line_no, past_line_no}
use Rattle.tablerules.specs.Good.{Good, Shaped}
use Rattle.tablerules.proofs.GoodLaws.{good_row, row_fit, stretch_long}
use Rattle.tablerules.proofs.JudgeLaws.{exact_factors}
use Rattle.lines.specs.Lines.{RowLine, header_line, zone_line, allocated_line, border_line, row_line}
use Rattle.rowlines.specs.Rows.{values_of, factors_of, as_given, cut}
use Rattle.reading.specs.Reading.{intraday_at, allocated_from, lines_by, lines_of, read_text}
use Rattle.lines.proofs.HeaderTrip.{header_read, header_written, header_one}
use Rattle.lines.proofs.ZoneTrip.{zone_read_lem, zone_written, zone_one}
use Rattle.lines.proofs.BorderTrip.{BorderHeld, border_read_lem, border_written, border_one}
use Rattle.lines.specs.declared.row.RowKind.TheVariants as row_kind
use Rattle.lines.proofs.RowTrip.{RowHeld, RowHeldAt, row_read_lem, row_written, row_one}
use Rattle.rowlines.proofs.RowLaws.{empty_row, values_at, cut_long, cut_values, cut_factors, cut_at}
use Rattle.reading.proofs.ReadLaws.{Opened, nets_held, allocated_held, borders_held, rows_held}
use Rattle.layout.specs.Layout.{header_text, zone_text, allocated_text, border_text}
use Rattle.writing.specs.Writing.{table_text, rows_text}
use Rattle.trips.proofs.SectionTrip.{row_line_of, rows_section_lem, Lined, sections, text_sections}
use Rattle.std.specs.Prelude.{Ok, Err}

-- ---- what was read
module _ (text : List ℕ) (t : Table) (o : Opened as_given text t) where
  read-lined : Lined t o.lines
  read-lined = record {
    nets_long = (nets_held as_given text t o).0;
    allocated_long = (allocated_held as_given text t o).0;
    borders_long = (borders_held as_given text t o).0;
    lines_long = (rows_held as_given text t o).0;
    values_are = o.values_are;
    factors_are = o.factors_are;
    held = (rows_held as_given text t o).1;
  }

  read-rows : drop o.q text ≡ section_text row_line_of 0 o.lines
  read-rows =
      (section_read (row_line t.header.zones) (row_line_no t.header) row_line_of (λ line i c e. (row_read_lem row_kind.Table t.header.zones line i c e).0) t.header.rows text o.q 0 o.lines o.e o.rows_are).0
      ∙ ap (λ (l : List ℕ). section_text row_line_of 0 o.lines ++ l) (drop_of_length-le text o.whole) ∙ append-nil _

  read-sections : text ≡ sections t o.lines
  read-sections =
      let h = (header_read (line_at text 0) (profiled t.header false) o.header_is).0 in
      let z = (section_read zone_line zone_line_no zone_text (λ line i net e. (zone_read_lem _ line i net e).0) t.header.zones text (after text 0) 0 t.nets o.p o.nets_are).0 in
      let a = (section_read allocated_line (allocated_line_no t.header) allocated_text (λ line i net e. (zone_read_lem _ line i net e).0) (allocated_items t.header) text o.p 0 t.allocated o.o o.allocated_are).0 in
      let b = (section_read (border_line t.header.zones) (border_line_no t.header) border_text (λ line i raw e. (border_read_lem t.header.zones line i raw e).0) t.header.borders text o.o 0 t.borders o.q o.borders_are).0 in
      let first : drop (length (line_of text)) text ≡ drop (after text 0) text = ap (λ (k : ℕ). drop k text) (sym (zero-add (length (line_of text)))) in
      line_split text ∙ ap₂ (λ (x y : List ℕ). x ++ y) h (first ∙ z ∙ ap (λ (l : List ℕ). section_text zone_text 0 t.nets ++ l)
      (a ∙ ap (λ (l : List ℕ). section_text allocated_text 0 t.allocated ++ l) (b ∙ ap (λ (l : List ℕ). section_text border_text 0 t.borders ++ l) read-rows)))

  -- its C lines are the text of its rows
  pub rows_text_lem : rows_text t.header.zones t.rows t.factors ≡ drop o.q text
  rows_text_lem = rows_section_lem row_kind.Table t.header.zones t.rows t.factors o.lines o.values_are o.factors_are (rows_held as_given text t o).1 ∙ sym read-rows

  pub read_text_lem : table_text t ≡ text
  read_text_lem = text_sections t o.lines read-lined ∙ sym read-sections

-- ---- what is written
abbrev ZoneFits : (i : ℕ) → ℤ → Type 0
ZoneFits i net = (i < 10 ^ 10) × (zone_fits net ≡ true)

abbrev BorderFits : (zones i : ℕ) → List ℤ → Type 0
BorderFits zones i raw = (i < 10 ^ 10) × BorderHeld zones raw

abbrev RowFits : (zones i : ℕ) → RowLine → Type 0
RowFits zones i c = (i < 10 ^ 10) × RowHeld zones c

table_is : (h : Header) (z a : List ℤ) (b c c' : List (List ℤ)) (f f' : List ℤ) → c ≡ c' → f ≡ f'
    → ◌≡◌ {A = Table} (record { header = h; nets = z; allocated = a; borders = b; rows = c; factors = f }) (record { header = h; nets = z; allocated = a; borders = b; rows = c'; factors = f' })
table_is h z a b c c' f f' p q = cc

-- ---- which letter follows the Z lines
-- a header in range is that of its own profile
profile_kept : (h : Header) → header_fits h ≡ true → profiled h (is_intraday h) ≡ h
profile_kept h e = go h.intraday (header_in_lem h e).intraday
  where
    go : (n : ℕ) → n ≤ 1 → ◌≡◌ {A = Header} (record { zones = h.zones; borders = h.borders; rows = h.rows; share = h.share; intraday = cond (eqb n 1) 1 0 }) (record { zones = h.zones; borders = h.borders; rows = h.rows; share = h.share; intraday = n })
    go zero l = refl
    go (suc zero) l = refl
    go (suc (suc n)) l = absurd (omega arith)

at_drop : (text rest : List ℕ) (p x : ℕ) → drop p text ≡ x ∷ rest → at text p ≡ x
at_drop text rest p x e = ap (at text) (sym (add-zero p)) ∙ sym (get_or-drop p text 0 0) ∙ ap (λ (l : List ℕ). at l 0) e

module _ (h : Header) (fits : header_fits h ≡ true) where
  letter-seen : (allocated : List ℤ) (borders : List (List ℤ)) (rows text : List ℕ) (p : ℕ) → length allocated ≡ allocated_items h → length borders ≡ h.borders
      → drop p text ≡ section_text allocated_text 0 allocated ++ (section_text border_text 0 borders ++ rows) → intraday_at text p ≡ is_intraday h
  unfolding columns_text head_text
  letter-seen (a ∷ others) borders rows text p al bl here =
      let t : is_intraday h ≡ true = go (is_intraday h) refl in
      ap (λ (x : ℕ). eqb x (code "T")) (at_drop text _ p (code "T") here) ∙ sym t
    where
      go : (k : Bool) → is_intraday h ≡ k → is_intraday h ≡ true
      go true e = e
      go false e = let n : ⊥ = omega (arith, al, allocated_none h e) in absurd n
  letter-seen [] (b ∷ bs) rows text p al bl here =
      let f : is_intraday h ≡ false = go (is_intraday h) refl in
      ap (λ (x : ℕ). eqb x (code "T")) (at_drop text _ p (code "B") here) ∙ sym f
    where
      go : (k : Bool) → is_intraday h ≡ k → is_intraday h ≡ false
      go true e = let n : ⊥ = omega (arith, al, allocated_all h e, (header_in_lem h fits).zones_least_lem) in absurd n
      go false e = e
  letter-seen [] [] rows text p al bl here = let n : ⊥ = omega (arith, bl, (header_in_lem h fits).borders_least_lem) in absurd n

-- a row of a good table
pub rows_good : (t : Table) → Good t → (i : ℕ) → i < t.header.rows → row_good (get_or t.rows i []) (stretch t.header.zones t.factors i) ≡ true
rows_good t g i h =
    let zones = t.header.zones in
    let l = stretch_long zones t.header.rows t.factors g.exact.factors_long i h in
    good_row (get_or t.rows i []) (stretch zones t.factors i) (g.rows_fit i h)
    (λ z k. row_fit zones t.header.rows t.factors g.exact.factors_long (omega (arith, (header_in_lem t.header g.exact.header).zones_least_lem)) g.factors_fit i h z (rw l at k))

module _ (t : Table) (g : Good t) (s : Shaped t) where
  abbrev lines : List RowLine
  lines = cut t.header.zones t.rows t.factors

  lines_long : length lines ≡ t.header.rows
  lines_long = cut_long t.header.zones t.rows t.factors ∙ g.exact.rows_long

  values_are : values_of lines ≡ t.rows
  values_are = cut_values t.header.zones t.rows t.factors

  factors_are : factors_of lines ≡ t.factors
  factors_are = cut_factors t.header.zones t.rows t.factors (exact_factors t g.exact)

  row-held : (i : ℕ) → i < t.header.rows → RowHeld t.header.zones (get_or lines i empty_row)
  row-held i h =
      let zones = t.header.zones in
      let v : get_or t.rows i [] ≡ (get_or lines i empty_row).values = ap (λ (rows : List (List ℤ)). get_or rows i []) (sym values_are) ∙ values_at lines i in
      let f : stretch zones t.factors i ≡ (get_or lines i empty_row).factors = sym (cut_at zones t.rows t.factors i (omega (arith, g.exact.rows_long))) in
      let l = stretch_long zones t.header.rows t.factors g.exact.factors_long i h in
      record {
        wide = ap length (sym v) ∙ s.rows_wide i h;
        long = ap length (sym f) ∙ l;
        good = rw (← v, ← f) (rows_good t g i h);
      }

  written-lined : Lined t lines
  written-lined = record {
    nets_long = g.exact.nets_long;
    allocated_long = g.exact.allocated_long;
    borders_long = g.exact.borders_long;
    lines_long = lines_long;
    values_are = values_are;
    factors_are = factors_are;
    held = fits_all (RowHeldAt t.header.zones) empty_row lines 0 (λ k h. row-held k (rw lines_long at h));
  }

  zones-fit : AllFit ZoneFits 0 t.nets
  zones-fit = fits_all ZoneFits (pos 0) t.nets 0 (λ k h. (omega (arith, g.exact.nets_long, (header_in_lem t.header g.exact.header).zones_most_lem), g.nets_fit k (rw g.exact.nets_long at h)))

  allocated_fit : AllFit ZoneFits 0 t.allocated
  allocated_fit =
      fits_all ZoneFits (pos 0) t.allocated 0 (λ k h.
      (omega (arith, g.exact.allocated_long, allocated_most t.header, (header_in_lem t.header g.exact.header).zones_most_lem), g.allocated_fit k (rw g.exact.allocated_long at h)))

  borders_fit : AllFit (BorderFits t.header.zones) 0 t.borders
  borders_fit = fits_all (BorderFits t.header.zones) [] t.borders 0 (λ k h.
      let b = rw g.exact.borders_long at h in
      (omega (arith, g.exact.borders_long, (header_in_lem t.header g.exact.header).borders_most_lem), record { wide = s.borders_wide k b; fits = g.borders_fit k b }))

  rows_fit : AllFit (RowFits t.header.zones) 0 lines
  rows_fit = fits_all (RowFits t.header.zones) empty_row lines 0 (λ k h. (omega (arith, lines_long, (header_in_lem t.header g.exact.header).rows_most_lem), row-held k (rw lines_long at h)))

  -- the first line of the text, and what follows it
  module _ (text : List ℕ) (whole : text ≡ sections t lines) where
    first_line : line_at text 0 ≡ header_text t.header
    first_line = ap line_of whole ∙ header_one t.header _

    past_first : drop (after text 0) text ≡ section_text zone_text 0 t.nets ++ (section_text allocated_text 0 t.allocated ++ (section_text border_text 0 t.borders ++ section_text row_line_of 0 lines))
    past_first =
        ap (λ (k : ℕ). drop k text) (zero-add (length (line_at text 0)) ∙ ap length first_line)
        ∙ ap (drop (length (header_text t.header))) whole
        ∙ drop-append_seam (header_text t.header) _

    -- the profile is seen from the letter after the Z lines
    seen : (p : ℕ) → drop p text ≡ section_text allocated_text 0 t.allocated ++ (section_text border_text 0 t.borders ++ section_text row_line_of 0 lines) → profiled (profiled t.header false) (intraday_at text p) ≡ t.header
    seen p here =
        ap (λ (k : Bool). profiled t.header k) (letter-seen t.header g.exact.header t.allocated t.borders (section_text row_line_of 0 lines) text p g.exact.allocated_long g.exact.borders_long here)
        ∙ profile_kept t.header g.exact.header

    sections-read : lines_of text ≡ Ok t
    unfolding lines_by
    sections-read =
        let h = t.header in
        let done : List RowLine → ℕ → Judged Table = λ rows e.
        cond (ltb e (length text)) (Err (wrong_form (past_line_no h))) (Ok (record { header = h; nets = t.nets; allocated = t.allocated; borders = t.borders; rows = values_of rows; factors = factors_of rows })) in
        let first : header_line (line_at text 0) ≡ Ok (profiled h false) = ap header_line first_line ∙ header_written h g.exact.header in
        rw first
        (lines_goes zone_line zone_line_no zone_text ZoneFits (λ i net f. zone_written _ i net f.0 f.1) (λ i net r. zone_one _ i net refl r)
        _ (Ok t) t.nets h.zones text (after text 0) _ g.exact.nets_long past_first zones-fit (λ p h0.
        subst (λ (k : Header). allocated_from as_given text k t.nets p ≡ Ok t) (sym (seen p h0))
        (lines_goes allocated_line (allocated_line_no h) allocated_text ZoneFits (λ i net f. zone_written _ i net f.0 f.1) (λ i net r. zone_one _ i net refl r)
        _ (Ok t) t.allocated (allocated_items h) text p (section_text border_text 0 t.borders ++ section_text row_line_of 0 lines) g.exact.allocated_long h0 allocated_fit (λ o h1.
        unless_ok _ _ g.in_balance
        ∙ lines_goes (border_line h.zones) (border_line_no h) border_text (BorderFits h.zones)
        (λ i raw f. border_written h.zones i raw f.0 (header_in_lem h g.exact.header).zones_most_lem f.1) (λ i raw r. border_one h.zones i raw r)
        _ (Ok t) t.borders h.borders text o (section_text row_line_of 0 lines) g.exact.borders_long h1 borders_fit (λ q h2.
        lines_goes (row_line h.zones) (row_line_no h) row_line_of (RowFits h.zones) (λ i c f. row_written h.zones c f.1 row_kind.Table i f.0) (row_one row_kind.Table)
        done (Ok t) lines h.rows text q [] lines_long (h2 ∙ sym (append-nil _)) rows_fit (λ e h3.
        rw (le-ltb e (length text) (omega (arith, length-drop e text, ap length h3)))
        (ap Ok (table_is h t.nets t.allocated t.borders _ _ _ _ values_are factors_are))))))))

  pub lines_read : lines_of (table_text t) ≡ Ok t
  lines_read = sections-read (table_text t) (text_sections t lines written-lined)

  pub text_read : length (table_text t) ≤ bytes_most → read_text (table_text t) ≡ Ok t
  unfolding read_text
  text_read short = rw (le-ltb bytes_most (length (table_text t)) short) (then_next not_twice lines_read ∙ none_next _ _ _ _ g.once)
