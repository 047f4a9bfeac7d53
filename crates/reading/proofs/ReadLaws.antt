-- What is known of a table that was read: its header and sections of lines (`opened`), and that it is good (`read-good`, `read-shaped`). No contract cites this file.
use Rattle.std.specs.Prelude.{Err, Ok}
use mathlib.Core.Path.{◌≡◌, refl, sym, ap, subst, ◌∙◌}
use mathlib.Core.Bool.{Bool, true, false, cond}
use mathlib.Core.List.{List, []}
use Prim.Native.Nat.{ℕ, ◌*◌, ◌≤◌, ◌<◌}
use native.Mathlib.Omega.{arith}
use lib.Dec.{ltb}
use lib.IntN.{ℤ, pos}
use lib.ListN.{length, get_or}
use borrow.Author.Tests.{ltb-false}
use Rattle.limits.specs.Limits.{bytes_most}
use Rattle.refusals.specs.declared.Refusal.{Refusal}
use Rattle.refusals.specs.Refusals.{Judged, unless, too_long, wrong_form}
use Rattle.refusals.proofs.RefusalLaws.{passed_is, not_passed, unless_passed, none_passed, then_passed}
use Rattle.types.specs.declared.Header.{Header}
use Rattle.types.specs.Ranges.{header_fits, is_intraday, allocated_items, profiled, zone_fits, row_fits, factor_fits, at_ℤ}
use Rattle.types.proofs.RangeLaws.{header_in_lem, profiled_fits}
use Rattle.text.specs.Line.{line_at, after, Line, refusal_of}
use Rattle.sections.specs.Section.{read, lines_at}
use Rattle.sections.proofs.SectionLaws.{AllFit}
use Rattle.sections.proofs.SectionRecords.{section_fits, fits_at, lines_then}
use Rattle.tablerules.specs.Table.{Table, stretch, balanced, twice, not_twice, header_line_no, zone_line_no, allocated_line_no, border_line_no, row_line_no, past_line_no}
use Rattle.tablerules.specs.Good.{Good, Shaped}
use Rattle.tablerules.proofs.GoodLaws.{row_good_lem, flat_fit}
use Rattle.lines.specs.Lines.{RowLine, header_line, zone_line, allocated_line, border_line}
use Rattle.corrections.specs.Corrections.{Piece, piece}
use Rattle.rowlines.specs.Rows.{values_of, factors_of, as_given, picked_row}
use Rattle.rowlines.proofs.RowLaws.{empty_row, values_long, values_at, factors_long, stretch_of}
use Rattle.reading.specs.Reading.{with_header, intraday_at, rows_from, lines_by, lines_of, read_text}
use Rattle.lines.proofs.HeaderTrip.{header_read, header_plain}
use Rattle.lines.proofs.ZoneTrip.{zone_read_lem}
use Rattle.lines.proofs.BorderTrip.{BorderHeld, border_read_lem}
use Rattle.lines.specs.declared.row.RowKind.TheVariants as row_kind
use Rattle.lines.proofs.RowTrip.{RowHeld, RowHeldAt, row_read_lem}
use Rattle.std.specs.Prelude.{Ok, Err}

-- ---- the profile that a header is given
profile_given : (h : Header) (intraday : Bool) → is_intraday (profiled h intraday) ≡ intraday
profile_given h true = refl
profile_given h false = refl

-- ---- the chain of H, Z, T, B, C lines and the end of the text, opened. All but the rows is the same whichever lines are picked for them (`left`)
pub record Opened (pick : Piece → ℕ → Piece) (text : List ℕ) (t : Table) : Type 0 where
  pub lines : List RowLine
  pub p : ℕ
  pub o : ℕ
  pub q : ℕ
  pub e : ℕ
  pub header_is : header_line (line_at text 0) ≡ Ok (profiled t.header false)
  pub header_fits_lem : header_fits t.header ≡ true
  pub profile_is : is_intraday t.header ≡ intraday_at text p
  pub nets_are : lines_at zone_line zone_line_no t.header.zones text (after text 0) 0 ≡ read t.nets p
  pub allocated_are : lines_at allocated_line (allocated_line_no t.header) (allocated_items t.header) text p 0 ≡ read t.allocated o
  pub in_balance : balanced t.allocated ≡ true
  pub borders_are : lines_at (border_line t.header.zones) (border_line_no t.header) t.header.borders text o 0 ≡ read t.borders q
  pub rows_are : lines_at (picked_row t.header.zones pick) (row_line_no t.header) t.header.rows text q 0 ≡ read lines e
  pub whole : length text ≤ e
  pub values_are : values_of lines ≡ t.rows
  pub factors_are : factors_of lines ≡ t.factors
  pub left : (other : Piece → ℕ → Piece) → lines_by other text ≡ rows_from other text t.header t.nets t.allocated t.borders q

header_then : {P : Type 0} (t : Table) (l : Line Header) (next : Header → Judged Table) → with_header l next ≡ Ok t → ((h : Header) → l ≡ Ok h → next h ≡ Ok t → P) → P
header_then t (Ok h) next e k = k h refl e
header_then t (Err bad) next e k = absurd (not_passed (refusal_of bad header_line_no) t e)

-- a refusal where a test holds, and none was given
pub cond_passed : (a b : ℕ) (w : Refusal) (x : Judged Table) (t : Table) → cond (ltb a b) (Err w) x ≡ Ok t → (b ≤ a) × (x ≡ Ok t)
cond_passed a b w x t e = go (ltb a b) refl e
  where
    go : (s : Bool) → ltb a b ≡ s → cond s (Err w) x ≡ Ok t → (b ≤ a) × (x ≡ Ok t)
    go true q e = absurd (not_passed w t e)
    go false q e = (ltb-false a b q, e)

rows_left : (pick : Piece → ℕ → Piece) (text : List ℕ) (counts : Header) (nets : List ℤ) (p : ℕ) (allocated : List ℤ) (o : ℕ) (borders : List (List ℤ)) (q : ℕ)
    → let h = profiled counts (intraday_at text p) in
    header_line (line_at text 0) ≡ Ok counts
    → lines_at zone_line zone_line_no counts.zones text (after text 0) 0 ≡ read nets p
    → lines_at allocated_line (allocated_line_no h) (allocated_items h) text p 0 ≡ read allocated o
    → balanced allocated ≡ true
    → lines_at (border_line h.zones) (border_line_no h) h.borders text o 0 ≡ read borders q
    → lines_by pick text ≡ rows_from pick text h nets allocated borders q
unfolding lines_by unless
rows_left pick text counts nets p allocated o borders q eh en ea eb ec = rw (eh, en, ea, eb, ec)

pub opened : (pick : Piece → ℕ → Piece) (text : List ℕ) (t : Table) → lines_by pick text ≡ Ok t → Opened pick text t
unfolding lines_by
opened pick text t e =
    header_then t (header_line (line_at text 0)) _ e (λ counts header_is e1.
    lines_then t (lines_at zone_line zone_line_no counts.zones text (after text 0) 0) _ e1 (λ nets p nets_are e2.
    let h = profiled counts (intraday_at text p) in
    lines_then t (lines_at allocated_line (allocated_line_no h) (allocated_items h) text p 0) _ e2 (λ allocated o allocated_are e3.
    let s = unless_passed t _ _ _ e3 in
    lines_then t (lines_at (border_line h.zones) (border_line_no h) h.borders text o 0) _ s.1 (λ borders q borders_are e4.
    lines_then t (lines_at (picked_row h.zones pick) (row_line_no h) h.rows text q 0) _ e4 (λ lines e rows_are e5.
    let l = cond_passed e (length text) (wrong_form (past_line_no h)) _ t e5 in
    subst (Opened pick text) (passed_is _ t l.1)
    (record {
      lines = lines;
      p = p;
      o = o;
      q = q;
      e = e;
      header_is = header_is ∙ ap Ok (sym (header_plain (line_at text 0) counts header_is));
      header_fits_lem = profiled_fits counts (intraday_at text p) (header_read (line_at text 0) counts header_is).1;
      profile_is = profile_given counts (intraday_at text p);
      nets_are = nets_are;
      allocated_are = allocated_are;
      in_balance = s.0;
      borders_are = borders_are;
      rows_are = rows_are;
      whole = l.0;
      values_are = refl;
      factors_are = refl;
      left = λ other. rows_left other text counts nets p allocated o borders q header_is nets_are allocated_are s.0 borders_are;
    }))))))

pub record Reading (text : List ℕ) (t : Table) : Type 0 where
  pub short : length text ≤ bytes_most
  pub lines : lines_of text ≡ Ok t
  pub once : (b : ℕ) → b < t.header.borders → twice t.borders b ≡ false

pub reading : (text : List ℕ) (t : Table) → read_text text ≡ Ok t → Reading text t
unfolding read_text
reading text t e =
    let a = cond_passed bytes_most (length text) too_long _ t e in
    let w = then_passed (lines_of text) not_twice t a.1 in
    let f = none_passed _ _ _ _ t w.second in
    let u : w.it ≡ t = passed_is _ _ f.1 in
    record { short = a.0; lines = w.first ∙ ap Ok u; once = subst (λ (x : Table). (b : ℕ) → b < x.header.borders → twice x.borders b ≡ false) u f.0 }

-- ---- a table that was read is good
module _ (pick : Piece → ℕ → Piece) (text : List ℕ) (t : Table) (o : Opened pick text t) where
  pub fits : header_fits t.header ≡ true
  fits = o.header_fits_lem

  pub some : 0 < t.header.zones
  some = omega (arith, (header_in_lem t.header fits).zones_least_lem)

  pub nets_held : (length t.nets ≡ t.header.zones) × AllFit (λ i net. zone_fits net ≡ true) 0 t.nets
  nets_held = section_fits zone_line zone_line_no (λ i net. zone_fits net ≡ true) (λ line i net e. (zone_read_lem _ line i net e).1) t.header.zones text (after text 0) 0 t.nets o.p o.nets_are

  pub allocated_held : (length t.allocated ≡ allocated_items t.header) × AllFit (λ i net. zone_fits net ≡ true) 0 t.allocated
  allocated_held =
      section_fits allocated_line (allocated_line_no t.header) (λ i net. zone_fits net ≡ true) (λ line i net e. (zone_read_lem _ line i net e).1)
      (allocated_items t.header) text o.p 0 t.allocated o.o o.allocated_are

  pub borders_held : (length t.borders ≡ t.header.borders) × AllFit (λ i raw. BorderHeld t.header.zones raw) 0 t.borders
  borders_held =
      section_fits (border_line t.header.zones) (border_line_no t.header) (λ i raw. BorderHeld t.header.zones raw) (λ line i raw e. (border_read_lem t.header.zones line i raw e).1)
      t.header.borders text o.o 0 t.borders o.q o.borders_are

  pub rows_held : (length o.lines ≡ t.header.rows) × AllFit (RowHeldAt t.header.zones) 0 o.lines
  rows_held =
      section_fits (picked_row t.header.zones pick) (row_line_no t.header) (RowHeldAt t.header.zones) (λ line i c e. let p = pick (piece row_kind.Table line) i in (row_read_lem p.kind t.header.zones p.line i c e).1)
      t.header.rows text o.q 0 o.lines o.e o.rows_are

  border-at : (b : ℕ) → b < t.header.borders → BorderHeld t.header.zones (get_or t.borders b [])
  border-at b h = fits_at (λ i raw. BorderHeld t.header.zones raw) [] t.borders 0 borders_held.1 b (omega (arith, borders_held.0))

  row_at : (i : ℕ) → i < t.header.rows → RowHeld t.header.zones (get_or o.lines i empty_row)
  row_at i h = fits_at (RowHeldAt t.header.zones) empty_row o.lines 0 rows_held.1 i (omega (arith, rows_held.0))

  values_is : (i : ℕ) → get_or t.rows i [] ≡ (get_or o.lines i empty_row).values
  values_is i = rw (← o.values_are) (values_at o.lines i)

  stretch-is : (i : ℕ) → i < t.header.rows → stretch t.header.zones t.factors i ≡ (get_or o.lines i empty_row).factors
  stretch-is i h = rw (← o.factors_are) (stretch_of t.header.zones o.lines 0 rows_held.1 i (omega (arith, rows_held.0)))

  factors_all : length t.factors ≡ t.header.rows * t.header.zones
  factors_all = rw (← o.factors_are, ← rows_held.0) (factors_long t.header.zones o.lines 0 rows_held.1)

  rows_all_fit : (i : ℕ) → i < t.header.rows → row_fits (get_or t.rows i []) ≡ true
  rows_all_fit i h = let c = get_or o.lines i empty_row in rw (values_is i) (row_good_lem c.values c.factors (row_at i h).good).0

  pub opened_good : ((b : ℕ) → b < t.header.borders → twice t.borders b ≡ false) → Good t
  opened_good once = record {
    exact = record {
      header = fits;
      nets_long = nets_held.0;
      allocated_long = allocated_held.0;
      borders_long = borders_held.0;
      rows_long = rw (← o.values_are) (values_long o.lines) ∙ rows_held.0;
      factors_long = factors_all;
    };
    nets_fit = λ i h. fits_at (λ i net. zone_fits net ≡ true) (pos 0) t.nets 0 nets_held.1 i (omega (arith, nets_held.0));
    allocated_fit = λ i h. fits_at (λ i net. zone_fits net ≡ true) (pos 0) t.allocated 0 allocated_held.1 i (omega (arith, allocated_held.0));
    in_balance = o.in_balance;
    borders_fit = λ b h. (border-at b h).fits;
    rows_fit = rows_all_fit;
    factors_fit = flat_fit t.header.zones t.header.rows t.factors factors_all some (λ i h.
        subst (λ (f : List ℤ). (z : ℕ) → z < length f → factor_fits (at_ℤ f z) ≡ true) (sym (stretch-is i h))
        (row_good_lem (get_or o.lines i empty_row).values (get_or o.lines i empty_row).factors (row_at i h).good).1);
    once = once;
  }

  pub opened_shaped : Shaped t
  opened_shaped = record {
    borders_wide = λ b h. (border-at b h).wide;
    rows_wide = λ i h. ap length (values_is i) ∙ (row_at i h).wide;
  }

pub read_good : (text : List ℕ) (t : Table) → read_text text ≡ Ok t → Good t
read_good text t e = let r = reading text t e in opened_good as_given text t (opened as_given text t r.lines) r.once

pub read_shaped : (text : List ℕ) (t : Table) → read_text text ≡ Ok t → Shaped t
read_shaped text t e = opened_shaped as_given text t (opened as_given text t (reading text t e).lines)
