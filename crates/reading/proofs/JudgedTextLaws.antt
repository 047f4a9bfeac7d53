-- The laws of `lines_of` of `specs/Reading.antt` and `read_short` of `specs/Places.antt`: which judgement decides, one law for each, and what is known where none does.
-- No contract cites this file.
-- In order: a section of lines, opened; the H line; the Z lines; the T lines, and their sum; the B lines; the C lines, the end, and what is judged after it.
use Rattle.std.specs.Prelude.{Err, None, Ok, Option, Some}
use mathlib.Core.Path.{◌≡◌, refl, sym, ap, ap₂, subst, ◌∙◌}
use mathlib.Core.Bool.{true, false, cond}
use mathlib.Core.List.{List, [], ◌∷◌, ◌++◌}
use Prim.Native.Char.{code}
use Prim.Native.Nat.{ℕ, zero, suc, ◌*◌, ◌≤◌, ◌<◌}
use native.Mathlib.Omega.{arith}
use lib.Dec.{ltb, eqb}
use lib.IntN.{ℤ, pos}
use lib.ListN.{length, take, drop}
use lib.Seq.{length-take-le, length_front, take_at}
use borrow.Author.Tests.{lt-ltb, le-ltb}
use Rattle.numbers.specs.Below.{at, first_from}
use Rattle.numbers.specs.Ints.{AllWithin}
use Rattle.refusals.specs.declared.Refusal.{Refusal}
use Rattle.refusals.specs.Answers.{said_judgement}
use Rattle.refusals.specs.Refusals.{Judged, then, unless, wrong_form, out_of_range_at, given_twice, Ruling}
use Rattle.refusals.proofs.RefusalLaws.{passed_is, refused_is, not_passed, then_next, then_refused, unless_ok, unless_refused, first_found, first_none_next}
use Rattle.types.specs.declared.Header.{Header}
use Rattle.types.specs.LineLimits.{net_most}
use Rattle.types.specs.Ranges.{header_fits, allocated_items, profiled, zone_fits}
use Rattle.types.proofs.RangeLaws.{HeaderIn, header_in_lem, profiled_fits, zone_in}
use Rattle.text.specs.Line.{Line, line_at, refusal_of}
use Rattle.sections.specs.Section.{Section, read, fault, lines_at, with_lines}
use Rattle.sections.proofs.SectionRecords.{section_fits, section_long, section_within, fits_at}
use Rattle.sections.proofs.StoredLaws.{after_within}
use Rattle.tablerules.specs.Table.{Table, lent, front, balanced, twice, not_twice, header_line_no, zone_line_no, allocated_line_no, last_allocated_line_no, border_line_no, row_line_no, past_line_no}
use Rattle.lines.specs.Lines.{RowLine, header_line, zone_line, allocated_line, border_line, row_line}
use Rattle.lines.specs.declared.row.RowKind.TheVariants as row_kind
use Rattle.lines.proofs.HeaderTrip.{header_read}
use Rattle.lines.proofs.ZoneTrip.{zone_read_lem}
use Rattle.corrections.specs.Corrections.{Piece, handed_by, judge_corrections}
use Rattle.rowlines.specs.Rows.{values_of, factors_of, cut, as_given, picked_row, corrected_by}
use Rattle.rowlines.proofs.RowLaws.{cut_long, cut_values, cut_factors}
use Rattle.rowlines.proofs.PickedLaws.{SectionRead, both_fault, both_read}
use Rattle.reading.specs.Reading.{intraday_at, balance_byte, rows_from, borders_from, allocated_from, lines_by, lines_of, read_into}
use Rattle.reading.specs.Places.{Roomy, Headed, Netted, Allocated, Bordered, read_short, used_of, judged_last}
use Rattle.std.specs.Prelude.{Err, None, Ok, Option, Some}
use Rattle.text.specs.declared.LineFault.{LineFault}

-- ---- a section of lines, opened
module _ {A B : Type 0} (x : Section A) (f : List A → ℕ → Judged B) where
  pub with_read : (xs : List A) (next : ℕ) → x ≡ read xs next → with_lines x f ≡ f xs next
  with_read xs next e = ap (λ (y : Section A). with_lines y f) e

  with-fault : (w : Refusal) → x ≡ fault w → with_lines x f ≡ Err w
  with-fault w e = ap (λ (y : Section A). with_lines y f) e

-- as many lines as the part of a table has that is lent for them
pub section_lent : {A : Type 0} (judge : List ℕ → ℕ → Line A) (first n : ℕ) (text : List ℕ) (at : ℕ) (xs : List A) → n ≤ length xs → lines_at judge first (length (take n xs)) text at 0 ≡ lines_at judge first n text at 0
section_lent judge first n text at xs h = ap (λ (k : ℕ). lines_at judge first k text at 0) (length-take-le n xs h)

-- memory that holds the largest table still does, whatever was stored in front of it
module _ {z t : List ℤ} {b c : List (List ℤ)} {f : List ℤ} (u : Roomy z t b c f) (n : ℕ) where
  pub room_z : (xs : List ℤ) → length xs ≡ length (take n z) → Roomy (xs ++ drop n z) t b c f
  room_z xs e = record { zones = omega (arith, length_front z xs n e, u.zones); allocated = u.allocated; borders = u.borders; rows = u.rows; factors = u.factors }

  pub room_t : (xs : List ℤ) → length xs ≡ length (take n t) → Roomy z (xs ++ drop n t) b c f
  room_t xs e = record { zones = u.zones; allocated = omega (arith, length_front t xs n e, u.allocated); borders = u.borders; rows = u.rows; factors = u.factors }

  pub room_b : (xs : List (List ℤ)) → length xs ≡ length (take n b) → Roomy z t (xs ++ drop n b) c f
  room_b xs e = record { zones = u.zones; allocated = u.allocated; borders = omega (arith, length_front b xs n e, u.borders); rows = u.rows; factors = u.factors }

-- ---- the lines decide where they are refused
pub lines_refused : (text sheet : List ℕ) (w : Refusal) → Err w ≡ lines_of text → Err w ≡ read_short text sheet
unfolding read_short
lines_refused text sheet w e = sym (then_refused _ (then_refused not_twice (sym e)))

-- ---- the H line
module _ (text sheet : List ℕ) where
  lines-bad : (bad : LineFault) → header_line (line_at text 0) ≡ Err bad → Err (refusal_of bad header_line_no) ≡ lines_of text
  unfolding lines_by
  lines-bad bad e = rw e

  pub header_bad : (bad : LineFault) → header_line (line_at text 0) ≡ Err bad → Err (refusal_of bad header_line_no) ≡ read_short text sheet
  header_bad bad e = lines_refused text sheet _ (lines-bad bad e)

-- ---- beyond the text no letter stands
at_beyond : (text : List ℕ) (p : ℕ) → length text ≤ p → at text p ≡ 0
at_beyond [] p h = refl
at_beyond (x ∷ text) zero h = absurd (omega arith)
at_beyond (x ∷ text) (suc p) h = at_beyond text p (omega arith)

pub letter_beyond : (text : List ℕ) (p : ℕ) → length text ≤ p → intraday_at text p ≡ false
letter_beyond text p h = ap (λ (x : ℕ). eqb x (code "T")) (at_beyond text p h)

-- ---- the Z lines
module _ (text : List ℕ) (h : Header) where
  abbrev pub nets_section : (at : ℕ) → Section ℤ
  nets_section at = lines_at zone_line zone_line_no h.zones text at 0

  abbrev pub allocated_section : (at : ℕ) → Section ℤ
  allocated_section at = lines_at allocated_line (allocated_line_no h) (allocated_items h) text at 0

  abbrev pub borders_section : (at : ℕ) → Section (List ℤ)
  borders_section at = lines_at (border_line h.zones) (border_line_no h) h.borders text at 0

module _ {text : List ℕ} {counts : Header} {at : ℕ} (u : Headed text counts at) where
  counts-fit : header_fits counts ≡ true
  counts-fit = (header_read (line_at text 0) counts u.header_is).1

  pub counted : HeaderIn counts
  counted = header_in_lem counts counts-fit

  pub at_within : at ≤ length text
  at_within = omega (arith, u.at_is, after_within text 0 (omega arith))

  abbrev after_nets : (pick : Piece → ℕ → Piece) → List ℤ → ℕ → Judged Table
  after_nets pick nets p = allocated_from pick text (profiled counts (intraday_at text p)) nets p

  past-header : (pick : Piece → ℕ → Piece) → lines_by pick text ≡ with_lines (nets_section text counts at) (after_nets pick)
  unfolding lines_by
  past-header pick = rw (u.header_is, u.at_is)

  pub nets_refused : (sheet : List ℕ) (w : Refusal) → fault w ≡ nets_section text counts at → Err w ≡ read_short text sheet
  nets_refused sheet w e = lines_refused text sheet w (sym (past-header as_given ∙ with-fault _ (after_nets as_given) w (sym e)))

  pub nets_passed : (z rest : List ℤ) (p : ℕ) → read z p ≡ nets_section text counts at → Netted text (profiled counts (intraday_at text p)) (z ++ rest) p
  nets_passed z rest p e =
      let long = section_long zone_line zone_line_no counts.zones text at 0 z p (sym e) in
      record {
        fits = profiled_fits counts (intraday_at text p) counts-fit;
        within = section_within zone_line zone_line_no counts.zones text at 0 z p at_within (sym e);
        left = λ pick. past-header pick ∙ with_read _ (after_nets pick) z p (sym e)
            ∙ ap (λ (l : List ℤ). after_nets pick l p) (sym (take_at z rest counts.zones long));
      }

-- ---- the T lines, and their sum
module _ {text : List ℕ} {h : Header} {z : List ℤ} {at : ℕ} (u : Netted text h z at) where
  pub netted : HeaderIn h
  netted = header_in_lem h u.fits

  abbrev after_sum : (pick : Piece → ℕ → Piece) → List ℤ → ℕ → Judged Table
  after_sum pick allocated o = unless (balanced allocated) (out_of_range_at (last_allocated_line_no h) (balance_byte h.zones)) (borders_from pick text h (take h.zones z) allocated o)

  pub allocated_refused : (sheet : List ℕ) (w : Refusal) → fault w ≡ allocated_section text h at → Err w ≡ read_short text sheet
  allocated_refused sheet w e = lines_refused text sheet w (sym (u.left as_given ∙ with-fault _ (after_sum as_given) w (sym e)))

  module _ (t : List ℤ) (o : ℕ) (section : read t o ≡ allocated_section text h at) where
    -- the positions of good lines, as their sum is asked for
    pub allocated_held : (length t ≡ allocated_items h) × AllWithin net_most t
    allocated_held =
        let f = section_fits allocated_line (allocated_line_no h) (λ i net. zone_fits net ≡ true) (λ line i net e. (zone_read_lem _ line i net e).1) (allocated_items h) text at 0 t o (sym section) in
        (f.0, record { at = λ i l. zone_in _ (fits_at (λ i net. zone_fits net ≡ true) (pos 0) t 0 f.1 i l) })

    past-allocated : (pick : Piece → ℕ → Piece) → lines_by pick text ≡ after_sum pick t o
    past-allocated pick = u.left pick ∙ with_read _ (after_sum pick) t o (sym section)

    pub unbalanced : (sheet : List ℕ) → balanced t ≡ false → Err (out_of_range_at (last_allocated_line_no h) (balance_byte h.zones)) ≡ read_short text sheet
    unbalanced sheet e = lines_refused text sheet _ (sym (past-allocated as_given ∙ unless_refused _ _ e))

    pub allocated_passed : (rest : List ℤ) → balanced t ≡ true → Allocated text h z (t ++ rest) o
    allocated_passed rest e =
        record {
          fits = u.fits;
          within = section_within allocated_line (allocated_line_no h) (allocated_items h) text at 0 t o u.within (sym section);
          left = λ pick. past-allocated pick ∙ unless_ok _ _ e
              ∙ ap (λ (l : List ℤ). borders_from pick text h (take h.zones z) l o) (sym (take_at t rest (allocated_items h) allocated_held.0));
        }

-- ---- the B lines
module _ {text : List ℕ} {h : Header} {z t : List ℤ} {at : ℕ} (u : Allocated text h z t at) where
  pub bounds : HeaderIn h
  bounds = header_in_lem h u.fits

  abbrev after_borders : (pick : Piece → ℕ → Piece) → List (List ℤ) → ℕ → Judged Table
  after_borders pick borders q = rows_from pick text h (take h.zones z) (take (allocated_items h) t) borders q

  pub borders_refused : (sheet : List ℕ) (w : Refusal) → fault w ≡ borders_section text h at → Err w ≡ read_short text sheet
  borders_refused sheet w e = lines_refused text sheet w (sym (u.left as_given ∙ with-fault _ (after_borders as_given) w (sym e)))

  pub borders_passed : (b rest : List (List ℤ)) (q : ℕ) → read b q ≡ borders_section text h at → Bordered text h z t (b ++ rest) q
  borders_passed b rest q section =
      let long = section_long (border_line h.zones) (border_line_no h) h.borders text at 0 b q (sym section) in
      record {
        fits = u.fits;
        within = section_within (border_line h.zones) (border_line_no h) h.borders text at 0 b q u.within (sym section);
        left = λ pick. u.left pick ∙ with_read _ (after_borders pick) b q (sym section)
            ∙ ap (λ (l : List (List ℤ)). after_borders pick l q) (sym (take_at b rest h.borders long));
      }

-- ---- what an answer says of the tables
module _ (z t : List ℤ) (b c : List (List ℤ)) (f : List ℤ) where
  said_refused : (r : Judged Header) (w : Refusal) → r ≡ Err w → read_into r z t b c f ≡ Err w
  said_refused (Ok h) w e = absurd (not_passed w h (sym e))
  said_refused (Err v) w e = ap Err (refused_is {A = Header} v w e)

  said-table : (r : Judged Header) (h : Header) → r ≡ Ok h → read_into r z t b c f ≡ Ok (front (lent h z t b c f))
  said-table (Ok g) h e = ap (λ (x : Header). Ok (front (lent x z t b c f))) (passed_is g h e)
  said-table (Err w) h e = absurd (not_passed w h e)

-- ---- the C lines, the end, and what is judged after it
pub used_good : (zones rows : ℕ) (sheet : List ℕ) (held : Ruling) → said_judgement held tt ≡ judge_corrections zones rows sheet → judge_corrections zones rows (used_of held sheet) ≡ Ok tt
used_good zones rows sheet (Ok tt) e = sym e
used_good zones rows sheet (Err w) e = refl

module _ {text : List ℕ} {h : Header} {z t : List ℤ} {b : List (List ℤ)} {at : ℕ} (u : Bordered text h z t b at) (sheet : List ℕ) (held : Ruling) (ruling : said_judgement held tt ≡ judge_corrections h.zones h.rows sheet) where
  pub reached : HeaderIn h
  reached = header_in_lem h u.fits

  abbrev nets : List ℤ
  nets = take h.zones z

  abbrev allocated : List ℤ
  allocated = take (allocated_items h) t

  abbrev borders : List (List ℤ)
  borders = take h.borders b

  abbrev after_rows : List RowLine → ℕ → Judged Table
  after_rows rows e = cond (ltb e (length text)) (Err (wrong_form (past_line_no h))) (Ok (lent h nets allocated borders (values_of rows) (factors_of rows)))

  abbrev day_section : Section RowLine
  day_section = lines_at (row_line h.zones) (row_line_no h) h.rows text at 0

  abbrev pub rows_section : Section RowLine
  rows_section = lines_at (corrected_by row_kind.Table h.zones (handed_by (used_of held sheet))) (row_line_no h) h.rows text at 0

  -- the rows' section by the names of the code: its first line, how many lines, and the sheet in use
  pub rows_lent : (first n : ℕ) (used : List ℕ) → first ≡ row_line_no h → n ≡ h.rows → used ≡ used_of held sheet → lines_at (corrected_by row_kind.Table h.zones (handed_by used)) first n text at 0 ≡ rows_section
  rows_lent first n used ef en eu =
      ap₂ (λ (k m : ℕ). lines_at (corrected_by row_kind.Table h.zones (handed_by used)) k m text at 0) ef en
      ∙ ap (λ (s : List ℕ). lines_at (corrected_by row_kind.Table h.zones (handed_by s)) (row_line_no h) h.rows text at 0) eu

  good : judge_corrections h.zones h.rows (used_of held sheet) ≡ Ok tt
  good = used_good h.zones h.rows sheet held ruling

  pub rows_refused : (w : Refusal) → fault w ≡ rows_section → Err w ≡ read_short text sheet
  rows_refused w e = lines_refused text sheet w (sym (u.left as_given ∙ with-fault _ after_rows w (both_fault h.zones h.rows (used_of held sheet) good (row_line_no h) text h.rows at 0 w (sym e))))

  module _ (c : List (List ℤ)) (f : List ℤ) (e : ℕ) (section : read (cut h.zones c f) e ≡ rows_section) where
    read_sections : SectionRead day_section e × (lines_at (picked_row h.zones (handed_by (used_of held sheet))) (row_line_no h) h.rows text at 0 ≡ read (cut h.zones c f) e)
    read_sections = both_read h.zones h.rows (used_of held sheet) good (row_line_no h) text h.rows at 0 (cut h.zones c f) e (sym section)

    past-rows : lines_of text ≡ after_rows read_sections.0.held e
    past-rows = u.left as_given ∙ with_read _ after_rows read_sections.0.held e read_sections.0.is

    pub more_follows : e < length text → Err (wrong_form (past_line_no h)) ≡ read_short text sheet
    more_follows l = lines_refused text sheet _ (sym (past-rows ∙ rw (lt-ltb e (length text) l)))

    rows_long : length c ≡ h.rows
    rows_long = sym (cut_long h.zones c f) ∙ section_long _ (row_line_no h) h.rows text at 0 (cut h.zones c f) e (sym section)

    module _ (whole : length text ≤ e) (long : length f ≡ h.rows * h.zones) where
      abbrev day : Table
      day = lent h nets allocated borders (values_of read_sections.0.held) (factors_of read_sections.0.held)

      day-is : lines_of text ≡ Ok day
      day-is = past-rows ∙ rw (le-ltb e (length text) whole)

      abbrev after_day : Table → Judged Table
      after_day d = then (judge_corrections d.header.zones d.header.rows sheet) (λ _. lines_by (handed_by sheet) text)

      past-lines : read_short text sheet ≡ then (not_twice day) after_day
      unfolding read_short
      past-lines = ap (λ (j : Judged Table). then j after_day) (then_next not_twice day-is)

      -- with the sheet's own lines
      merged-is : held ≡ (Ok tt) → lines_by (handed_by sheet) text ≡ Ok (lent h nets allocated borders c f)
      merged-is k =
          let own : used_of held sheet ≡ sheet = ap (λ (j : Ruling). used_of j sheet) k in
          let handed = subst (λ (s : List ℕ). lines_at (picked_row h.zones (handed_by s)) (row_line_no h) h.rows text at 0 ≡ read (cut h.zones c f) e) own read_sections.1 in
          u.left (handed_by sheet) ∙ with_read _ after_rows (cut h.zones c f) e handed
          ∙ rw (le-ltb e (length text) whole, cut_values h.zones c f, cut_factors h.zones c f (long ∙ ap (λ (n : ℕ). n * h.zones) (sym rows_long)))

      pub lines_done : (r : Judged Header) (c' : List (List ℤ)) (f' : List ℤ) → r ≡ judged_last h held borders → read_into r z t b (c ++ c') (f ++ f') ≡ read_short text sheet
      lines_done r c' f' said = by-twice (first_from h.borders 0 (twice borders)) refl
        where
          by-held : first_from h.borders 0 (twice borders) ≡ None → (k : Ruling) → held ≡ k → read_into r z t b (c ++ c') (f ++ f') ≡ read_short text sheet
          by-held q (Ok tt) k =
              said-table z t b (c ++ c') (f ++ f') r h (said ∙ first_none_next _ h.borders (twice borders) given_twice q ∙ ap (λ (j : Ruling). said_judgement j h) k)
              ∙ ap₂ (λ (x : List (List ℤ)) (y : List ℤ). Ok (lent h nets allocated borders x y)) (take_at c c' h.rows rows_long) (take_at f f' (h.rows * h.zones) long)
              ∙ sym
              (past-lines
              ∙ then_next after_day (first_none_next (Ok day) h.borders (twice borders) given_twice q)
              ∙ then_next _ (sym ruling ∙ ap (λ (j : Ruling). said_judgement j tt) k)
              ∙ merged-is k)
          by-held q (Err w) k =
              said_refused z t b (c ++ c') (f ++ f') r w (said ∙ first_none_next _ h.borders (twice borders) given_twice q ∙ ap (λ (j : Ruling). said_judgement j h) k)
              ∙ sym
              (past-lines
              ∙ then_next after_day (first_none_next (Ok day) h.borders (twice borders) given_twice q)
              ∙ then_refused _ (sym ruling ∙ ap (λ (j : Ruling). said_judgement j tt) k))

          by-twice : (o : Option ℕ) → first_from h.borders 0 (twice borders) ≡ o → read_into r z t b (c ++ c') (f ++ f') ≡ read_short text sheet
          by-twice (Some i) q =
              said_refused z t b (c ++ c') (f ++ f') r (given_twice i) (said ∙ first_found _ h.borders (twice borders) given_twice q)
              ∙ sym (past-lines ∙ then_refused after_day (first_found (Ok day) h.borders (twice borders) given_twice q))
          by-twice None q = by-held q held refl
