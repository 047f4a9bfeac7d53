-- The laws of `specs/Table.antt`'s `judge_shape`, `judge_records` and `judge_for`: which record decides, and what is said where none does. No contract cites this file.
use Rattle.std.specs.Prelude.{Err, None, Ok, Some, Option}
use mathlib.Core.Path.{◌≡◌, refl, sym, ap, subst, ◌∙◌}
use mathlib.Core.Bool.{Bool, true, false, not}
use mathlib.Core.List.{[]}
use Prim.Native.Nat.{ℕ, ◌+◌, ◌*◌, ◌≤◌}
use native.Mathlib.Omega.{arith}
use borrow.Author.Tests.{not-false}
use lib.ListN.{length, get_or}
use lib.Seq.{length-take-le}
use Rattle.numbers.specs.Below.{first_from}
use Rattle.numbers.specs.Ints.{AllWithin}
use Rattle.numbers.proofs.BelowLaws.{first_none}
use Rattle.limits.specs.Limits.{zones_most}
use Rattle.refusals.specs.declared.Refusal.{Refusal}
use Rattle.refusals.specs.Answers.{said_judgement}
use Rattle.refusals.specs.Refusals.{Judged, then, refuse_first, out_of_range, given_twice, Ruling}
use Rattle.refusals.proofs.RefusalLaws.{passed_is, then_next, then_refused, unless_passed, unless_ok, unless_refused, first_found, first_none_next}
use Rattle.types.specs.LineLimits.{net_most}
use Rattle.types.specs.declared.Header.{Header}
use Rattle.types.specs.Ranges.{at_ℤ, header_fits, allocated_items, zone_fits, border_fits}
use Rattle.types.proofs.RangeLaws.{header_in_lem, zone_in, allocated_most}
use Rattle.tablerules.specs.Table.{Table, factors_at, zone_line_no, allocated_line_no, last_allocated_line_no, border_line_no, row_line_no, balanced, row_good, header_line_no, twice, in_range, not_twice, table_room, front, judge_shape, room_for_p, judge_records, judge_for}
use Rattle.tablerules.specs.Good.{Exact}
use Rattle.tablerules.proofs.RoomLaws.{room_passed, room_of, p_room_of}

module _ (t : Table) (exact : Exact t) where
  abbrev zone_out : ℕ → Bool
  zone_out i = not (zone_fits (at_ℤ t.nets i))

  abbrev allocated_out : ℕ → Bool
  allocated_out i = not (zone_fits (at_ℤ t.allocated i))

  abbrev border_out : ℕ → Bool
  border_out i = not (border_fits t.header.zones (get_or t.borders i []))

  abbrev row_out : ℕ → Bool
  row_out i = not (row_good (get_or t.rows i []) (factors_at t i))

  abbrev judged : Judged Table
  judged = judge_records t

  pub zone_refused : (i : ℕ) → Some i ≡ first_from (length t.nets) 0 zone_out → Err (out_of_range (zone_line_no + i)) ≡ judged
  zone_refused i e =
      let e' = subst (λ (n : ℕ). Some i ≡ first_from n 0 zone_out) exact.nets_long e in
      sym (then_refused not_twice (first_found _ _ _ _ (sym e')))

  module _ (z : None ≡ first_from (length t.nets) 0 zone_out) where
    past-zones : first_from t.header.zones 0 zone_out ≡ None
    past-zones = sym (subst (λ (n : ℕ). None ≡ first_from n 0 zone_out) exact.nets_long z)

    pub allocated_refused : (i : ℕ) → Some i ≡ first_from (length t.allocated) 0 allocated_out → Err (out_of_range (allocated_line_no t.header + i)) ≡ judged
    allocated_refused i e =
        let e' = subst (λ (n : ℕ). Some i ≡ first_from n 0 allocated_out) exact.allocated_long e in
        sym (then_refused not_twice (first_none_next _ _ _ _ past-zones ∙ first_found _ _ _ _ (sym e')))

    module _ (a : None ≡ first_from (length t.allocated) 0 allocated_out) where
      past-allocated : first_from (allocated_items t.header) 0 allocated_out ≡ None
      past-allocated = sym (subst (λ (n : ℕ). None ≡ first_from n 0 allocated_out) exact.allocated_long a)

      pub balance_refused : balanced t.allocated ≡ false → Err (out_of_range (last_allocated_line_no t.header)) ≡ judged
      balance_refused e = sym (then_refused not_twice (first_none_next _ _ _ _ past-zones ∙ first_none_next _ _ _ _ past-allocated ∙ unless_refused _ _ e))

      module _ (even : balanced t.allocated ≡ true) where
        -- what is left to judge where the positions are good
        abbrev left : Judged Table
        left =
            refuse_first t.header.borders border_out (λ i. out_of_range (border_line_no t.header + i))
            (refuse_first t.header.rows row_out (λ i. out_of_range (row_line_no t.header + i))
            (Ok t))

        past-positions : in_range t ≡ left
        past-positions = first_none_next _ _ _ _ past-zones ∙ first_none_next _ _ _ _ past-allocated ∙ unless_ok _ _ even

        pub border_refused : (i : ℕ) → Some i ≡ first_from (length t.borders) 0 border_out → Err (out_of_range (border_line_no t.header + i)) ≡ judged
        border_refused i e =
            let e' = subst (λ (n : ℕ). Some i ≡ first_from n 0 border_out) exact.borders_long e in
            sym (then_refused not_twice (past-positions ∙ first_found _ _ _ _ (sym e')))

        module _ (b : None ≡ first_from (length t.borders) 0 border_out) where
          past-borders : first_from t.header.borders 0 border_out ≡ None
          past-borders = sym (subst (λ (n : ℕ). None ≡ first_from n 0 border_out) exact.borders_long b)

          pub row_refused : (i : ℕ) → Some i ≡ first_from (length t.rows) 0 row_out → Err (out_of_range (row_line_no t.header + i)) ≡ judged
          row_refused i e =
              let e' = subst (λ (n : ℕ). Some i ≡ first_from n 0 row_out) exact.rows_long e in
              sym (then_refused not_twice (past-positions ∙ first_none_next _ _ _ _ past-borders ∙ first_found _ _ _ _ (sym e')))

          module _ (c : None ≡ first_from (length t.rows) 0 row_out) where
            past-rows : in_range t ≡ Ok t
            past-rows =
                past-positions ∙ first_none_next _ _ _ _ past-borders
                ∙ first_none_next _ _ _ _ (sym (subst (λ (n : ℕ). None ≡ first_from n 0 row_out) exact.rows_long c))

            pub twice_refused : (i : ℕ) → Some i ≡ first_from (length t.borders) 0 (twice t.borders) → Err (given_twice i) ≡ judged
            twice_refused i e =
                let e' = subst (λ (n : ℕ). Some i ≡ first_from n 0 (twice t.borders)) exact.borders_long e in
                sym (then_next not_twice past-rows ∙ first_found _ _ _ _ (sym e'))

            pub records_pass : None ≡ first_from (length t.borders) 0 (twice t.borders) → Ok t ≡ judged
            records_pass e =
                let e' = subst (λ (n : ℕ). None ≡ first_from n 0 (twice t.borders)) exact.borders_long e in
                sym (then_next not_twice past-rows ∙ first_none_next _ _ _ _ (sym e'))

-- T positions that are all in range, as summing them asks for
pub allocated_within : (t : Table) → Exact t → None ≡ first_from (length t.allocated) 0 (λ i. not (zone_fits (at_ℤ t.allocated i))) → (length t.allocated ≤ zones_most) × AllWithin net_most t.allocated
allocated_within t exact e = (
  omega (arith, exact.allocated_long, allocated_most t.header, (header_in_lem t.header exact.header).zones_most_lem),
  record { at = λ i l. zone_in _ (not-false _ (first_none _ _ (sym e) i l)) },
)

-- the factors of all rows, as many as the row records ask for
pub exact_factors : (t : Table) → Exact t → length t.factors ≡ length t.rows * t.header.zones
exact_factors t exact = exact.factors_long ∙ ap (λ (n : ℕ). n * t.header.zones) (sym exact.rows_long)

-- ---- header and lengths
said_then : {A B : Type 0} (r : Ruling) (a : A) (b : B) → then (said_judgement r a) (λ _. Ok b) ≡ said_judgement r b
unfolding then
said_then (Ok tt) a b = refl
said_then (Err w) a b = refl

module _ (given : Table) where
  abbrev h : Header
  h = given.header

  pub header_refused : header_fits h ≡ false → Err (out_of_range header_line_no) ≡ judge_shape given
  unfolding judge_shape
  header_refused e = sym (unless_refused _ _ e)

  pub shape_said : header_fits h ≡ true → (r : Ruling) → said_judgement r h ≡ table_room h given (Ok h) → said_judgement r (front given) ≡ judge_shape given
  unfolding judge_shape
  shape_said fits r said = sym (unless_ok _ _ fits ∙ sym (room_of h _ _ _ _ _ h r said (Ok (front given))) ∙ said_then r h (front given))

  -- what passes is the front, as long as its header says
  pub shape_front : (t : Table) → judge_shape given ≡ Ok t → (t ≡ front given) × Exact (front given)
  unfolding judge_shape
  shape_front t e =
      let a = unless_passed t _ _ _ e in
      let n = room_passed h _ _ _ _ _ _ t a.1 in
      let enough = n.0 in (
        sym (passed_is _ _ n.1),
        record {
          header = a.0;
          nets_long = length-take-le _ _ enough.zones;
          allocated_long = length-take-le _ _ enough.allocated;
          borders_long = length-take-le _ _ enough.borders;
          rows_long = length-take-le _ _ enough.rows;
          factors_long = length-take-le _ _ enough.factors;
        },
      )

  -- ---- after header and lengths, room for p and the records of the front
  module _ (r : Ruling) (said : said_judgement r (front given) ≡ judge_shape given) where
    told-shape : (q : Ruling) → r ≡ q → judge_shape given ≡ said_judgement q (front given)
    told-shape q e = sym said ∙ ap (λ (j : Ruling). said_judgement j (front given)) e

    pub lent_refused : (room : Option ℕ) (w : Refusal) → r ≡ Err w → said_judgement r (front given) ≡ judge_for room given
    unfolding judge_for
    lent_refused room w e = said ∙ told-shape (Err w) e ∙ sym (then_refused _ (told-shape (Err w) e))

    module _ (ok : r ≡ (Ok tt)) where
      pub front_exact : Exact (front given)
      front_exact = (shape_front (front given) (told-shape (Ok tt) ok)).1

      module _ (room : Option ℕ) (q : Ruling) (fits : said_judgement q h ≡ room_for_p room h (Ok h)) where
        past-shape : judge_for room given ≡ then (said_judgement q h) (λ _. judge_records (front given))
        unfolding judge_for
        past-shape = then_next _ (told-shape (Ok tt) ok) ∙ sym (p_room_of room h h q fits (judge_records (front given)))

        pub p_refused : (w : Refusal) → q ≡ Err w → said_judgement q (front given) ≡ judge_for room given
        p_refused w e =
            ap (λ (j : Ruling). said_judgement j (front given)) e
            ∙ sym (past-shape ∙ then_refused _ (ap (λ (j : Ruling). said_judgement j h) e))

        pub records_left : q ≡ (Ok tt) → judge_for room given ≡ judge_records (front given)
        records_left e = past-shape ∙ then_next _ (ap (λ (j : Ruling). said_judgement j h) e)
