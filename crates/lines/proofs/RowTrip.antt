-- A row's line, whichever its kind: one that holds a raw row record and its factors is its text, and that text holds them. No contract cites this file.
-- In order: a line's text; what is known of a row that a line holds; what was read of a line; what is written; it is one line.
use mathlib.Core.Path.{◌≡◌, refl, sym, ap, ap₂, subst, ◌∙◌}
use mathlib.Core.Bool.{true, false}
use mathlib.Core.List.{List, [], ◌∷◌, ◌++◌}
use Prim.Native.Nat.{ℕ, suc, ◌+◌, ◌^◌, ◌<◌}
use native.Mathlib.Omega.{arith}
use lib.Dec.{leb→le, eqb}
use lib.IntN.{ℤ, pos, negsuc}
use lib.ListN.{length, take, drop, length-drop, take-append-drop}
use lib.Seq.{length-take-le, take_at, drop_at}
use Rattle.numbers.specs.Below.{table}
use Rattle.numbers.specs.Ints.{minus, inside}
use Rattle.numbers.proofs.BelowLaws.{table_of}
use Rattle.numbers.proofs.IntLaws.{inside_true}
use Rattle.types.specs.LineLimits.{share_most}
use Rattle.types.specs.LineColumns.{Column, row_columns, row_items}
use Rattle.types.specs.Ranges.{at_ℤ, row_of, factor_fits}
use Rattle.types.proofs.RangeLaws.{row_in, factor_in}
use Rattle.text.specs.Fields.{feed}
use Rattle.text.specs.Line.{line_of}
use Rattle.text.proofs.FieldTrip.{ShareKept}
use Rattle.columns.specs.ColumnText.{columns_text, numbers_of}
use Rattle.columns.proofs.ColumnPut.{numbers_are}
use Rattle.columns.proofs.ColumnTrip.{Ends, tab_ends, AllKept, kept_long, kept_append, Small, line_read, line_written, NoFeed, line_one, judged_is}
use Rattle.tablerules.specs.Table.{row_good}
use Rattle.tablerules.proofs.GoodLaws.{row_good_lem}
use Rattle.lines.specs.Lines.{RowLine, row, row_by}
use Rattle.lines.specs.RowKinds.{sep_by, head_by, first_by, factors_by, columns_by, values_by, bad_by, out_by, row_text_by}
use Rattle.lines.specs.SaidRow.{line_by}
use Rattle.lines.specs.declared.row.RowKind.{RowKind}
use Rattle.lines.specs.declared.row.RowKind.TheVariants.{Table, Sheet}
use Rattle.lines.proofs.RowJudge.{by_values}
use Rattle.lines.proofs.RowKindLaws.{columns_many}
use Rattle.std.specs.Prelude.{Ok}

-- ---- a line's text
abbrev fields_by : RowKind → List Column → (i : ℕ) → List ℤ → List ℕ
fields_by kind columns i zs = columns_text (sep_by kind) (head_by kind i) columns zs

abbrev pub text_by : RowKind → (i : ℕ) → RowLine → List ℕ
text_by kind i c = row_text_by kind i c.values c.factors

-- ---- what is known of a row that a line holds
pub record RowHeld (zones : ℕ) (c : RowLine) : Type 0 where
  pub wide : length c.values ≡ row_items
  pub long : length c.factors ≡ zones
  pub good : row_good c.values c.factors ≡ true

-- what is known of a row, whatever its index
abbrev pub RowHeldAt : (zones i : ℕ) → RowLine → Type 0
RowHeldAt zones i c = RowHeld zones c

abbrev pub RowIs : (kind : RowKind) → (zones : ℕ) → (line : List ℕ) → (i : ℕ) → RowLine → Type 0
RowIs kind zones line i c = (line ≡ text_by kind i c) × RowHeld zones c

-- ---- what was read of a line
pub sep_ends : (kind : RowKind) → Ends (sep_by kind)
sep_ends Table = tab_ends
sep_ends Sheet = record { some = omega arith; apart = refl }

pub row_read_lem : (kind : RowKind) (zones : ℕ) (line : List ℕ) (i : ℕ) (c : RowLine) → line_by kind zones line i ≡ Ok c → RowIs kind zones line i c
row_read_lem kind zones line i c e =
    let h = judged_is (λ zs. row_good (take row_items zs) (drop row_items zs)) (λ zs. row (take row_items zs) (drop row_items zs)) (bad_by kind zones line i) (λ zs. out_by kind line (take row_items zs) (drop row_items zs)) c (values_by kind zones line i) (sym (by_values kind zones line i) ∙ e) in
    let zs = h.zs in
    let r = line_read (sep_by kind) (sep_ends kind) (head_by kind i) (columns_by kind zones) line zs h.next h.is in
    let all : length zs ≡ row_items + zones = kept_long (columns_by kind zones) zs r.kept ∙ columns_many kind zones in
    let long : length (drop row_items zs) ≡ zones = length-drop row_items zs ∙ omega arith in
    subst (RowIs kind zones line i) h.made (
      r.here ∙ ap₂ (λ (n : ℕ) (l : List ℤ). fields_by kind (columns_by kind n) i l) (sym long) (sym (take-append-drop row_items zs) ∙ ap (λ (l : List ℤ). l ++ drop row_items zs) (sym (numbers_are row_columns (take row_items zs) (length-take-le row_items zs (omega arith))))),
      record { wide = length-take-le row_items zs (omega arith); long = long; good = h.fit },
    )

-- ---- what is written
-- R in range is one of the values that a column keeps: -1, or a share
pub share_kept : (r : ℤ) → inside (minus 1) (pos share_most) r ≡ true → ShareKept r
share_kept (pos n) e = omega (arith, leb→le n share_most (inside_true (minus 1) (pos share_most) (pos n) e).1.le)
share_kept (negsuc n) e = omega (arith, leb→le n 0 (inside_true (minus 1) (pos share_most) (negsuc n) e).0.le)

factors_kept : (kind : RowKind) (zs : List ℤ) → ((z : ℕ) → z < length zs → factor_fits (at_ℤ zs z) ≡ true) → AllKept (factors_by kind (length zs)) zs
factors_kept Table [] h = tt
factors_kept Sheet [] h = tt
factors_kept Table (y ∷ zs) h = (omega (arith, (factor_in y (h 0 (omega arith))).abs), factors_kept Table zs (λ z l. h (suc z) (omega arith)))
factors_kept Sheet (y ∷ zs) h = (omega (arith, (factor_in y (h 0 (omega arith))).abs), factors_kept Sheet zs (λ z l. h (suc z) (omega arith)))

head_small : (kind : RowKind) (i : ℕ) → i < 10 ^ 10 → Small (head_by kind i)
head_small Table i small = small
head_small Sheet i small = small

module _ (zones : ℕ) (c : RowLine) (held : RowHeld zones c) where
  -- a field of the sheet keeps what the table's keeps
  values-kept : (kind : RowKind) → AllKept (first_by kind) c.values
  unfolding row_of table
  values-kept kind = subst (AllKept (first_by kind)) (sym (table_of row_items at c.values (pos 0) held.wide (λ i h. refl))) (by kind)
    where
      at : ℕ → ℤ
      at = at_ℤ c.values

      all : AllKept row_columns (table row_items at)
      all =
          let k = row_in c.values (row_good_lem c.values c.factors held.good).0 in (
            (k.fmax.is, omega (arith, k.fmax.most)),
            (
              (k.frm.is, omega (arith, k.fmax.most, k.frm.most)),
              (
                omega (arith, k.fref.abs),
                (
                  omega (arith, k.f0all.abs),
                  (share_kept (at 4) k.share, ((k.cva.is, omega (arith, k.cva.most)), ((k.iva.is, omega (arith, k.iva.most)), tt))),
                ),
              ),
            ),
          )

      by : (kind : RowKind) → AllKept (first_by kind) (table row_items at)
      by Table = all
      by Sheet = all

  module _ (kind : RowKind) (i : ℕ) (small : i < 10 ^ 10) where
    by-numbers : line_by kind zones (fields_by kind (columns_by kind (length c.factors)) i (c.values ++ c.factors)) i ≡ Ok c
    by-numbers =
        let n = length c.factors in
        let zs = c.values ++ c.factors in
        let line = fields_by kind (columns_by kind n) i zs in
        let kept = kept_append (first_by kind) (factors_by kind n) c.values c.factors (values-kept kind) (factors_kept kind c.factors (row_good_lem c.values c.factors held.good).1) in
        let v : take row_items zs ≡ c.values = take_at c.values c.factors row_items held.wide in
        let f : drop row_items zs ≡ c.factors = drop_at c.values c.factors row_items held.wide in
        subst (λ (m : ℕ). line_by kind m line i ≡ Ok c) held.long
        (by_values kind n line i ∙ ap (row_by (bad_by kind n line i) (out_by kind line)) (line_written (sep_by kind) (sep_ends kind) (head_by kind i) (columns_by kind n) zs (head_small kind i small) kept).is ∙ rw (v, f, held.good))

    pub row_written : line_by kind zones (text_by kind i c) i ≡ Ok c
    row_written = ap (λ (v : List ℤ). line_by kind zones (fields_by kind (columns_by kind (length c.factors)) i (v ++ c.factors)) i) (numbers_are row_columns c.values held.wide) ∙ by-numbers

-- ---- what is written is one line
pub row_one : (kind : RowKind) (i : ℕ) (c : RowLine) (r : List ℕ) → line_of (text_by kind i c ++ r) ≡ text_by kind i c
row_one kind i c r =
    line_one (sep_by kind) (other kind) (head_by kind i) (columns_by kind (length c.factors)) (numbers_of row_columns c.values ++ c.factors) r (omega (arith, columns_many kind (length c.factors))) (plain kind)
  where
    other : (kind : RowKind) → eqb (sep_by kind) feed ≡ false
    other Table = refl
    other Sheet = refl

    plain : (kind : RowKind) → NoFeed (head_by kind i)
    plain Table = refl
    plain Sheet = tt
