-- A judged table with its rows in another order is judged good too, and every order of its rows is some table's (promises: specs/Order). No contract cites this file.
use mathlib.Core.Path.{◌≡◌, refl, sym, ap, ap₂, subst, ◌∙◌}
use mathlib.Core.Bool.{true}
use mathlib.Core.List.{List, []}
use Prim.Native.Nat.{ℕ, ◌+◌, ◌*◌, ◌/◌, ◌%◌, ◌<◌}
use native.Mathlib.Nat.{add-zero, div-eq_of_lt, mod-eq_of_lt, mul-add-div_right, mul-add-mod_self_right}
use native.Mathlib.Omega.{arith}
use lib.IntN.{ℤ, pos}
use lib.ListN.{length, get_or}
use lib.Seq.{ext_get_or}
use Rattle.numbers.specs.Below.{table}
use Rattle.numbers.proofs.BelowLaws.{table_long, table_get}
use Rattle.types.specs.declared.Header.{Header}
use Rattle.types.specs.Ranges.{at_ℤ, header_fits, allocated_items, zone_fits, row_fits, factor_fits}
use Rattle.types.proofs.RangeLaws.{header_in_lem}
use Rattle.tablerules.specs.Table.{Table, balanced, stretch, factors_at, twice}
use Rattle.tablerules.specs.Good.{Good}
use Rattle.tablerules.proofs.GoodLaws.{stretch_long, stretch_at, flat_fit, row_fit}
use Rattle.tablerules.proofs.StretchLaws.{stretch_end}
use Rattle.promises.specs.Order.{Reordered, reorder}

module _ {t t' : Table} (o : Reordered t t') (good : Good t) where
  rows_are : t'.header.rows ≡ t.header.rows
  rows_are = ap (λ h. h.rows) o.header

  zones-are : t'.header.zones ≡ t.header.zones
  zones-are = ap (λ h. h.zones) o.header

  borders_are : t'.header.borders ≡ t.header.borders
  borders_are = ap (λ h. h.borders) o.header

  some-zones : 0 < t.header.zones
  some-zones = omega (arith, (header_in_lem t.header good.exact.header).zones_least_lem)

  factors_long : length t'.factors ≡ t'.header.rows * t'.header.zones
  factors_long = o.factors_long ∙ good.exact.factors_long ∙ ap (λ (h : Header). h.rows * h.zones) (sym o.header)

  factor-fits : (i : ℕ) → i < t'.header.rows → (z : ℕ) → z < length (factors_at t' i) → factor_fits (at_ℤ (factors_at t' i) z) ≡ true
  factor-fits i h z l =
      let hi : i < t.header.rows = omega (arith, rows_are) in
      subst (λ (fs : List ℤ). factor_fits (at_ℤ fs z) ≡ true) (sym (o.factors i hi))
      (row_fit t.header.zones t.header.rows t.factors good.exact.factors_long some-zones good.factors_fit (o.row i) (o.row_below i hi) z
      (omega (arith, zones-are, stretch_long t'.header.zones t'.header.rows t'.factors factors_long i h)))

  pub moved_good : Good t'
  moved_good =
      record {
        exact =
            record {
              header = ap header_fits o.header ∙ good.exact.header;
              nets_long = ap length o.nets ∙ good.exact.nets_long ∙ sym zones-are;
              allocated_long = ap length o.allocated ∙ good.exact.allocated_long ∙ ap allocated_items (sym o.header);
              borders_long = ap length o.borders ∙ good.exact.borders_long ∙ sym borders_are;
              rows_long = o.rows_long ∙ good.exact.rows_long ∙ sym rows_are;
              factors_long = factors_long;
            };
        nets_fit = λ i h. ap (λ (zs : List ℤ). zone_fits (at_ℤ zs i)) o.nets ∙ good.nets_fit i (omega (arith, zones-are));
        allocated_fit = λ i h. ap (λ (zs : List ℤ). zone_fits (at_ℤ zs i)) o.allocated ∙ good.allocated_fit i (subst (λ (g : Header). i < allocated_items g) o.header h);
        in_balance = ap balanced o.allocated ∙ good.in_balance;
        borders_fit = λ b h. (rw (zones-are, o.borders) (good.borders_fit b (omega (arith, borders_are))));
        rows_fit = λ i h.
            let hi : i < t.header.rows = omega (arith, rows_are) in
            ap row_fits (o.records i hi) ∙ good.rows_fit (o.row i) (o.row_below i hi);
        factors_fit = flat_fit t'.header.zones t'.header.rows t'.factors factors_long (omega (arith, some-zones, zones-are)) factor-fits;
        once = λ b h. ap (λ (bs : List (List ℤ)). twice bs b) o.borders ∙ good.once b (omega (arith, borders_are));
      }

-- ---- every order is some table's
module _ {t : Table} (good : Good t) (row place : ℕ → ℕ)
    (row_below : (i : ℕ) → i < t.header.rows → row i < t.header.rows)
    (place_below : (i : ℕ) → i < t.header.rows → place i < t.header.rows)
    (there : (i : ℕ) → i < t.header.rows → row (place i) ≡ i) where
  abbrev rows : ℕ
  rows = t.header.rows

  abbrev zones : ℕ
  zones = t.header.zones

  abbrev cell : (k : ℕ) → ℤ
  cell k = at_ℤ t.factors (row (k / zones) * zones + k % zones)

  cell_at : (i z : ℕ) → z < zones → cell (i * zones + z) ≡ at_ℤ t.factors (row i * zones + z)
  cell_at i z h =
      let n : 0 < zones = omega arith in
      ap₂ (λ (q m : ℕ). at_ℤ t.factors (row q * zones + m))
      (mul-add-div_right n i z ∙ ap (λ (q : ℕ). i + q) (div-eq_of_lt h) ∙ add-zero i)
      (mul-add-mod_self_right i zones z ∙ mod-eq_of_lt h)

  moved-factors : (i : ℕ) → i < rows → stretch zones (table (rows * zones) cell) i ≡ stretch zones t.factors (row i)
  moved-factors i h =
      let long = stretch_long zones rows (table (rows * zones) cell) (table_long (rows * zones) cell) i h in
      ext_get_or (pos 0) _ _ (long ∙ sym (stretch_long zones rows t.factors good.exact.factors_long (row i) (row_below i h)))
      (λ z l.
      let hz : z < zones = omega (arith, long) in
      stretch_at zones (table (rows * zones) cell) i z hz
      ∙ table_get (rows * zones) cell (i * zones + z) (pos 0) (omega (arith, stretch_end zones rows i h))
      ∙ cell_at i z hz
      ∙ sym (stretch_at zones t.factors (row i) z hz))

  pub reordered : Reordered t (reorder row t)
  unfolding reorder
  reordered =
      record {
        header = refl;
        nets = refl;
        allocated = refl;
        borders = refl;
        rows_long = table_long rows _ ∙ sym good.exact.rows_long;
        factors_long = table_long (rows * zones) _ ∙ sym good.exact.factors_long;
        row = row;
        place = place;
        row_below = row_below;
        place_below = place_below;
        there = there;
        records = λ i h. table_get rows (λ i. get_or t.rows (row i) []) i [] h;
        factors = moved-factors;
      }
