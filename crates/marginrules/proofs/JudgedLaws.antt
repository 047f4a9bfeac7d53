-- What a judged record gives to the functions of this crate: its ranges; and the same of a judged table's parts. No contract cites this file.
use Rattle.std.specs.Prelude.{None, Some}
use mathlib.Core.Path.{◌≡◌, sym, ap, subst, ◌∙◌}
use mathlib.Core.Bool.{Bool, true, false, cond}
use mathlib.Core.List.{List, []}
use Prim.Native.Nat.{ℕ, ◌+◌, ◌*◌, ◌≤◌, ◌<◌}
use native.Mathlib.Nat.{mul-le-mul, suc-mul, le_refl}
use native.Mathlib.Omega.{arith}
use lib.IntN.{ℤ, pos, nat_abs}
use lib.ListN.{length, get_or}
use lib.Signed.{lt_z}
use borrow.Author.Tests.{le-ltb}
use Rattle.numbers.proofs.IntLaws.{within_le, all_part, between_within}
use Rattle.limits.specs.Limits.{borders_most}
use Rattle.types.specs.declared.Header.{Header}
use Rattle.types.specs.declared.Border.{Border}
use Rattle.types.specs.declared.Row.{Row}
use Rattle.types.specs.Ranges.{at_ℤ, hubs_of, border_fits, border_of, row_fits, row_of}
use Rattle.types.proofs.RangeLaws.{header_in_lem, allocated_most, zone_in, HubsIn, none, both, border_in, row_in, share_in, factor_in}
use Rattle.tablerules.specs.Table.{Table, stretch}
use Rattle.tablerules.specs.Good.{Good}
use Rattle.tablerules.proofs.GoodLaws as good
use Rattle.marginrules.specs.Margin.{s_of}
use Rattle.marginrules.specs.Magnitudes.{RowInRange, FactorsInRange, TableFactorsInRange, NetsInRange, HubsWithin, BorderInRange, BordersInRange, s_most}
use Rattle.marginrules.proofs.MagnitudeLaws.{s_most_lem}

-- ---- hubs that fit are zones, where there are any
hubs_within : (zones : ℕ) (sending receiving : ℤ) → HubsIn zones sending receiving → HubsWithin zones (hubs_of sending receiving)
unfolding hubs_of
hubs_within zones sending receiving (none s r) = subst (λ (z : ℤ). HubsWithin zones (cond (lt_z z (pos 0)) None (Some (record { sending = nat_abs z; receiving = nat_abs receiving })))) (sym s) tt
hubs_within zones sending receiving (both s r apart) =
    let low : lt_z sending (pos 0) ≡ false = ap (λ (z : ℤ). lt_z z (pos 0)) s.0 ∙ le-ltb (nat_abs sending) 0 (omega arith) in
    subst (λ (t : Bool). HubsWithin zones (cond t None (Some (record { sending = nat_abs sending; receiving = nat_abs receiving })))) (sym low) (s.1, r.1)

-- ---- a border that fits, and a value that is this border
module _ (zones : ℕ) (raw : List ℤ) (fits : border_fits zones raw ≡ true) where
  pub border_ranges : BorderInRange zones (border_of raw)
  unfolding border_of
  border_ranges =
      let b = border_in zones raw fits in
      record { from_in = b.from_below; to_in = b.to_below; lta_in = b.lta_most_lem; hubs_in = hubs_within zones (at_ℤ raw 3) (at_ℤ raw 4) b.hubs }

  pub border_judged : {border : Border} → border ≡ border_of raw → BorderInRange zones border
  border_judged e = rw e border_ranges

-- ---- a row that fits
module _ (raw : List ℤ) (fits : row_fits raw ≡ true) where
  pub row_ranges : RowInRange (row_of raw)
  unfolding row_of
  row_ranges =
      let r = row_in raw fits in
      record {
        fmax_in = between_within r.fmax;
        frm_in = within_le (between_within r.frm) r.fmax.most;
        fref_in = r.fref;
        f0all_in = r.f0all;
        share_in = λ default d. share_in default d (at_ℤ raw 4) r.share;
        cva_in = between_within r.cva;
        iva_in = between_within r.iva;
      }

  pub row_judged : {row : Row} → row ≡ row_of raw → RowInRange row
  row_judged e = rw e row_ranges

-- ---- a row's stretch of the factors
module _ {h : Header} {f : List ℤ} (bound : TableFactorsInRange h f) (i : ℕ) (below : i < h.rows) where
  pub stretch_ends : i * h.zones + h.zones ≤ length f
  stretch_ends = omega (arith, bound.long, mul-le-mul below (le_refl h.zones), suc-mul i h.zones)

  pub stretch_long : length (stretch h.zones f i) ≡ h.zones
  stretch_long = good.stretch_long h.zones h.rows f bound.long i below

  pub stretch_ranges : FactorsInRange (stretch h.zones f i)
  unfolding stretch
  stretch_ranges =
      record {
        some = omega (arith, stretch_long, bound.some);
        few = omega (arith, stretch_long, bound.few);
        each = all_part f (i * h.zones) h.zones stretch_ends bound.each;
      }

  -- a part of the factors that is this stretch
  pub part_long : {part : List ℤ} → part ≡ stretch h.zones f i → length part ≡ h.zones
  part_long e = ap length e ∙ stretch_long

  pub part_ranges : {part : List ℤ} → part ≡ stretch h.zones f i → FactorsInRange part
  part_ranges e = rw e stretch_ranges

-- ---- S of judged borders
pub s_bound : {factors : List ℤ} {borders : List (List ℤ)} {s : ℕ} → FactorsInRange factors → BordersInRange (length factors) borders → s ≡ s_of factors borders → s ≤ s_most
s_bound {factors} {borders} f b e =
    omega (arith, e, s_most_lem f.each borders (λ k l. border_ranges (length factors) (get_or borders k []) (b.each k l)) borders_most b.few)

-- ---- a judged table
module _ {t : Table} (good : Good t) where
  pub good_factors : TableFactorsInRange t.header t.factors
  good_factors =
      let h = header_in_lem t.header good.exact.header in
      record {
        some = omega (arith, h.zones_least_lem);
        few = h.zones_most_lem;
        long = good.exact.factors_long;
        each = record { at = λ k l. factor_in _ (good.factors_fit k (omega (arith, good.exact.factors_long))) };
      }

  pub good_borders : BordersInRange t.header.zones t.borders
  good_borders =
      let h = header_in_lem t.header good.exact.header in
      record {
        few = omega (arith, good.exact.borders_long, h.borders_most_lem);
        each = λ b l. good.borders_fit b (omega (arith, good.exact.borders_long));
      }

  pub good_nets : NetsInRange t.header.zones t.nets
  good_nets = record { few = omega (arith, good.exact.nets_long); each = record { at = λ z l. zone_in _ (good.nets_fit z (omega (arith, good.exact.nets_long))) } }

  pub good_allocated : NetsInRange t.header.zones t.allocated
  good_allocated =
      record {
        few = omega (arith, good.exact.allocated_long, allocated_most t.header);
        each = record { at = λ z l. zone_in _ (good.allocated_fit z (omega (arith, good.exact.allocated_long))) };
      }
