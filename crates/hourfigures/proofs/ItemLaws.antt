-- The laws of an hour's items: how a loop stores them, and how large a way's parts are. No contract cites this file.
use Rattle.std.specs.Prelude.{Option, Some}
use mathlib.Core.Path.{◌≡◌, refl, sym, ap, subst, ◌∙◌}
use mathlib.Core.Bool.{true}
use mathlib.Core.List.{List, []}
use Prim.Native.Nat.{ℕ, ◌+◌, ◌≤◌, ◌<◌}
use native.Mathlib.Numerals.{add-one}
use native.Mathlib.Omega.{arith}
use lib.IntN.{ℤ, nat_abs}
use lib.ListN.{length, get_or, set, length-set}
use lib.Seq.{paste, paste-zero, paste-suc}
use Rattle.limits.specs.Limits.{zones_most}
use Rattle.numbers.specs.Below.{at}
use Rattle.numbers.proofs.BelowLaws.{table_long, table_get}
use Rattle.types.specs.declared.Hubs.{Hubs}
use Rattle.types.specs.declared.Border.{Border}
use Rattle.types.specs.Ranges.{at_ℤ, border_fits, border_of}
use Rattle.marginrules.specs.Magnitudes.{HubsWithin}
use Rattle.marginrules.proofs.JudgedLaws.{border_judged}
use Rattle.daysheet.specs.Sheet.{way_of}
use Rattle.hourfigures.specs.Items.{sending_of, receiving_of, border_way, ways_of, atcs_of, pasted}

-- ---- items that a loop stores one after another: the first i are stored
pub record Storing (place : ℕ) (items old out : List ℕ) (i : ℕ) : Type 0 where
  pub high : i ≤ length items
  pub so_far : out ≡ paste old place items i
  pub as_long : length out ≡ length old

pub storing_none : (place : ℕ) (items old : List ℕ) → Storing place items old old 0
storing_none place items old = record { high = omega arith; so_far = paste-zero old place items; as_long = refl }

module _ {place : ℕ} {items old out : List ℕ} {i : ℕ} (u : Storing place items old out i) where
  pub storing_more : (v : ℕ) → place + length items ≤ length old → i < length items → v ≡ at items i → Storing place items old (set out (place + i) v) (i + 1)
  storing_more v room h e = record {
    high = omega arith;
    so_far = rw (add-one i, e, u.so_far) (paste-suc old place items i 0 (omega arith) h);
    as_long = simp length-set u.as_long;
  }

  pub storing_all : length items ≤ i → out ≡ pasted place items old
  storing_all h =
      let e : i ≡ length items = omega (arith, u.high) in
      u.so_far ∙ ap (λ (n : ℕ). paste old place items n) e

-- ---- the items of borders, and of their records
module _ (borders : List (List ℤ)) where
  pub ways_long : length (ways_of borders) ≡ length borders
  unfolding ways_of
  ways_long = table_long (length borders) _

  pub way_at : (b : ℕ) → b < length borders → at (ways_of borders) b ≡ border_way (border_of (get_or borders b []))
  unfolding ways_of
  way_at b h = table_get (length borders) _ b 0 h

module _ (records : List (List ℤ)) where
  pub atcs_long : length (atcs_of records) ≡ length records
  unfolding atcs_of
  atcs_long = table_long (length records) _

  pub atc_at_lem : (b : ℕ) → b < length records → at (atcs_of records) b ≡ nat_abs (at_ℤ (get_or records b []) 0)
  unfolding atcs_of
  atc_at_lem b h = table_get (length records) _ b 0 h

-- ---- where a border goes, of a raw border that was judged
module _ (zones : ℕ) (raw : List ℤ) (few : zones ≤ zones_most) (fits : border_fits zones raw ≡ true) {border : Border} (is : border ≡ border_of raw) where
  pub ends_few : (border.from ≤ zones_most) × (border.to ≤ zones_most)
  ends_few =
      let r = border_judged zones raw fits is in
      (omega (arith, r.from_in), omega (arith, r.to_in))

  pub hubs_few : {hubs : Hubs} → border.hubs ≡ Some hubs → (hubs.sending + 1 ≤ zones_most) × (hubs.receiving + 1 ≤ zones_most)
  hubs_few {hubs} e =
      let h : (hubs.sending < zones) × (hubs.receiving < zones) = subst (HubsWithin zones) e (border_judged zones raw fits is).hubs_in in
      (omega (arith, h.0), omega (arith, h.1))

  pub way_by : {hubs : Option Hubs} → border.hubs ≡ hubs → {v : ℕ} → v ≡ way_of border.from border.to (sending_of hubs) (receiving_of hubs) → v ≡ border_way (border_of raw)
  unfolding border_way
  way_by e q = q ∙ ap (λ (h : Option Hubs). way_of border.from border.to (sending_of h) (receiving_of h)) (sym e) ∙ ap (λ (b : Border). border_way b) is
