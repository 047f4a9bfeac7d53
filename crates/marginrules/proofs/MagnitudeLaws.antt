-- How large each value of 01's list ("Margin of a row") can be, in grains, with the limits of the ranges as variables; and steps of its sums.
-- No contract cites this file; `Small.antt` puts 01's numbers for the variables.
use Rattle.std.specs.Prelude.{None, Option, Some}
use mathlib.Core.Path.{◌≡◌, refl, sym, ap, ap₂, ◌∙◌}
use mathlib.Core.List.{List, []}
use mathlib.Core.Logic.{◌⊎◌, inl, inr}
use Prim.Native.Nat.{ℕ, ◌+◌, ◌*◌, ◌≤◌, ◌<◌}
use native.Mathlib.Nat.{mul-le-mul, le_refl}
use native.Mathlib.Numerals.{add-one}
use native.Mathlib.Omega.{arith}
use lib.IntN.{ℤ, pos, negsuc, ◌+ℤ◌, ◌-ℤ◌, ◌*ℤ◌, +ℤ_idr}
use lib.ListN.{length, get_or}
use lib.Signed.{◌≤ℤ◌}
use Rattle.numbers.specs.Ints.{Within, AllWithin, max_ℤ, positive_part, sum_ℤ}
use Rattle.numbers.specs.Below.{sum}
use Rattle.numbers.proofs.SumLaws.{sum_most}
use Rattle.numbers.proofs.IntLaws.{diff, diffs, zarith, within_le, within_pos, within_mul, within_add, within_sum, within_max, max_above_left, max_above_right, max_or}
use Rattle.types.specs.declared.Hubs.{Hubs}
use Rattle.types.specs.declared.Border.{Border}
use Rattle.types.specs.declared.Row.{Row}
use Rattle.types.specs.Ranges.{at_ℤ, border_of, worth}
use Rattle.marginrules.specs.Margin.{grains, flow_of, f0core_of, fuaf_of, base_of, amr_of, by_hubs, signed_factor, p_of, lta_kw, s_of, lta_margin_of, ram_of}
use Rattle.marginrules.specs.Magnitudes.{RowWithin, HubsWithin, BorderWithin}
use Rattle.marginrules.proofs.MarginLaws.{share_less, fifth, base_amr, lta_is, ram_largest}

-- ---- a value that is another, sums and differences
pub within_is : {m : ℕ} {x y : ℤ} → x ≡ y → Within m y → Within m x
within_is e h = rw e h

pub within_sub : {m n : ℕ} {x y : ℤ} → Within m x → Within n y → Within (m + n) (x -ℤ y)
within_sub {x} {y} h k = rw (diff x, diff y) (simp diffs (omega zarith))

-- ---- kW in grains
pub within_grains : {m : ℕ} {kw : ℤ} → Within m kw → Within (m * 100000) (grains kw)
unfolding grains
within_grains h = within_mul h (within_pos (le_refl 100000))

-- ---- a value less a flow of net positions, as in F0core: up to any zone, and whole
abbrev pub products : (factors nets : List ℤ) → (z : ℕ) → ℤ
products factors nets z = at_ℤ factors z *ℤ at_ℤ nets z

pub flow_upto : {m factor net : ℕ} {g : ℤ} → Within m g → (factors nets : List ℤ) → length nets ≤ length factors → AllWithin factor factors → AllWithin net nets
    → (k : ℕ) → k ≤ length nets → Within (m + k * (factor * net)) (g -ℤ sum_ℤ k (products factors nets))
flow_upto h factors nets long f n k few =
    within_sub h (within_sum k (products factors nets) (λ z l. within_mul (f.at z (omega arith)) (n.at z (omega arith))))

pub within_flow : {m factor net : ℕ} {g : ℤ} → Within m g → (factors nets : List ℤ) → length nets ≤ length factors → AllWithin factor factors → AllWithin net nets
    → (zones : ℕ) → length nets ≤ zones → Within (m + zones * (factor * net)) (g -ℤ flow_of factors nets)
within_flow {factor} {net} h factors nets long f n zones few =
    within_le (flow_upto h factors nets long f n (length nets) (le_refl (length nets))) (omega (arith, mul-le-mul few (le_refl (factor * net))))

pub within_f0core : {flow factor net : ℕ} (row : Row) → Within flow row.fref → (factors nets : List ℤ) → length nets ≤ length factors → AllWithin factor factors → AllWithin net nets
    → (zones : ℕ) → length nets ≤ zones → Within (flow * 100000 + zones * (factor * net)) (f0core_of row factors nets)
unfolding f0core_of
within_f0core row h factors nets long f n zones few = within_flow (within_grains h) factors nets long f n zones few

-- a value g less a flow, summed zone by zone
module _ (g : ℤ) (factors nets : List ℤ) where
  pub flow_none : g ≡ g -ℤ sum_ℤ 0 (products factors nets)
  unfolding sum_ℤ
  flow_none = sym (+ℤ_idr g)

  less-more : (x p : ℤ) → g -ℤ x -ℤ p ≡ g -ℤ (x +ℤ p)
  less-more x p = rw (diff g, diff x, diff p) (simp diffs (omega zarith))

  pub flow_more : {left : ℤ} (z : ℕ) → left ≡ g -ℤ sum_ℤ z (products factors nets) → left -ℤ products factors nets z ≡ g -ℤ sum_ℤ (z + 1) (products factors nets)
  unfolding sum_ℤ
  flow_more z e = rw (add-one z) (ap (λ (x : ℤ). x -ℤ products factors nets z) e ∙ less-more (sum_ℤ z (products factors nets)) (products factors nets z))

pub flow_all : (g : ℤ) (factors nets : List ℤ) (z : ℕ) → z ≡ length nets → g -ℤ sum_ℤ z (products factors nets) ≡ g -ℤ flow_of factors nets
flow_all g factors nets z l = ap (λ (k : ℕ). g -ℤ sum_ℤ k (products factors nets)) l

-- ---- R x Fmax / 10000, and Fmax / 5
module _ {fmax flow share va : ℕ} {row : Row} (within : RowWithin fmax flow share va row) where
  pub within_share : {default : ℤ} → Within share default → Within (share * fmax * 10) (worth default row.share *ℤ row.fmax *ℤ pos 10)
  within_share d = within_mul (within_mul (within.share_in _ d) within.fmax_in) (within_pos (le_refl 10))

  pub within_fifth : Within (fmax * 20000) (row.fmax *ℤ pos 20000)
  within_fifth = within_mul within.fmax_in (within_pos (le_refl 20000))

-- ---- the values that F0core gives; it is at most m
module _ {fmax flow share va m : ℕ} {row : Row} (within : RowWithin fmax flow share va row) {f0core : ℤ} (h : Within m f0core) where
  pub within_fuaf : Within (m + flow * 100000) (fuaf_of row f0core)
  unfolding fuaf_of
  within_fuaf = within_sub h (within_grains within.f0all_in)

  pub within_base : Within (fmax * 100000 + fmax * 100000 + m) (base_of row f0core)
  unfolding base_of
  within_base = within_sub (within_sub (within_grains within.fmax_in) (within_grains within.frm_in)) h

  -- F0core cancels in the first of AMR's values
  out : (p f0all fmax frm f : ℤ) → p -ℤ (f -ℤ f0all) -ℤ (fmax -ℤ frm -ℤ f) ≡ p +ℤ f0all -ℤ (fmax -ℤ frm)
  out p f0all fmax frm f = rw (diff p, diff f0all, diff fmax, diff frm, diff f) (simp diffs (omega zarith))

  amr-first : {default : ℤ} → Within share default
      → Within (share * fmax * 10 + flow * 100000 + (fmax * 100000 + fmax * 100000)) (worth default row.share *ℤ row.fmax *ℤ pos 10 -ℤ fuaf_of row f0core -ℤ base_of row f0core)
  unfolding fuaf_of base_of
  amr-first {default} d =
      rw (out (worth default row.share *ℤ row.fmax *ℤ pos 10) (grains row.f0all) (grains row.fmax) (grains row.frm) f0core)
      (within_sub (within_add (within_share within d) (within_grains within.f0all_in)) (within_sub (within_grains within.fmax_in) (within_grains within.frm_in)))

  pub within_amr : {default : ℤ} → Within share default → Within (share * fmax * 10 + flow * 100000 + fmax * 420000 + m) (amr_of default row f0core)
  unfolding amr_of
  within_amr d =
      within_max
      (within_max (within_le (amr-first d) (omega arith)) (within_le (within_sub (within_fifth within) within_base) (omega arith)))
      (within_pos (omega arith))

-- ---- a signed factor, without hubs and by hubs
module _ (factors : List ℤ) (border : Border) where
  pub signed_without : border.hubs ≡ None → at_ℤ factors border.from -ℤ at_ℤ factors border.to ≡ signed_factor factors border
  unfolding signed_factor
  signed_without e = rw e

  pub signed_between : (hubs : Hubs) → border.hubs ≡ Some hubs
      → at_ℤ factors border.from -ℤ at_ℤ factors hubs.sending +ℤ at_ℤ factors hubs.receiving -ℤ at_ℤ factors border.to ≡ signed_factor factors border
  unfolding signed_factor
  signed_between hubs e = rw e

-- ---- S: a border factor, a border's part, the sum
part_le : {m : ℕ} (z : ℤ) → Within m z → positive_part z ≤ m
unfolding positive_part
part_le (pos n) h = h.abs
part_le (negsuc n) h = omega arith

module _ {factor lta : ℕ} {factors : List ℤ} (each : AllWithin factor factors) where
  -- a signed factor is of two factors, of a cable by hubs of four
  pub signed_within : {border : Border} → BorderWithin lta (length factors) border → Within (4 * factor) (signed_factor factors border)
  unfolding signed_factor
  signed_within {border} h = go border.hubs h.hubs_in
    where
      go : (hubs : Option Hubs) → HubsWithin (length factors) hubs → Within (4 * factor) (by_hubs factors hubs (at_ℤ factors border.from) (at_ℤ factors border.to))
      go None k = within_le (within_sub (each.at border.from h.from_in) (each.at border.to h.to_in)) (omega arith)
      go (Some hubs) k =
          within_le
          (within_sub (within_add (within_sub (each.at border.from h.from_in) (each.at hubs.sending k.0)) (each.at hubs.receiving k.1)) (each.at border.to h.to_in))
          (omega arith)

  pub p_most_lem : {border : Border} → BorderWithin lta (length factors) border → p_of factors border ≤ 4 * factor
  unfolding p_of
  p_most_lem {border} h = part_le (signed_factor factors border) (signed_within h)

  pub load_most : {border : Border} → BorderWithin lta (length factors) border → p_of factors border * lta_kw border ≤ 4 * factor * (lta * 1000)
  unfolding lta_kw
  load_most h = mul-le-mul (p_most_lem h) (omega (arith, h.lta_in))

abbrev pub loads : (factors : List ℤ) → (borders : List (List ℤ)) → (b : ℕ) → ℕ
loads factors borders b = p_of factors (border_of (get_or borders b [])) * lta_kw (border_of (get_or borders b []))

-- the sum over borders, border by border
module _ (factors : List ℤ) (borders : List (List ℤ)) where
  pub s_none : 0 ≡ sum 0 (loads factors borders)
  unfolding sum
  s_none = refl

  pub s_more : {s load : ℕ} (b : ℕ) → s ≡ sum b (loads factors borders) → load ≡ loads factors borders b → s + load ≡ sum (b + 1) (loads factors borders)
  unfolding sum
  s_more b e l = rw (add-one b) (ap₂ ◌+◌ e l)

  pub s_all : (b : ℕ) → b ≡ length borders → sum b (loads factors borders) ≡ s_of factors borders
  unfolding s_of
  s_all b e = ap (λ (k : ℕ). sum k (loads factors borders)) e

-- the most that the sum can be, up to any border, and whole
module _ {factor lta : ℕ} {factors : List ℤ} (each : AllWithin factor factors) (borders : List (List ℤ))
    (within : (b : ℕ) → b < length borders → BorderWithin lta (length factors) (border_of (get_or borders b []))) where
  pub s_upto : (k : ℕ) → k ≤ length borders → sum k (loads factors borders) ≤ k * (4 * factor * (lta * 1000))
  s_upto k h = sum_most k (loads factors borders) (λ b l. load_most each (within b (omega arith)))

  pub s_most_lem : (n : ℕ) → length borders ≤ n → s_of factors borders ≤ n * (4 * factor * (lta * 1000))
  unfolding s_of
  s_most_lem n h = omega (arith, s_upto (length borders) (le_refl (length borders)), mul-le-mul h (le_refl (4 * factor * (lta * 1000))))

-- ---- LTA margin, by the sum in which 01 gives it
pub within_lta_margin : {fmax flow share va m a n s : ℕ} {row : Row} {f0core amr : ℤ} → RowWithin fmax flow share va row → Within m f0core → Within a amr → s ≤ n
    → Within (m + n + fmax * 100000 + a + fmax * 100000) (lta_margin_of row f0core amr s)
unfolding lta_margin_of
within_lta_margin within f g h =
    within_max
    (within_sub (within_sub (within_add (within_add f (within_pos h)) (within_grains within.frm_in)) g) (within_grains within.fmax_in))
    (within_pos (omega arith))

-- ---- LTA margin, RAM and RAM - S, with RAM as a largest value (`ram-largest`)
over_fifth : {x : ℤ} → pos 0 ≤ℤ x → pos 0 ≤ℤ (x *ℤ pos 20000)
over_fifth {x} h =
    let h' = simp diffs at (rw (diff x) at h) in
    rw (diff x) (simp diffs (omega (zarith, h')))

le_trans : {x y z : ℤ} → x ≤ℤ y → y ≤ℤ z → x ≤ℤ z
le_trans {x} {y} {z} h k =
    let h' = simp diffs at (rw (diff x, diff y) at h) in
    let k' = simp diffs at (rw (diff y, diff z) at k) in
    rw (diff x, diff z) (simp diffs (omega (zarith, h', k')))

-- what lifts g to the larger of s and g, where g is not below 0
lift : {g l m : ℤ} {s : ℕ} → g +ℤ l ≡ m → pos 0 ≤ℤ g → g ≤ℤ m → (m ≡ pos s) ⊎ (m ≡ g) → Within s l
lift {g} {l} {m} e h k (inl q) =
    let e' = simp diffs at (rw (diff g, diff l, diff m) at e) in
    let h' = simp diffs at (rw (diff g) at h) in
    let k' = simp diffs at (rw (diff g, diff m) at k) in
    let q' = simp diffs at (rw (diff m) at q) in
    rw (diff l) (simp diffs (omega (zarith, e', h', k', q')))
lift {g} {l} {m} e h k (inr q) =
    let e' = simp diffs at (rw (diff g, diff l, diff m) at e) in
    let q' = simp diffs at (rw (diff m, diff g) at q) in
    rw (diff l) (simp diffs (omega (zarith, e', q')))

-- what a largest value has over one of its values that is not below 0
over : {m : ℤ} {top s : ℕ} → Within top m → pos s ≤ℤ m → Within top (m -ℤ pos s)
over {m} h k =
    let k' = simp diffs at (rw (diff m) at k) in
    rw (diff m) (simp diffs (omega (zarith, k')))

later : (m c i s : ℤ) → m -ℤ c -ℤ i -ℤ s ≡ m -ℤ s -ℤ c -ℤ i
later m c i s = rw (diff m, diff c, diff i, diff s) (simp diffs (omega zarith))

module _ {fmax flow share va m : ℕ} {default : ℤ} (d : Within share default) {row : Row} (within : RowWithin fmax flow share va row) {f0core : ℤ} (h : Within m f0core) where
  pub lta_margin_most : pos 0 ≤ℤ row.fmax → (s : ℕ) → Within s (lta_margin_of row f0core (amr_of default row f0core) s)
  lta_margin_most low s =
      let g = base_of row f0core +ℤ amr_of default row f0core in
      let g-low : pos 0 ≤ℤ g =
      rw (base_amr default row f0core)
      (le_trans (over_fifth low) (le_trans (max_above_right (share_less default row f0core) (fifth default row f0core)) (max_above_left (max_ℤ (share_less default row f0core) (fifth default row f0core)) (base_of row f0core)))) in
      lift (lta_is default row f0core s) g-low (max_above_right (pos s) g) (max_or (pos s) g)

  -- `top` is over each of the four values
  module _ (top s : ℕ) (over-s : s ≤ top) (over-share : share * fmax * 10 + (m + flow * 100000) ≤ top) (over-fmax : fmax * 20000 ≤ top) (over-base : fmax * 100000 + fmax * 100000 + m ≤ top) where
    abbrev largest : ℤ
    largest = max_ℤ (pos s) (max_ℤ (max_ℤ (share_less default row f0core) (fifth default row f0core)) (base_of row f0core))

    largest-in : Within top largest
    largest-in =
        within_max (within_pos over-s)
        (within_max (within_max (within_le (within_sub (within_share within d) (within_fuaf within h)) over-share) (within_le (within_fifth within) over-fmax)) (within_le (within_base within h) over-base))

    pub within_ram : Within (top + va * 100000 + va * 100000) (ram_of default row f0core s)
    within_ram = within_is (ram_largest default row f0core s) (within_sub (within_sub largest-in (within_grains within.cva_in)) (within_grains within.iva_in))

    pub within_start : Within (top + va * 100000 + va * 100000) (ram_of default row f0core s -ℤ pos s)
    within_start =
        within_is (ap (λ (z : ℤ). z -ℤ pos s) (ram_largest default row f0core s) ∙ later largest (grains row.cva) (grains row.iva) (pos s))
        (within_sub (within_sub (over largest-in (max_above_left (pos s) _)) (within_grains within.cva_in)) (within_grains within.iva_in))
