-- How large RAM - S, and RAM less a flow, can get in a judged table. Both are bounded from above only: CVA and IVA lower them, and S is taken off where it is largest.
-- No contract cites this file.
use mathlib.Core.Path.{◌≡◌, ap, subst, sym}
use mathlib.Core.Bool.{true}
use mathlib.Core.List.{[]}
use mathlib.Core.Logic.{◌⊎◌, inl, inr, ⊎_elim}
use Prim.Native.Nat.{ℕ, zero, suc, ◌+◌, ◌*◌, ◌-◌, ◌≤◌, ◌<◌}
use native.Mathlib.Nat.{not-suc-le-zero, suc-mul, mul-le-mul_right, mul-le-mul_left}
use native.Mathlib.Omega.{arith}
use lib.IntN.{ℤ, pos, negsuc, ◌-ℤ◌}
use lib.ListN.{length, get_or}
use lib.Signed.{◌≤ℤ◌}
use Rattle.numbers.specs.Below.{sum}
use Rattle.numbers.specs.Ints.{Within, max_ℤ, positive_part}
use Rattle.numbers.proofs.BelowLaws.{lt_suc_cases}
use Rattle.numbers.proofs.SumLaws.{sum_most}
use Rattle.numbers.proofs.IntLaws.{diff, diffs, zarith, Between, within_le, within_mul, within_sum, within_max, within_pos, max_or}
use Rattle.limits.specs.Limits.{borders_most}
use Rattle.types.specs.LineLimits.{share_most}
use Rattle.types.specs.Ranges.{border_fits, border_of, default_of}
use Rattle.types.proofs.RangeLaws.{row_in, default_in}
use Rattle.tablerules.specs.Table.{Table, row_at, border_at, factors_at}
use Rattle.tablerules.specs.Good.{Good}
use Rattle.marginrules.specs.Margin.{grains, flow_of, base_of, p_of, lta_kw, s_of, s_at, ram_at}
use Rattle.marginrules.specs.Magnitudes.{RowInRange, BorderInRange, p_most, net_flow_most}
use Rattle.marginrules.specs.Small.{f0core_at}
use Rattle.marginrules.proofs.MarginLaws.{share_less, fifth, ram_largest}
use Rattle.marginrules.proofs.MagnitudeLaws.{within_sub, within_share, within_fifth, within_fuaf, within_base, products, load_most, loads}
use Rattle.marginrules.proofs.JudgedLaws.{border_ranges, row_ranges, stretch_long, stretch_ranges, good_factors, good_borders, good_allocated}
use Rattle.marginrules.proofs.Small.{f0core_in}
use Rattle.worst.specs.Worst.{start_top, lta_top, late_top}

-- ---- whole numbers

-- a value that is not above n has no larger positive part
pub part_le : {n : ℕ} (z : ℤ) → z ≤ℤ pos n → positive_part z ≤ n
unfolding positive_part
part_le (pos m) h = omega (arith, simp diffs at h)
part_le (negsuc m) h = omega arith

grains_low : {m n : ℕ} {kw : ℤ} → Between m n kw → pos 0 ≤ℤ grains kw
unfolding grains
grains_low {kw} h = rw h.is (simp diffs (omega zarith))

-- the larger of s and o, less c, i and s
less_s : {m o c i : ℤ} {s n : ℕ} → (m ≡ pos s) ⊎ (m ≡ o) → Within n o → pos 0 ≤ℤ c → pos 0 ≤ℤ i → (m -ℤ c -ℤ i -ℤ pos s) ≤ℤ pos n
less_s {m} {o} {c} {i} (inl e) h p q =
    let e' = simp diffs at (rw (diff m) at e) in
    let p' = simp diffs at (rw (diff c) at p) in
    let q' = simp diffs at (rw (diff i) at q) in
    rw (diff m, diff c, diff i) (simp diffs (omega (zarith, e', p', q')))
less_s {m} {o} {c} {i} (inr e) h p q =
    let e' = simp diffs at (rw (diff m, diff o) at e) in
    let p' = simp diffs at (rw (diff c) at p) in
    let q' = simp diffs at (rw (diff i) at q) in
    rw (diff m, diff c, diff i) (simp diffs (omega (zarith, e', p', q')))

-- a value, less c, i and a flow
less_flow : {m c i f : ℤ} {n k : ℕ} → Within n m → pos 0 ≤ℤ c → pos 0 ≤ℤ i → Within k f → (m -ℤ c -ℤ i -ℤ f) ≤ℤ pos (n + k)
less_flow {m} {c} {i} {f} h p q l =
    let p' = simp diffs at (rw (diff c) at p) in
    let q' = simp diffs at (rw (diff i) at q) in
    rw (diff m, diff c, diff i, diff f) (simp diffs (omega (zarith, p', q')))

-- ---- a sum whose terms are at most q, with one term counted exactly
sum_spare : (k : ℕ) (f : ℕ → ℕ) (q b : ℕ) → b < k → ((j : ℕ) → j < k → f j ≤ q) → sum k f + q ≤ k * q + f b
unfolding sum
sum_spare zero f q b h most = absurd (not-suc-le-zero h)
sum_spare (suc k) f q b h most =
    ⊎_elim
    (λ l. omega (arith, sum_spare k f q b l (λ j u. most j (omega arith)), most k (omega arith), suc-mul k q))
    (λ e. omega (arith, sum_most k f (λ j u. most j (omega arith)), ap f e, suc-mul k q))
    (lt_suc_cases b k h)

-- ---- a row of a judged table
module _ {t : Table} (good : Good t) (i : ℕ) (below : i < t.header.rows) where
  row-in-range : RowInRange (row_at t i)
  row-in-range = row_ranges (get_or t.rows i []) (good.rows_fit i below)

  default-in-range : Within share_most (default_of t.header)
  default-in-range = default_in t.header good.exact.header

  abbrev s : ℕ
  s = s_at t.header t.borders t.factors i

  -- RAM's values except S
  abbrev others : ℤ
  others = max_ℤ (max_ℤ (share_less (default_of t.header) (row_at t i) (f0core_at t i)) (fifth (default_of t.header) (row_at t i) (f0core_at t i))) (base_of (row_at t i) (f0core_at t i))

  others-in : Within start_top others
  others-in =
      let row = row-in-range in
      let f0core = f0core_in good i below in
      within_max
      (within_max (within_sub (within_share row default-in-range) (within_fuaf row f0core)) (within_le (within_fifth row) (omega arith)))
      (within_le (within_base row f0core) (omega arith))

  cva-low : pos 0 ≤ℤ grains (row_at t i).cva
  cva-low = grains_low (row_in (get_or t.rows i []) (good.rows_fit i below)).cva

  iva-low : pos 0 ≤ℤ grains (row_at t i).iva
  iva-low = grains_low (row_in (get_or t.rows i []) (good.rows_fit i below)).iva

  -- RAM - S
  pub day_top : positive_part (ram_at t i -ℤ pos s) ≤ start_top
  unfolding ram_at
  day_top =
      part_le (ram_at t i -ℤ pos s)
      (rw (ram_largest (default_of t.header) (row_at t i) (f0core_at t i) s) (less_s (max_or (pos s) others) others-in cva-low iva-low))

  -- RAM less a flow, by the factor of any border
  module _ (b : ℕ) (hb : b < t.header.borders) where
    abbrev p : ℕ
    p = p_of (factors_at t i) (border_at t b)

    borders_in : (j : ℕ) → j < length t.borders → BorderInRange (length (factors_at t i)) (border_of (get_or t.borders j []))
    borders_in j l =
        border_ranges (length (factors_at t i)) (get_or t.borders j [])
        (subst (λ (n : ℕ). border_fits n (get_or t.borders j []) ≡ true) (sym (stretch_long (good_factors good) i below)) (good.borders_fit j (omega (arith, good.exact.borders_long))))

    s-spare : s ≤ (borders_most - 1) * (p_most * lta_top) + p * lta_top
    unfolding s_of lta_kw
    s-spare =
        let l : b < length t.borders = omega (arith, good.exact.borders_long) in
        let q : ℕ = p_most * lta_top in
        let own : loads (factors_at t i) t.borders b ≤ p * lta_top = mul-le-mul_left p (omega (arith, (borders_in b l).lta_in)) in
        let all = sum_spare (length t.borders) (loads (factors_at t i) t.borders) q b l (λ j h. load_most (stretch_ranges (good_factors good) i below).each (borders_in j h)) in
        omega (arith, all, own, mul-le-mul_right q (good_borders good).few)

    flow-in : Within net_flow_most (flow_of (factors_at t i) t.allocated)
    flow-in =
        let f = good_factors good in
        let n = good_allocated good in
        within_le
        (within_sum (length t.allocated) (products (factors_at t i) t.allocated) (λ z l.
        within_mul ((stretch_ranges f i below).each.at z (omega (arith, stretch_long f i below, n.few))) (n.each.at z l)))
        (omega (arith, n.few, f.few))

    pub late_top_lem : positive_part (ram_at t i -ℤ flow_of (factors_at t i) t.allocated) ≤ late_top + p * lta_top
    unfolding ram_at
    late_top_lem =
        let top : Within ((borders_most - 1) * (p_most * lta_top) + p * lta_top) (max_ℤ (pos s) others) = within_max (within_pos s-spare) (within_le others-in (omega arith)) in
        let h : (ram_at t i -ℤ flow_of (factors_at t i) t.allocated) ≤ℤ pos ((borders_most - 1) * (p_most * lta_top) + p * lta_top + net_flow_most) =
        rw (ram_largest (default_of t.header) (row_at t i) (f0core_at t i) s) (less_flow top cva-low iva-low flow-in) in
        omega (arith, part_le (ram_at t i -ℤ flow_of (factors_at t i) t.allocated) h)
