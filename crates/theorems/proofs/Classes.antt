-- Rows whose factors differ by one and the same number in every zone: the same p, S and flow of positions that sum to zero, so that their margins differ as their RAMs do.
-- No contract cites this file.
use Rattle.std.specs.Prelude.{None, Option, Some}
use mathlib.Core.Path.{◌≡◌, refl, sym, ap, subst, ◌∙◌}
use mathlib.Core.Bool.{Bool, true, false, cond, not, ◌&&◌, false≢true}
use mathlib.Core.List.{List, []}
use Prim.Native.Nat.{ℕ, ◌*◌, ◌≤◌, ◌<◌}
use native.Mathlib.Omega.{arith}
use lib.IntN.{ℤ, pos, ◌+ℤ◌, ◌-ℤ◌, ◌*ℤ◌, *ℤ-zero, +ℤ_idr}
use lib.ListN.{length, get_or}
use lib.Signed.{lt_z, ◌≤ℤ◌}
use Rattle.numbers.specs.Ints.{positive_part, sum_ℤ}
use Rattle.numbers.specs.Below.{some_below}
use Rattle.numbers.proofs.IntLaws.{diff, diffs, zarith, same_true}
use Rattle.numbers.proofs.BelowLaws.{sum_cong, sum_ℤ_cong}
use Rattle.theorems.proofs.SignedSums.{add_mul_ℤ, sum_ℤ_add, sum_ℤ_left}
use Rattle.types.specs.declared.Hubs.{Hubs}
use Rattle.types.specs.declared.Border.{Border}
use Rattle.types.specs.Ranges.{is_intraday, at_ℤ}
use Rattle.types.proofs.RangeLaws.{allocated_most}
use Rattle.tablerules.specs.Table.{Table, balanced, border_at, factors_at}
use Rattle.tablerules.specs.Good.{Good}
use Rattle.marginrules.specs.Margin.{flow_of, by_hubs, signed_factor, p_of, lta_kw, s_of, s_at, ram_at, margin_of}
use Rattle.marginrules.specs.Magnitudes.{HubsWithin, BorderInRange}
use Rattle.marginrules.proofs.JudgedLaws.{border_ranges, good_factors, stretch_long}
use Rattle.staterules.specs.States.{spread_of, spread_least, shifted, below, state_of}
use Rattle.theorems.proofs.ShiftLaws.{shifted_alike}
use Rattle.promises.specs.Demand.{less_sof, remainder_of}
use Rattle.promises.specs.Taking.{zero_or_two}

-- ---- positions that sum to zero, at most one for each zone; the T positions of a judged table are
record Balanced (zones : ℕ) (positions : List ℤ) : Type 0 where
  few : length positions ≤ zones
  none : sum_ℤ (length positions) (at_ℤ positions) ≡ pos 0

table_balanced : {t : Table} → Good t → Balanced t.header.zones t.allocated
unfolding balanced
table_balanced {t} good = record { few = omega (arith, good.exact.allocated_long, allocated_most t.header); none = same_true _ (pos 0) good.in_balance }

-- ---- factors that differ by one number
cross : (a b c d k : ℤ) → a -ℤ c ≡ k → b -ℤ d ≡ k → a -ℤ b ≡ c -ℤ d
cross a b c d k p q =
    let p' = simp diffs at (rw (diff a, diff c, diff k) at p) in
    let q' = simp diffs at (rw (diff b, diff d, diff k) at q) in
    rw (diff a, diff b, diff c, diff d) (simp diffs (omega (zarith, p', q')))

over : (a b k : ℤ) → a -ℤ b ≡ k → a ≡ b +ℤ k
over a b k p =
    let p' = simp diffs at (rw (diff a, diff b, diff k) at p) in
    rw (diff a, diff b, diff k) (simp diffs (omega (zarith, p')))

-- the signed factor of a cable, by its four zones
cross_hubs : (a b c d a' b' c' d' k : ℤ) → a -ℤ a' ≡ k → b -ℤ b' ≡ k → c -ℤ c' ≡ k → d -ℤ d' ≡ k → a -ℤ b +ℤ c -ℤ d ≡ a' -ℤ b' +ℤ c' -ℤ d'
cross_hubs a b c d a' b' c' d' k p q r s =
    let p' = simp diffs at (rw (diff a, diff a', diff k) at p) in
    let q' = simp diffs at (rw (diff b, diff b', diff k) at q) in
    let r' = simp diffs at (rw (diff c, diff c', diff k) at r) in
    let s' = simp diffs at (rw (diff d, diff d', diff k) at s) in
    rw (diff a, diff b, diff c, diff d, diff a', diff b', diff c', diff d') (simp diffs (omega (zarith, p', q', r', s')))

module _ (fs gs : List ℤ) (e : shifted fs gs ≡ true) where
  hubs-same : (from to : ℕ) (hubs : Option Hubs) → from < length fs → to < length fs → HubsWithin (length fs) hubs
      → by_hubs fs hubs (at_ℤ fs from) (at_ℤ fs to) ≡ by_hubs gs hubs (at_ℤ gs from) (at_ℤ gs to)
  hubs-same from to None h k w =
      cross (at_ℤ fs from) (at_ℤ fs to) (at_ℤ gs from) (at_ℤ gs to) (at_ℤ fs 0 -ℤ at_ℤ gs 0) (shifted_alike fs gs e from h) (shifted_alike fs gs e to k)
  hubs-same from to (Some hubs) h k w =
      cross_hubs (at_ℤ fs from) (at_ℤ fs hubs.sending) (at_ℤ fs hubs.receiving) (at_ℤ fs to) (at_ℤ gs from) (at_ℤ gs hubs.sending) (at_ℤ gs hubs.receiving) (at_ℤ gs to) (at_ℤ fs 0 -ℤ at_ℤ gs 0)
      (shifted_alike fs gs e from h) (shifted_alike fs gs e hubs.sending w.0) (shifted_alike fs gs e hubs.receiving w.1) (shifted_alike fs gs e to k)

  p-same : (border : Border) → BorderInRange (length fs) border → p_of fs border ≡ p_of gs border
  unfolding p_of signed_factor
  p-same border u = ap positive_part (hubs-same border.from border.to border.hubs u.from_in u.to_in u.hubs_in)

  -- positions that sum to zero put the same load on two such rows
  flow-same : {allocated : List ℤ} → Balanced (length fs) allocated → flow_of fs allocated ≡ flow_of gs allocated
  flow-same {allocated} a =
      let n = length allocated in
      let c : ℤ = at_ℤ fs 0 -ℤ at_ℤ gs 0 in
      sum_ℤ_cong n (λ z. at_ℤ fs z *ℤ at_ℤ allocated z) (λ z. at_ℤ gs z *ℤ at_ℤ allocated z +ℤ c *ℤ at_ℤ allocated z)
      (λ z h. ap (λ (x : ℤ). x *ℤ at_ℤ allocated z) (over (at_ℤ fs z) (at_ℤ gs z) c (shifted_alike fs gs e z (omega (arith, a.few)))) ∙ add_mul_ℤ (at_ℤ gs z) c (at_ℤ allocated z))
      ∙ sum_ℤ_add n (λ z. at_ℤ gs z *ℤ at_ℤ allocated z) (λ z. c *ℤ at_ℤ allocated z)
      ∙ ap (λ (x : ℤ). flow +ℤ x) (sum_ℤ_left n c (at_ℤ allocated) ∙ ap (λ (x : ℤ). c *ℤ x) a.none ∙ *ℤ-zero c)
      ∙ +ℤ_idr flow
    where
      flow : ℤ
      flow = sum_ℤ (length allocated) (λ z. at_ℤ gs z *ℤ at_ℤ allocated z)

-- ---- rows of one class of a judged table
module _ {t : Table} (good : Good t) (j i : ℕ) (hj : j < t.header.rows) (e : shifted (factors_at t j) (factors_at t i) ≡ true) where
  long : length (factors_at t j) ≡ t.header.zones
  long = stretch_long (good_factors good) j hj

  pub class_p : (b : ℕ) → b < t.header.borders → p_of (factors_at t j) (border_at t b) ≡ p_of (factors_at t i) (border_at t b)
  class_p b h =
      p-same (factors_at t j) (factors_at t i) e (border_at t b)
      (subst (λ (zones : ℕ). BorderInRange zones (border_at t b)) (sym long) (border_ranges t.header.zones (get_or t.borders b []) (good.borders_fit b h)))

  class-s : s_at t.header t.borders t.factors j ≡ s_at t.header t.borders t.factors i
  unfolding s_of
  class-s = sum_cong (length t.borders) _ _ (λ b h. ap (λ (p : ℕ). p * lta_kw (border_at t b)) (class_p b (omega (arith, good.exact.borders_long))))

  class-flow : flow_of (factors_at t j) t.allocated ≡ flow_of (factors_at t i) t.allocated
  class-flow = flow-same (factors_at t j) (factors_at t i) e (subst (λ (zones : ℕ). Balanced zones t.allocated) (sym long) (table_balanced good))

  -- the margins of two rows of a class differ as their RAMs do
  less-le : (x y c d : ℤ) → c ≡ d → x ≤ℤ y → (x -ℤ c) ≤ℤ (y -ℤ d)
  less-le x y c d e h =
      let h' = simp diffs at (rw (diff x, diff y) at h) in
      rw (e) (rw (diff x, diff y, diff d) (simp diffs (omega (zarith, h'))))

  pub class_margin : ram_at t j ≤ℤ ram_at t i → margin_of t j ≤ℤ margin_of t i
  class_margin h = go (is_intraday t.header)
    where
      go : (late : Bool) → cond late (remainder_of t j) (less_sof t j) ≤ℤ cond late (remainder_of t i) (less_sof t i)
      go true = less-le _ _ _ _ class-flow h
      go false = less-le _ _ _ _ (ap pos class-s) h

-- ---- states
module _ (t : Table) (rams : List ℤ) (i : ℕ) where
  abbrev state : ℕ
  state = state_of t.header t.factors rams i

  -- state 0 or 2 is not state 1, whatever the order of the rows
  pub wide_is : zero_or_two state ≡ not (lt_z (spread_of (factors_at t i)) (pos spread_least))
  unfolding state_of
  wide_is = go (lt_z (spread_of (factors_at t i)) (pos spread_least)) (some_below t.header.rows (λ j. below rams j i && shifted (factors_at t j) (factors_at t i)))
    where
      go : (a b : Bool) → zero_or_two (cond a 1 (cond b 2 0)) ≡ not a
      go true b = refl
      go false true = refl
      go false false = refl

  pub not_one : zero_or_two state ≡ true → state ≡ 1 → ⊥
  not_one e q = false≢true (ap zero_or_two (sym q) ∙ e)
