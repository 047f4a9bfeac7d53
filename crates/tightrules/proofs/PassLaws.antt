-- What the loops of src/pass.rt need: the largest so far, and the smallest that a walk over the rows has left; and what `measure` puts together. No contract cites this file.
use mathlib.Core.Path.{◌≡◌, refl, sym, ap, ap₂, ◌∙◌}
use mathlib.Core.List.{List}
use mathlib.Core.Logic.{⊎_elim}
use Prim.Native.Nat.{ℕ, zero, suc, ◌+◌, ◌*◌, ◌-◌, ◌/◌, ◌^◌, ◌≤◌, ◌<◌, max, min}
use native.Mathlib.Nat.{not-suc-le-zero, le_antisymm, le_refl, le_trans, le-max_left, max-le, mul-le-mul_right, le-div_iff_mul-le}
use native.Mathlib.Numerals.{add-one}
use native.Mathlib.Omega.{arith, min_cases}
use lib.ListN.{length}
use Rattle.numbers.specs.Below.{at, if_zero, largest, least, or_zero, table}
use Rattle.numbers.proofs.BelowLaws.{lt_suc_cases, le_or_lt, table_get, table_long, largest_le, largest_under}
use Rattle.limits.specs.Limits.{borders_most}
use Rattle.rounds.specs.Rounds.{Grid, sharers, alone, most_sharers, bits, alone_bits}
use Rattle.rounds.proofs.LeastLaws.{least_le, least_some}
use Rattle.rounds.proofs.Round.{alone_le}
use Rattle.caps.specs.Tight.{tight}
use Rattle.walk.specs.Walk.{First}
use Rattle.caps.proofs.TightLaws.{tight_le, tight_share, tight_over, tight_same, tight_less}
use Rattle.tightrules.specs.declared.Kws.{Kws}
use Rattle.tightrules.specs.declared.RoundsMost.{RoundsMost}
use Rattle.tightrules.specs.Tight.{steps, row_reach, reach, farthest, tight_bound}
use Rattle.tightrules.specs.Measure.{bound_by}
use Rattle.tightrules.specs.Pass.{Small, Highest, Higher, Lowered}
use Rattle.tightrules.proofs.BitsLaws.{sharers_few}
use Rattle.tightrules.proofs.SharperLaws.{reach_alone}

-- ---- the largest of the first i, of n
pub record UpTo (f : ℕ → ℕ) (n i v : ℕ) : Type 0 where
  pub high : i ≤ n
  pub is : v ≡ largest i f

pub up_to_none : (f : ℕ → ℕ) (n : ℕ) → UpTo f n 0 0
unfolding largest
up_to_none f n = record { high = omega arith; is = refl }

module _ {f : ℕ → ℕ} {n i v : ℕ} (u : UpTo f n i v) where
  pub up_to_more : (w v' : ℕ) → i < n → w ≡ f i → v' ≡ max v w → UpTo f n (i + 1) v'
  unfolding largest
  up_to_more w v' h e d = record { high = omega arith; is = rw (add-one i) (d ∙ ap₂ max u.is e) }

  pub up_to_all : n ≤ i → v ≡ largest n f
  up_to_all h = let e : i ≡ n = omega (arith, u.high) in u.is ∙ ap (λ (k : ℕ). largest k f) e

pub largest_cong : (k : ℕ) (f g : ℕ → ℕ) → ((i : ℕ) → i < k → f i ≡ g i) → largest k f ≡ largest k g
largest_cong k f g e =
    le_antisymm
    (largest_under k f (largest k g) (λ i h. omega (arith, e i h, largest_le k g i h)))
    (largest_under k g (largest k f) (λ i h. omega (arith, e i h, largest_le k f i h)))

-- the largest so far of both values of a border
pub record Both (g : Grid) (m : List ℕ) (b : ℕ) (r : Kws) : Type 0 where
  pub alone : UpTo (alone g m) g.borders b r.alone
  pub reach : UpTo (reach g m) g.borders b r.reach

pub both_none : (g : Grid) (m : List ℕ) → Both g m 0 (record { alone = 0; reach = 0 })
both_none g m = record { alone = up_to_none (alone g m) g.borders; reach = up_to_none (reach g m) g.borders }

module _ {g : Grid} {m : List ℕ} {b : ℕ} {r : Kws} (u : Both g m b r) where
  pub both_more : {r' : Kws} → b < g.borders → Higher g m b r r' → Both g m (b + 1) r'
  both_more h q = record { alone = up_to_more u.alone _ _ h refl q.alone; reach = up_to_more u.reach _ _ h refl q.reach }

  pub both_all : g.borders ≤ b → Highest g m g.borders r
  both_all h = record { alone = up_to_all u.alone h; reach = up_to_all u.reach h }

-- ---- one row

-- a row does not lower the values where it has room for more than either
pub lowered_same : {f n most margin : ℕ} {low : Kws} → n ≤ most → low.reach ≤ low.alone → low.alone + most ≡ tight f margin (low.alone + most) → Lowered f n margin low low
lowered_same {f} {n} {most} {margin} {low} h l e =
    let fits : (low.alone + most) * f ≤ margin = rw e (tight_share f margin (low.alone + most)) in
    let stays : low.reach + (n - 1) ≡ tight f margin (low.reach + (n - 1)) = tight_same f margin (low.reach + (n - 1)) (le_trans (mul-le-mul_right f (omega arith)) fits) in
    record {
      alone = tight_same f margin low.alone (le_trans (mul-le-mul_right f (omega arith)) fits);
      reach = omega (arith, stays);
    }

-- a row that lacks this room lowers the values to its quotient
tight_min : (f margin v : ℕ) → 0 < f → tight f margin v ≡ min v (margin / f)
unfolding tight if_zero
tight_min zero margin v z = absurd (not-suc-le-zero z)
tight_min (suc f) margin v z = refl

fell : (f margin v : ℕ) → (v ≡ tight f margin v → ⊥) → (0 < f) × (margin / f ≡ tight f margin v)
fell f margin v h = ⊎_elim (λ l. absurd (h (tight_same f margin v l))) (λ l. tight_less f margin v l) (le_or_lt (v * f) margin)

min_less : (v q o : ℕ) → min v (q - o) ≡ min (v + o) q - o
min_less v q o =
    min_cases v (q - o) (min v (q - o) ≡ min (v + o) q - o)
    (λ a e. min_cases (v + o) q (min v (q - o) ≡ min (v + o) q - o) (λ b d. omega arith) (λ b d. omega arith))
    (λ a e. min_cases (v + o) q (min v (q - o) ≡ min (v + o) q - o) (λ b d. omega arith) (λ b d. omega arith))

pub lowered_fell : {f n margin room : ℕ} {low : Kws} {taken others left a r : ℕ} → taken ≡ tight f margin room → (taken ≡ room → ⊥)
    → a ≡ min low.alone taken → others ≡ n - 1 → left ≡ taken - others → r ≡ min low.reach left → Lowered f n margin low (record { alone = a; reach = r })
lowered_fell {f} {n} {margin} {room} {low} {taken} {others} {left} t h p e d q =
    let w = fell f margin room (λ y. h (t ∙ sym y)) in
    let is : taken ≡ margin / f = t ∙ sym w.1 in
    record {
      alone = p ∙ ap (min low.alone) is ∙ sym (tight_min f margin low.alone w.0);
      reach =
          q
          ∙ ap (min low.reach) (d ∙ ap₂ (λ (k o : ℕ). k - o) is e)
          ∙ min_less low.reach (margin / f) (n - 1)
          ∙ ap (λ (k : ℕ). k - (n - 1)) (sym (tight_min f margin (low.reach + (n - 1)) w.0));
    }

-- neither value is above what the row allows
tight_under : (f margin v : ℕ) → 0 < f → tight f margin v ≤ margin / f
tight_under f margin v z = (le-div_iff_mul-le z).1 (tight_share f margin v)

-- the reach stays below what the border takes alone
reach_below : (f margin others : ℕ) {v a : ℕ} → v ≤ a → tight f margin (v + others) - others ≤ tight f margin a
reach_below f margin others {v} {a} h =
    tight_over f margin a (tight f margin (v + others) - others) (omega (arith, tight_le f margin (v + others))) (λ z. omega (arith, tight_under f margin (v + others) z))

reach_over : (f margin v others u : ℕ) → u ≤ v → (0 < f → u ≤ margin / f - others) → u ≤ tight f margin (v + others) - others
reach_over f margin v others u h k =
    ⊎_elim
    (λ z. omega arith)
    (λ y. omega (arith, tight_over f margin (v + others) (u + others) (omega arith) (λ z. omega (arith, k z))))
    (le_or_lt u 0)

-- ---- a walk over the rows: v is at least the smallest that counts, and at most the smallest of the first i rows
pub record Lowest (k : ℕ) (w f : ℕ → ℕ) (i v : ℕ) : Type 0 where
  pub high : i ≤ k
  pub over : or_zero (least k w f) ≤ v
  pub some : 0 < v → (j : ℕ) × (j < k) × (0 < w j)
  pub under : (j : ℕ) → j < i → 0 < w j → v ≤ f j

module _ {k : ℕ} {w f : ℕ → ℕ} {i v : ℕ} (u : Lowest k w f i v) where
  -- after one row more v has fallen to what the row allows at most, but not below the smallest
  lowest_more : i < k → (v' : ℕ) → v' ≤ v → or_zero (least k w f) ≤ v' → (0 < w i → v' ≤ f i) → Lowest k w f (i + 1) v'
  lowest_more h v' less over under =
      record {
        high = omega arith;
        over = over;
        some = λ z. u.some (omega arith);
        under = λ j hj z.
            ⊎_elim
            (λ a. le_trans less (u.under j a z))
            (λ y. rw y (under (rw y at z)))
            (lt_suc_cases j i (rw add-one at hj));
      }

  -- a value that is not above `most` adds nothing to it
  lowest-under : (most : ℕ) → v ≤ most → most ≡ max most (or_zero (least k w f))
  lowest-under most h = le_antisymm (le-max_left most _) (max-le (le_refl most) (le_trans u.over h))

  lowest_all : k ≤ i → v ≡ or_zero (least k w f)
  lowest_all h =
      ⊎_elim
      (λ z. omega (arith, u.over))
      (λ z.
      let j = u.some z in
      let s = least_some k w f j.0 j.1 j.2 in
      omega (arith, u.over, u.under s.i (omega (arith, s.below)) s.counts, s.is))
      (le_or_lt v 0)

-- the walk over the rows, for both values of border b
pub record Walked (g : Grid) (m : List ℕ) (b i : ℕ) (low : Kws) : Type 0 where
  pub alone : Lowest g.rows (λ i. g.p i b) (λ i. at m i / g.p i b) i low.alone
  pub reach : Lowest g.rows (λ i. g.p i b) (row_reach g m b) i low.reach
  pub below : low.reach ≤ low.alone
  pub small : low.alone < 2 ^ 63

pub walked_none : {g : Grid} {m : List ℕ} {b v : ℕ} → length m ≡ g.rows → Small m → First g m b v → Walked g m b 0 (record { alone = v; reach = v })
unfolding alone reach
walked_none {g} {m} {b} {v} long small s =
    let some : 0 < v → (i : ℕ) × (i < g.rows) × (0 < g.p i b) = λ z. ((s.some z).0, (s.some z).1, (s.some z).2) in
    record {
      alone = record { high = omega arith; over = s.over; some = some; under = λ j h. absurd (not-suc-le-zero h) };
      reach = record { high = omega arith; over = le_trans (reach_alone g m b) s.over; some = some; under = λ j h. absurd (not-suc-le-zero h) };
      below = le_refl v;
      small = ⊎_elim (λ z. omega arith) (λ z. omega (arith, (s.some z).3, small (s.some z).0 (omega (arith, (s.some z).1)))) (le_or_lt v 0);
    }

module _ {g : Grid} {m : List ℕ} {b i : ℕ} {low : Kws} (u : Walked g m b i low) where
  -- what the border takes alone and a kW for each of the most sharers fit
  pub walked_fits : {n : ℕ} → n ≡ most_sharers g → g.borders ≤ borders_most → low.alone + n < 2 ^ 64
  walked_fits e few = omega (arith, u.small, sharers_few g)

  pub walked_more : i < g.rows → {f n : ℕ} {low' : Kws} → f ≡ g.p i b → n ≡ sharers g i → Lowered f n (at m i) low low' → Walked g m b (i + 1) low'
  unfolding alone reach row_reach
  walked_more h {f} {n} {low'} e d l =
      let under : low'.alone ≤ low.alone = omega (arith, l.alone, tight_le f (at m i) low.alone) in
      let less : low'.reach ≤ low.reach = omega (arith, l.reach, tight_le f (at m i) (low.reach + (n - 1))) in
      let here : 0 < f → reach g m b ≤ at m i / f - (n - 1) = λ z. rw (e, d) (least_le g.rows (λ i. g.p i b) (row_reach g m b) i h (omega arith)) in
      let allowed : 0 < g.p i b → low'.reach ≤ at m i / g.p i b - (sharers g i - 1) = λ z. rw (← e, ← d) (omega (arith, l.reach, tight_under f (at m i) (low.reach + (n - 1)) (omega arith))) in
      record {
        alone =
            lowest_more u.alone h low'.alone under
            (rw l.alone (tight_over f (at m i) low.alone (alone g m b) u.alone.over (λ z. rw e (alone_le g m i b h (omega arith)))))
            (λ z. rw (l.alone, ← e) (tight_under f (at m i) low.alone (omega arith)));
        reach =
            lowest_more u.reach h low'.reach less
            (rw l.reach (reach_over f (at m i) low.reach (n - 1) (reach g m b) u.reach.over here))
            allowed;
        below = rw (l.alone, l.reach) (reach_below f (at m i) (n - 1) u.below);
        small = omega (arith, u.small);
      }

  module _ {most : Kws} where
    pub walked_under : low.alone ≤ most.alone → low.reach ≤ most.reach → Higher g m b most most
    unfolding alone reach
    walked_under a r = record { alone = lowest-under u.alone most.alone a; reach = lowest-under u.reach most.reach r }

    pub walked_all : g.rows ≤ i → {a r : ℕ} → a ≡ max most.alone low.alone → r ≡ max most.reach low.reach → Higher g m b most (record { alone = a; reach = r })
    unfolding alone reach
    walked_all h p q =
        record {
          alone = p ∙ ap (max most.alone) (lowest_all u.alone h);
          reach = q ∙ ap (max most.reach) (lowest_all u.reach h);
        }

-- ---- n of each row in a list
module _ (g : Grid) {ns : List ℕ} (e : ns ≡ table g.rows (sharers g)) where
  pub counted_at : (i : ℕ) → i < g.rows → at ns i ≡ sharers g i
  counted_at i h = ap (λ (l : List ℕ). at l i) e ∙ table_get g.rows (sharers g) i 0 h

  pub counted_few : {n : ℕ} → n ≡ most_sharers g → (i : ℕ) → i < g.rows → at ns i ≤ n
  unfolding most_sharers
  counted_few d i h = omega (arith, d, counted_at i h, largest_le g.rows (sharers g) i h)

  pub counted_most : {v : ℕ} → v ≡ largest (length ns) (at ns) → v ≡ most_sharers g
  unfolding most_sharers
  counted_most d =
      d ∙ ap (λ (k : ℕ). largest k (at ns)) (ap length e ∙ table_long g.rows (sharers g)) ∙ largest_cong g.rows (at ns) (sharers g) counted_at

-- ---- N, L, 2 N L and the sharper bound together
pub measured : (g : Grid) {m : List ℕ} {n l k : ℕ} {kws : Kws} → n ≡ most_sharers g → Highest g m g.borders kws → l ≡ bits kws.alone → k ≡ steps n kws.reach → ◌≡◌ {A = RoundsMost} (record { sharers = n; bits = l; rounds = 2 * n * l; sharp = k }) (bound_by g m)
unfolding bound_by tight_bound farthest alone_bits
measured g {m} {n} {l} {k} e h d f =
    let b : l ≡ bits (largest g.borders (alone g m)) = d ∙ ap bits h.alone in
    let s : k ≡ steps (most_sharers g) (largest g.borders (reach g m)) = f ∙ ap₂ steps e h.reach in
    rw (e, b, s)
