-- One row's work: what it loses and the most that one border would take (`Parting` is that loop's invariant), and why a row whose most part is within its share tightens nothing.
-- No contract cites this file.
use mathlib.Core.Path.{◌≡◌, refl, sym, ap, ◌∙◌}
use mathlib.Core.List.{List}
use mathlib.Core.Logic.{⊎_elim}
use Prim.Native.Nat.{ℕ, ◌+◌, ◌*◌, ◌/◌, ◌^◌, ◌≤◌, ◌<◌, max}
use native.Mathlib.Nat.{not-suc-le-zero, le_trans, le_antisymm, le_of_eq, mul-zero, mul_comm, mul-le-mul_left, mul-le-mul_right, max-le, le-max_left, le-max_right, le-div_iff_mul-le}
use native.Mathlib.Numerals.{add-one}
use native.Mathlib.Omega.{arith}
use lib.ListN.{length}
use Rattle.numbers.specs.Below.{at, sum, table}
use Rattle.numbers.proofs.BelowLaws.{lt_suc_cases, le_or_lt, sum_part, Summed, summed_none, summed_more, summed_all, count_pos, largest_le, largest_under, table_of}
use Rattle.rounds.specs.Rounds.{Grid, sharers, load}
use Rattle.walk.specs.Walk.{tightened, part, most_load, Loadable}
use Rattle.walk.proofs.ListedLaws.{listed_has}
use Rattle.caps.proofs.TightLaws.{tight_same}

-- ---- a row's parts

-- the loss and the most part of the first j listed borders
pub record Parting (g : Grid) (i : ℕ) (v w list : List ℕ) (j loss most : ℕ) : Type 0 where
  pub summed : Summed (λ j'. part g i v (at list j')) (length list) j loss
  pub over : (j' : ℕ) → j' < j → part g i w (at list j') ≤ most
  pub under : most ≤ most_load g i w

pub parting_none : (g : Grid) (i : ℕ) (v w list : List ℕ) → Parting g i v w list 0 0 0
parting_none g i v w list = record { summed = summed_none _ (length list); over = λ j' h. absurd (not-suc-le-zero h); under = omega arith }

module _ {g : Grid} {i : ℕ} {v w list : List ℕ} (q : Loadable g i v w list) where
  parts-load : sum (length list) (λ j'. part g i v (at list j')) ≡ load g i v
  unfolding part load
  parts-load = q.listed.adds (λ b. g.p i b * at v b) (λ b hb z. ap (λ (k : ℕ). g.p i b * k) z ∙ mul-zero (g.p i b))

  module _ {j loss most : ℕ} (u : Parting g i v w list j loss most) where
    module _ (hj : j < length list) (f : ℕ) (e : f ≡ g.p i (at list j)) where
      part-here : at list j < g.borders
      part-here = q.listed.inside j hj

      -- what is summed so far, with the next part, fits
      pub part_fits : loss + f * at v (at list j) < 2 ^ 64
      unfolding part
      part_fits =
          let t : sum j (λ j'. part g i v (at list j')) + part g i v (at list j) ≤ sum (length list) (λ j'. part g i v (at list j')) = sum_part (length list) (λ j'. part g i v (at list j')) j hj in
          rw e (omega (arith, u.summed.total, parts-load, q.fits))

      -- the part by the cap is within that by the raise
      pub cap_fits : f * at w (at list j) < 2 ^ 64
      cap_fits = omega (arith, part_fits, mul-le-mul_left f (q.lower (at list j) part-here))

      pub parting_more : (most' : ℕ) → most' ≡ max most (f * at w (at list j)) → Parting g i v w list (j + 1) (loss + f * at v (at list j)) most'
      unfolding part most_load
      parting_more most' d =
          record {
            summed = summed_more u.summed (f * at v (at list j)) hj (rw e refl);
            over = λ j' h.
                rw d
                (⊎_elim
                (λ a. le_trans (u.over j' a) (le-max_left most _))
                (λ y. le_trans (le_of_eq (ap (λ (j' : ℕ). part g i w (at list j')) y ∙ ap (λ (k : ℕ). k * at w (at list j)) (sym e))) (le-max_right most (f * at w (at list j))))
                (lt_suc_cases j' j (rw add-one at h)));
            under = rw d (max-le u.under (le_trans (le_of_eq (ap (λ (k : ℕ). k * at w (at list j)) e)) (largest_le g.borders (part g i w) (at list j) part-here)));
          }

    module _ (h : length list ≤ j) where
      pub parting_loss : loss ≡ load g i v
      parting_loss = summed_all u.summed h ∙ parts-load

      pub parting_most : most ≡ most_load g i w
      unfolding most_load part
      parting_most =
          le_antisymm u.under
          (largest_under g.borders (part g i w) most
          (λ b hb.
          ⊎_elim
          (λ z. let y : at w b ≡ 0 = omega (arith, q.lower b hb) in omega (arith, ap (λ (k : ℕ). g.p i b * k) y, mul-zero (g.p i b)))
          (λ z. let s = listed_has q.listed b hb z in le_trans (le_of_eq (ap (part g i w) (sym s.2))) (u.over s.0 (omega (arith, s.1))))
          (le_or_lt (at v b) 0)))

-- ---- a row that tightens nothing

module _ (g : Grid) (i : ℕ) (w : List ℕ) (l : length w ≡ g.borders) (n margin most : ℕ) (en : n ≡ sharers g i) (em : most ≡ most_load g i w) (h : most * n ≤ margin) where
  pub slack_part : (b : ℕ) → b < g.borders → at w b * g.p i b ≤ margin / n
  unfolding most_load part sharers
  slack_part b hb =
      ⊎_elim
      (λ z. let y : g.p i b ≡ 0 = ⊎_elim (λ (a : g.p i b ≤ 0). omega arith) (λ a. let k = count_pos g.borders (g.p i) b hb a in omega arith) (le_or_lt (g.p i b) 0) in
      omega (arith, ap (λ (k : ℕ). at w b * k) y, mul-zero (at w b)))
      (λ z.
      let t : g.p i b * at w b ≤ most = rw em (largest_le g.borders (part g i w) b hb) in
      (le-div_iff_mul-le z).1 (le_trans (mul-le-mul_right n (omega (arith, t, mul_comm (at w b) (g.p i b)))) h))
      (le_or_lt n 0)

  pub slack_same : w ≡ table g.borders (tightened g i (margin / n) w)
  unfolding tightened
  slack_same = table_of g.borders (tightened g i (margin / n) w) w 0 l (λ b hb. tight_same (g.p i b) (margin / n) (at w b) (slack_part b hb))

pub tight_n : (n margin most : ℕ) → margin < most * n → 0 < n
tight_n n margin most h = ⊎_elim (λ z. let y : n ≡ 0 = omega arith in omega (arith, ap (λ (k : ℕ). most * k) y, mul-zero most)) (λ z. z) (le_or_lt n 0)
