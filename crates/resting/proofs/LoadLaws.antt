-- What rows lose, by sums of raises and by lower ones, and what is left to them (`left_to`). The raises of a round cap those of the next (`raises-cap`). No contract cites this file.
use mathlib.Core.Path.{◌≡◌, sym, ap, ◌∙◌, subst}
use mathlib.Core.List.{List}
use mathlib.Core.Logic.{⊎_elim}
use Prim.Native.Nat.{ℕ, ◌+◌, ◌*◌, ◌-◌, ◌/◌, ◌≤◌, ◌<◌}
use native.Mathlib.Nat.{le_trans, mul-zero, mul-add, mul-le-mul_left}
use native.Mathlib.Omega.{arith}
use lib.ListN.{length}
use Rattle.numbers.specs.Below.{at, table}
use Rattle.numbers.proofs.BelowLaws.{le_or_lt, sum_cong, sum_mono, sum_add, sum_some, largest_le, largest_under, table_get, table_cong, table_of}
use Rattle.rounds.specs.Rounds.{Grid, sharers, raise, raises, load, lowered, risen, next, apply}
use Rattle.rounds.proofs.LeastLaws.{Smallest}
use Rattle.rounds.proofs.Round.{raises_are, raiser, raise_falls}
use Rattle.walk.specs.Walk.{Caps, part, most_load}
use Rattle.resting.specs.Resting.{left_to}

-- ---- loads

module _ (g : Grid) (i : ℕ) where
  pub load_add : (w d : List ℕ) → load g i (table g.borders (risen w d)) ≡ load g i d + load g i w
  unfolding load risen
  load_add w d =
      sum_cong g.borders (λ b. g.p i b * at (table g.borders (risen w d)) b) (λ b. g.p i b * at d b + g.p i b * at w b)
      (λ b hb. ap (λ (v : ℕ). g.p i b * v) (table_get g.borders (risen w d) b 0 hb) ∙ mul-add (g.p i b) (at d b) (at w b))
      ∙ sum_add g.borders (λ b. g.p i b * at d b) (λ b. g.p i b * at w b)

  pub load_none : (d : List ℕ) → ((b : ℕ) → b < g.borders → at d b ≡ 0) → load g i d ≡ 0
  unfolding load
  load_none d h =
      ⊎_elim
      (λ z. omega (arith, z))
      (λ z.
      let s = sum_some g.borders (λ b. g.p i b * at d b) z in
      omega (arith, s.2, ap (λ (v : ℕ). g.p i s.0 * v) (h s.0 s.1), mul-zero (g.p i s.0)))
      (le_or_lt (load g i d) 0)

  module _ (v w : List ℕ) (h : (b : ℕ) → b < g.borders → at v b ≤ at w b) where
    pub load_less : load g i v ≤ load g i w
    unfolding load
    load_less = sum_mono g.borders (λ b. g.p i b * at v b) (λ b. g.p i b * at w b) (λ b hb. mul-le-mul_left (g.p i b) (h b hb))

    pub most_less : most_load g i v ≤ most_load g i w
    unfolding most_load part
    most_less =
        largest_under g.borders (part g i v) (most_load g i w)
        (λ b hb. le_trans (mul-le-mul_left (g.p i b) (h b hb)) (largest_le g.borders (part g i w) b hb))

-- ---- what is left

module _ (g : Grid) (d s : List ℕ) where
  pub left_at : (i : ℕ) → i < g.rows → at (left_to g d s) i ≡ at s i - load g i d
  unfolding lowered
  left_at i hi = table_get g.rows (lowered g d s) i 0 hi

  -- gained in two steps
  pub left_step : (w : List ℕ) → left_to g (table g.borders (risen w d)) s ≡ left_to g w (left_to g d s)
  unfolding lowered
  left_step w =
      table_cong g.rows (lowered g (table g.borders (risen w d)) s) (lowered g w (left_to g d s))
      (λ i hi. omega (arith, load_add g i w d, left_at i hi))

  pub left_none : ((b : ℕ) → b < g.borders → at d b ≡ 0) → length s ≡ g.rows → left_to g d s ≡ s
  unfolding lowered
  left_none z l = sym (table_of g.rows (lowered g d s) s 0 l (λ i hi. omega (arith, load_none g i d z)))

-- ---- the raises of the margins m

module _ (g : Grid) (m : List ℕ) {w : List ℕ} (e : w ≡ raises g m) where
  -- raises never grow
  fall : (b : ℕ) → raise g (left_to g w m) b ≤ raise g m b
  unfolding next apply
  fall b =
      subst (λ (l : List ℕ). raise g (left_to g l m) b ≤ raise g m b) (sym e) (raise_falls g (record { margins = m; x = m }) b)

  pub raises_less : {w' : List ℕ} → w' ≡ raises g (left_to g w m) → (b : ℕ) → b < g.borders → at w' b ≤ at w b
  raises_less e' b hb = omega (arith, raises_are g m e b hb, raises_are g (left_to g w m) e' b hb, fall b)

  -- the raises of a round cap those of the next
  pub raises_cap : Caps g (left_to g w m) w
  raises_cap b hb =
      let is = raises_are g m e b hb in
      let s : 0 < at w b → Smallest g.rows (λ i. g.p i b) (λ i. at m i / sharers g i / g.p i b) (raise g m b) = λ z. raiser g m b (omega arith) in
      record { over = omega (arith, fall b); row = λ z. (s z).i; inside = λ z. (s z).below; loads = λ z. (s z).counts }
