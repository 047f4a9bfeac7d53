-- Raising the listed borders, one after the other (`Rising` is that loop's invariant), which raises all of them as a round of the rules does. No contract cites this file.
use mathlib.Core.Path.{◌≡◌, refl, sym, ap, ◌∙◌}
use mathlib.Core.List.{List}
use mathlib.Core.Logic.{◌⊎◌, inl, inr, ⊎_elim}
use Prim.Native.Nat.{ℕ, zero, suc, ◌+◌, ◌^◌, ◌≤◌, ◌<◌}
use native.Mathlib.Nat.{le_antisymm, add-zero, add-suc}
use native.Mathlib.Omega.{arith}
use lib.ListN.{length, set, length-set}
use lib.Seq.{get_or-set_same, get_or-set_other}
use Rattle.numbers.specs.Below.{at, if_zero}
use Rattle.numbers.proofs.BelowLaws.{le_or_lt, table_of}
use Rattle.rounds.specs.Rounds.{risen}
use Rattle.rounds.specs.AllRounds.{noted}
use Rattle.walk.proofs.ListedLaws.{taken, taken_none, taken_here, taken_there, taken_all, taken_under}
use Rattle.raising.specs.Raising.{Fits, Risable, Rose}

same_or_not : (b c : ℕ) → (b ≡ c) ⊎ (b ≡ c → ⊥)
same_or_not b c =
    ⊎_elim
    (λ h. ⊎_elim (λ k. inl (le_antisymm h k)) (λ k. inr (λ e. omega arith)) (le_or_lt c b))
    (λ h. inr (λ e. omega arith))
    (le_or_lt b c)

if_both : (a k l round : ℕ) → if_zero k (if_zero a l round) round ≡ if_zero (a + k) l round
unfolding if_zero
if_both a zero l round = rw (add-zero a) refl
if_both a (suc k) l round = rw (add-suc a k) refl

module _ (v list : List ℕ) (j : ℕ) where
  -- each border has risen by what it took at the first j listed places; after the next place too
  risen-more : (x₀ x : List ℕ) → ((b : ℕ) → at x b ≡ at x₀ b + taken v list j b) → at list j < length x → (b : ℕ) → at (set x (at list j) (at x (at list j) + at v (at list j))) b ≡ at x₀ b + taken v list (j + 1) b
  risen-more x₀ x u h b =
      let c : ℕ = at list j in
      ⊎_elim
      (λ e. rw e (get_or-set_same x c (at x c + at v c) 0 h ∙ omega (arith, u c, taken_here v list j c refl)))
      (λ other. get_or-set_other x c b (at x c + at v c) 0 other ∙ omega (arith, u b, taken_there v list j b other))
      (same_or_not b c)

  -- the round is noted for each border that took something at the first j listed places; after the next place too
  noted_more : (round : ℕ) (lasts₀ lasts : List ℕ) → ((b : ℕ) → at lasts b ≡ if_zero (taken v list j b) (at lasts₀ b) round) → at list j < length lasts → (r : ℕ) → r ≡ if_zero (at v (at list j)) (at lasts (at list j)) round → (b : ℕ) → at (set lasts (at list j) r) b ≡ if_zero (taken v list (j + 1) b) (at lasts₀ b) round
  noted_more round lasts₀ lasts u h r er b =
      let c : ℕ = at list j in
      ⊎_elim
      (λ e.
      rw e
      (get_or-set_same lasts c r 0 h
      ∙ er
      ∙ ap (λ (l : ℕ). if_zero (at v c) l round) (u c)
      ∙ if_both (taken v list j c) (at v c) (at lasts₀ c) round
      ∙ ap (λ (k : ℕ). if_zero k (at lasts₀ c) round) (sym (taken_here v list j c refl))))
      (λ other. get_or-set_other lasts c b r 0 other ∙ u b ∙ ap (λ (k : ℕ). if_zero k (at lasts₀ b) round) (sym (taken_there v list j b other)))
      (same_or_not b c)

-- the first j listed borders rose
pub record Rising (v list : List ℕ) (round : ℕ) (d₀ x₀ lasts₀ d x lasts : List ℕ) (j : ℕ) : Type 0 where
  pub high : j ≤ length list
  pub gained_long : length d ≡ length d₀
  pub x_long : length x ≡ length x₀
  pub lasts_long : length lasts ≡ length lasts₀
  pub gained : (b : ℕ) → at d b ≡ at d₀ b + taken v list j b
  pub exchanges : (b : ℕ) → at x b ≡ at x₀ b + taken v list j b
  pub last_rounds_lem : (b : ℕ) → at lasts b ≡ if_zero (taken v list j b) (at lasts₀ b) round

pub rising_none : (v list : List ℕ) (round : ℕ) (d x lasts : List ℕ) → Rising v list round d x lasts d x lasts 0
unfolding if_zero
rising_none v list round d x lasts =
    record {
      high = omega arith;
      gained_long = refl;
      x_long = refl;
      lasts_long = refl;
      gained = λ b. omega (arith, taken_none v list b);
      exchanges = λ b. omega (arith, taken_none v list b);
      last_rounds_lem = λ b. rw (taken_none v list b) refl;
    }

module _ {v list : List ℕ} {round : ℕ} {d₀ x₀ lasts₀ d x lasts : List ℕ} {j : ℕ} (q : Risable v list d₀ x₀ lasts₀) (u : Rising v list round d₀ x₀ lasts₀ d x lasts j) where
  module _ (hj : j < length list) where
    pub rising_here : at list j < length v
    rising_here = q.listed.inside j hj

    -- a sum fits: either the raise is 0, or the border rises here and at no other place
    fits-here : (y₀ y : List ℕ) → Fits v y₀ → at y (at list j) ≡ at y₀ (at list j) + taken v list j (at list j) → at y (at list j) < 2 ^ 64 → at y (at list j) + at v (at list j) < 2 ^ 64
    fits-here y₀ y f e h =
        ⊎_elim
        (λ z. omega arith)
        (λ z. omega (arith, f.fits (at list j) rising_here z, taken_here v list j (at list j) refl, taken_under q.listed (at list j) rising_here j hj))
        (le_or_lt (at v (at list j)) 0)

    pub gained_fits : at d (at list j) < 2 ^ 64 → at d (at list j) + at v (at list j) < 2 ^ 64
    gained_fits = fits-here d₀ d q.gains (u.gained (at list j))

    pub x_fits : at x (at list j) < 2 ^ 64 → at x (at list j) + at v (at list j) < 2 ^ 64
    x_fits = fits-here x₀ x q.exchanges (u.exchanges (at list j))

    pub rising_more : (r : ℕ) → r ≡ if_zero (at v (at list j)) (at lasts (at list j)) round → Rising v list round d₀ x₀ lasts₀ (set d (at list j) (at d (at list j) + at v (at list j))) (set x (at list j) (at x (at list j) + at v (at list j))) (set lasts (at list j) r) (j + 1)
    rising_more r er =
        record {
          high = omega arith;
          gained_long = length-set d (at list j) (at d (at list j) + at v (at list j)) ∙ u.gained_long;
          x_long = length-set x (at list j) (at x (at list j) + at v (at list j)) ∙ u.x_long;
          lasts_long = length-set lasts (at list j) r ∙ u.lasts_long;
          gained = risen-more v list j d₀ d u.gained (omega (arith, rising_here, u.gained_long, q.gains.long));
          exchanges = risen-more v list j x₀ x u.exchanges (omega (arith, rising_here, u.x_long, q.exchanges.long));
          last_rounds_lem = noted_more v list j round lasts₀ lasts u.last_rounds_lem (omega (arith, rising_here, u.lasts_long, q.notes)) r er;
        }

  pub rising_all : length list ≤ j → Rose v d₀ x₀ lasts₀ round d x lasts
  unfolding risen noted
  rising_all h =
      let e : j ≡ length list = omega (arith, u.high) in
      let all : (b : ℕ) → b < length v → taken v list j b ≡ at v b = λ b hb. ap (λ (k : ℕ). taken v list k b) e ∙ taken_all q.listed b hb in
      record {
        gained = table_of (length v) (risen v d₀) d 0 (u.gained_long ∙ q.gains.long) (λ b hb. omega (arith, u.gained b, all b hb));
        exchanges = table_of (length v) (risen v x₀) x 0 (u.x_long ∙ q.exchanges.long) (λ b hb. omega (arith, u.exchanges b, all b hb));
        last_rounds_lem =
            table_of (length v) (noted round v lasts₀) lasts 0 (u.lasts_long ∙ q.notes)
            (λ b hb. u.last_rounds_lem b ∙ ap (λ (k : ℕ). if_zero k (at lasts₀ b) round) (all b hb));
      }
