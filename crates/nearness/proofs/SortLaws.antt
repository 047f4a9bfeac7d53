-- Sorting the rows into those to look at and those that may rest: `Sorting` is that loop's invariant; what its test says (`far-rests`). No contract cites this file.
use mathlib.Core.Path.{◌≡◌, refl, ap, ap₂, ◌∙◌}
use mathlib.Core.List.{List}
use mathlib.Core.Logic.{inl, inr, ⊎_elim}
use Prim.Native.Nat.{ℕ, ◌+◌, ◌*◌, ◌-◌, ◌/◌, ◌≤◌, ◌<◌}
use native.Mathlib.Nat.{not-suc-le-zero, le_refl, mul_comm, le-div_iff_mul-le}
use native.Mathlib.Numerals.{add-one}
use native.Mathlib.Omega.{arith}
use lib.ListN.{length}
use Rattle.numbers.specs.Below.{at}
use Rattle.numbers.proofs.BelowLaws.{lt_suc_cases}
use Rattle.rounds.specs.Rounds.{Grid, sharers, load}
use Rattle.rounds.proofs.Round.{raises_long}
use Rattle.rounds.proofs.Loops.{ready_at}
use Rattle.walk.specs.Walk.{most_load, Loadable}
use Rattle.nearness.specs.Near.{Placed, Sortable, Sorted}
use Rattle.nearness.proofs.RaiseLaws.{raises_within, most_within}

-- the first i rows are sorted
pub record Sorting (g : Grid) (s w list : List ℕ) (wait : ℕ) (near₀ near : List ℕ) (count i : ℕ) : Type 0 where
  pub high : i ≤ length near₀
  pub long : length near ≡ length near₀
  pub sorted : Sorted g s w list wait near count i

pub sorting_none : (g : Grid) (s w list : List ℕ) (wait : ℕ) (near : List ℕ) → Sorting g s w list wait near near 0 0
sorting_none g s w list wait near =
    record {
      high = omega arith;
      long = refl;
      sorted = record { few = omega arith; inside = λ j h. absurd (not-suc-le-zero h); each = λ i' h. absurd (not-suc-le-zero h) };
    }

module _ {g : Grid} {ns s w list : List ℕ} (q : Sortable g ns s w list) (i : ℕ) (hi : i < g.rows) where
  pub sort_loadable : Loadable g i w w list
  sort_loadable =
      record {
        raises = raises_long g s q.found;
        caps = raises_long g s q.found;
        listed = q.listed;
        lower = λ b hb. le_refl (at w b);
        fits = omega (arith, raises_within g s q.found i hi, q.fits i hi);
      }

  module _ (most loss : ℕ) (em : most ≡ most_load g i w) (el : loss ≡ load g i w) where
    sort-product : most * at ns i ≡ most_load g i w * sharers g i
    sort-product = ap₂ ◌*◌ em (ready_at q.ready i hi)

    pub sort_most : most * at ns i ≤ at s i
    sort_most = omega (arith, sort-product, most_within g s q.found i hi)

    pub far_rests : (wait : ℕ) → 0 < wait → loss ≤ (at s i - most * at ns i) / wait → wait * load g i w + most_load g i w * sharers g i ≤ at s i
    far_rests wait z h =
        let t : loss * wait ≤ at s i - most * at ns i = (le-div_iff_mul-le z).0 h in
        omega (arith, t, sort_most, sort-product, ap (λ (v : ℕ). v * wait) el, mul_comm wait (load g i w))

module _ {g : Grid} {s w list : List ℕ} {wait : ℕ} {near₀ near : List ℕ} {count i : ℕ} (u : Sorting g s w list wait near₀ near count i) (hi : i < length near₀) where
  -- row i is listed
  pub sorting_listed : {near' : List ℕ} {count' : ℕ} → Placed g s list near count i near' count' → Sorting g s w list wait near₀ near' count' (i + 1)
  sorting_listed a =
      record {
        high = omega arith;
        long = a.long ∙ u.long;
        sorted =
            record {
              few = omega (arith, u.sorted.few, a.few);
              inside = a.inside;
              each = λ i' h.
                  ⊎_elim
                  (λ b. ⊎_elim (λ z. inl (a.still i' z)) (λ z. inr z) (u.sorted.each i' b))
                  (λ y. rw y (inl a.here))
                  (lt_suc_cases i' i (rw add-one at h));
            };
      }

  -- row i may rest
  pub sorting_rests : wait * load g i w + most_load g i w * sharers g i ≤ at s i → Sorting g s w list wait near₀ near count (i + 1)
  sorting_rests rests =
      record {
        high = omega arith;
        long = u.long;
        sorted =
            record {
              few = omega (arith, u.sorted.few);
              inside = λ j h. omega (arith, u.sorted.inside j h);
              each = λ i' h. ⊎_elim (u.sorted.each i') (λ y. rw y (inr rests)) (lt_suc_cases i' i (rw add-one at h));
            };
      }

pub sorting_all : {g : Grid} {s w list : List ℕ} {wait : ℕ} {near₀ near : List ℕ} {count i : ℕ} → Sorting g s w list wait near₀ near count i → length near₀ ≤ i → Sorted g s w list wait near count (length near)
sorting_all {g} {s} {w} {list} {wait} {near₀} {near} {count} {i} u h =
    let e : i ≡ length near = omega (arith, u.high, u.long) in
    rw e at u.sorted
