-- Which rows a round looks at (`near_row`), and that the others may rest (`Watched`): when a block begins, and before the first. No contract cites this file.
use mathlib.Core.Path.{◌≡◌, refl, sym, ◌∙◌, subst}
use mathlib.Core.List.{List}
use mathlib.Core.Logic.{inl, inr, ⊎_elim}
use Prim.Native.Nat.{ℕ, ◌+◌, ◌-◌, ◌≤◌, ◌<◌}
use native.Mathlib.Nat.{not-suc-le-zero, zero-mul}
use native.Mathlib.Omega.{arith}
use lib.ListN.{length, take}
use lib.Seq.{get_or-take}
use Rattle.numbers.specs.Below.{at, if_zero}
use Rattle.numbers.proofs.BelowLaws.{le_or_lt, if_zero_pos}
use Rattle.rounds.specs.Rounds.{Grid, raises, load}
use Rattle.nearness.specs.Near.{Yields, Sorted}
use Rattle.nearness.proofs.RaiseLaws.{most_within}
use Rattle.nearness.proofs.YieldLaws.{yields_self}
use Rattle.resting.specs.Resting.{left_to, near_row, near_rows, Watched}
use Rattle.resting.proofs.LoadLaws.{load_none, left_at}

-- ---- the rows that a round looks at

pub near_listed : (near : List ℕ) (count j : ℕ) → j < count → near_row near count j ≡ at near j
unfolding near_row
near_listed near count j h = if_zero_pos (count - j) (length near + (j - count)) (at near j) (omega arith)

pub near_past : (near : List ℕ) (count j : ℕ) → count ≤ j → near_row near count j ≡ length near + (j - count)
unfolding near_row if_zero
near_past near count j h = let z : count - j ≡ 0 = omega arith in rw z refl

-- the near rows as the walk's two loops count them: those of the list, and those beyond it
pub near_front : (near : List ℕ) (count j : ℕ) → j < count → at (take count near) j ≡ near_row near count j
near_front near count j h = get_or-take count near j 0 h ∙ sym (near_listed near count j h)

pub near_beyond : (near : List ℕ) (count i : ℕ) → length near ≤ i → i ≡ near_row near count (count + (i - length near))
near_beyond near count i h = omega (arith, near_past near count (count + (i - length near)) (omega arith))

pub near_inside : {g : Grid} {s d w list : List ℕ} {near : List ℕ} {count wait : ℕ} → Watched g s d w list near count wait → (j : ℕ) → j < near_rows g near count → near_row near count j < g.rows
near_inside {g} {s} {d} {w} {list} {near} {count} u j h =
    ⊎_elim
    (λ a. omega (arith, near_past near count j a))
    (λ a. omega (arith, near_listed near count j a, u.inside j a))
    (le_or_lt count j)

-- ---- watching

-- a block begins: nothing is gained yet
pub watched_block : {g : Grid} {s w list : List ℕ} {wait : ℕ} {near : List ℕ} {count : ℕ} → Sorted g s w list wait near count (length near) → length near ≤ g.rows → (d : List ℕ) → ((b : ℕ) → b < g.borders → at d b ≡ 0) → Watched g s d w list near count wait
watched_block {g} {s} {w} {list} {wait} {near} {count} u l d z =
    record {
      few = u.few;
      inside = λ j h. omega (arith, u.inside j h);
      each = λ i hi.
          ⊎_elim
          (λ a.
          let e : near_row near count (count + (i - length near)) ≡ i = near_past near count (count + (i - length near)) (omega arith) ∙ omega arith in
          inl
          (record {
            place = count + (i - length near);
            before = omega arith;
            yields = subst (λ (r : ℕ). Yields g s list r i) (sym e) (yields_self g s list i);
          }))
          (λ a.
          ⊎_elim
          (λ h.
          inl
          (record {
            place = h.place;
            before = omega (arith, h.before);
            yields = subst (λ (r : ℕ). Yields g s list r i) (sym (near_listed near count h.place h.before)) h.yields;
          }))
          (λ h. inr (omega (arith, h, load_none g i d z)))
          (u.each i a))
          (le_or_lt (length near) i);
    }

-- before the first block no row is listed, and none is to rest for any round
pub watched_none : (g : Grid) (s d w list : List ℕ) (near : List ℕ) → w ≡ raises g (left_to g d s) → ((i : ℕ) → i < g.rows → load g i d ≤ at s i) → Watched g s d w list near 0 0
watched_none g s d w list near e h =
    record {
      few = omega arith;
      inside = λ j h. absurd (not-suc-le-zero h);
      each = λ i hi. inr (omega (arith, zero-mul (load g i w), most_within g (left_to g d s) e i hi, left_at g d s i hi, h i hi));
    }
