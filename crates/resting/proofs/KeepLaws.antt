-- The list of the borders that still rise: keeping those above 0, in the list itself (`Keeping` is that loop's invariant). No contract cites this file.
use mathlib.Core.Path.{◌≡◌, refl, ap, ap₂, ◌∙◌}
use mathlib.Core.List.{List, ◌++◌}
use mathlib.Core.Logic.{⊎_elim}
use Prim.Native.Nat.{ℕ, ◌+◌, ◌≤◌, ◌<◌}
use native.Mathlib.Nat.{not-suc-le-zero, le_refl}
use native.Mathlib.Numerals.{add-one}
use native.Mathlib.Omega.{arith}
use Rattle.std.proofs.lemmas.List.{take-append-le}
use lib.ListN.{length, length-append, take, set, length-set}
use lib.Seq.{length-take-le, get_or-take, get_or-set_same, get_or-set_other}
use Rattle.numbers.specs.Below.{at, sum}
use Rattle.numbers.proofs.BelowLaws.{lt_suc_cases, sum_cong}
use Rattle.walk.specs.Walk.{Listed}

-- the first j places of the list were looked at; the borders above 0 among them stand in the first `kept` places
pub record Keeping (borders : ℕ) (v list₀ list : List ℕ) (j kept : ℕ) : Type 0 where
  pub high : j ≤ length list₀
  pub few : kept ≤ j
  pub long : length list ≡ length list₀
  pub rest : (j' : ℕ) → j ≤ j' → at list j' ≡ at list₀ j'
  pub inside : (j' : ℕ) → j' < kept → at list j' < borders
  pub adds : (w : ℕ → ℕ) → ((b : ℕ) → b < borders → at v b ≡ 0 → w b ≡ 0) → sum kept (λ j'. w (at list j')) ≡ sum j (λ j'. w (at list₀ j'))

pub keeping_none : (borders : ℕ) (v list : List ℕ) → Keeping borders v list list 0 0
unfolding sum
keeping_none borders v list =
    record {
      high = omega arith;
      few = omega arith;
      long = refl;
      rest = λ j' h. refl;
      inside = λ j' h. absurd (not-suc-le-zero h);
      adds = λ w z. refl;
    }

module _ {borders : ℕ} {v list₀ list : List ℕ} {j kept : ℕ} (q : Listed borders v list₀) (u : Keeping borders v list₀ list j kept) (hj : j < length list₀) where
  pub keeping_here : at list j < borders
  keeping_here = omega (arith, u.rest j (le_refl j), q.inside j hj)

  -- the border is written at `kept`, and counts where it is above 0
  module _ (kept' : ℕ) where
    unfoldable next : List ℕ
    next = set list kept (at list j)

    next-before : (j' : ℕ) → j' < kept → at next j' ≡ at list j'
    unfolding next
    next-before j' h = get_or-set_other list kept j' (at list j) 0 (λ y. omega arith)

    next-at : at next kept ≡ at list₀ j
    unfolding next
    next-at = get_or-set_same list kept (at list j) 0 (omega (arith, u.long, u.few)) ∙ u.rest j (le_refl j)

    next-rest : (j' : ℕ) → j + 1 ≤ j' → at next j' ≡ at list₀ j'
    unfolding next
    next-rest j' h = get_or-set_other list kept j' (at list j) 0 (λ y. omega (arith, u.few)) ∙ u.rest j' (omega arith)

    pub keeping_up : 0 < at v (at list j) → kept' ≡ kept + 1 → Keeping borders v list₀ (set list kept (at list j)) (j + 1) kept'
    unfolding sum next
    keeping_up h e =
        rw (e, add-one kept)
        (record {
          high = omega arith;
          few = omega (arith, u.few);
          long = simp length-set u.long;
          rest = next-rest;
          inside = λ j' l. ⊎_elim (λ a. omega (arith, next-before j' a, u.inside j' a)) (λ y. rw y (omega (arith, next-at, q.inside j hj))) (lt_suc_cases j' kept l);
          adds = λ w z.
              rw (add-one j)
              (ap₂ ◌+◌ (sum_cong kept (λ j'. w (at next j')) (λ j'. w (at list j')) (λ j' l. ap w (next-before j' l)) ∙ u.adds w z) (ap w next-at));
        })

    pub keeping_on : at v (at list j) ≤ 0 → kept' ≡ kept → Keeping borders v list₀ (set list kept (at list j)) (j + 1) kept'
    unfolding sum next
    keeping_on h e =
        let zero-here : at v (at list₀ j) ≡ 0 = let y : at v (at list j) ≡ 0 = omega arith in (rw (u.rest j (le_refl j)) at y) in
        rw e
        (record {
          high = omega arith;
          few = omega (arith, u.few);
          long = simp length-set u.long;
          rest = next-rest;
          inside = λ j' l. omega (arith, next-before j' l, u.inside j' l);
          adds = λ w z.
              rw (add-one j)
              (omega (
                arith,
                sum_cong kept (λ j'. w (at next j')) (λ j'. w (at list j')) (λ j' l. ap w (next-before j' l)),
                u.adds w z,
                z (at list₀ j) (q.inside j hj) zero-here,
              ));
        })

-- the borders kept, and how many
pub keeping_all : {borders : ℕ} {v list₀ list : List ℕ} {j kept : ℕ} → Listed borders v list₀ → Keeping borders v list₀ list j kept → length list₀ ≤ j → Listed borders v (take kept list) × (kept ≤ length list)
keeping_all {borders} {v} {list₀} {list} {j} {kept} q u h =
    let e : j ≡ length list₀ = omega (arith, u.high) in
    let fits : kept ≤ length list = omega (arith, u.few, u.long) in
    let long : length (take kept list) ≡ kept = length-take-le kept list fits in
    let same : (j' : ℕ) → j' < kept → at (take kept list) j' ≡ at list j' = λ j' l. get_or-take kept list j' 0 l in (
      record {
        inside = λ j' l. omega (arith, u.inside j' (omega arith), same j' (omega arith));
        adds = λ w z.
            rw long
            (sum_cong kept (λ j'. w (at (take kept list) j')) (λ j'. w (at list j')) (λ j' l. ap w (same j' l))
            ∙ u.adds w z
            ∙ ap (λ (n : ℕ). sum n (λ j'. w (at list₀ j'))) e
            ∙ q.adds w z);
      },
      fits,
    )

-- the same, said of a longer list that begins with them
pub kept_front : {borders : ℕ} {v : List ℕ} (list : List ℕ) (kept : ℕ) → Listed borders v (take kept list) × (kept ≤ length list) → (rest : List ℕ) → Listed borders v (take kept (list ++ rest)) × (kept ≤ length (list ++ rest))
kept_front list kept q rest =
    let fits : kept ≤ length list = q.1 in (rw (take-append-le kept list rest fits) q.0, omega (arith, length-append list rest))
