-- Rows that yield to others (`Yields`, `Led`): what a row takes and loses, against the row that it yields to; and listing a row (`Placed`). No contract cites this file.
use mathlib.Core.Path.{◌≡◌, refl, sym, subst}
use mathlib.Core.List.{List}
use mathlib.Core.Logic.{⊎_elim}
use Prim.Native.Nat.{ℕ, ◌+◌, ◌*◌, ◌≤◌, ◌<◌}
use native.Mathlib.Nat.{not-suc-le-zero, le_trans, le_refl, mul-zero, mul_comm, mul-le-mul_right}
use native.Mathlib.Numerals.{add-one}
use native.Mathlib.Omega.{arith}
use lib.ListN.{length, set, length-set}
use lib.Seq.{get_or-set_same, get_or-set_other}
use Rattle.numbers.specs.Below.{at}
use Rattle.numbers.proofs.BelowLaws.{le_or_lt, lt_suc_cases, sum_mono, largest_under}
use Rattle.rounds.specs.Rounds.{Grid, sharers, load}
use Rattle.rounds.specs.AllRounds.{Ready}
use Rattle.rounds.proofs.Loops.{ready_at}
use Rattle.walk.specs.Walk.{Listed, part, most_load}
use Rattle.walk.proofs.ListedLaws.{listed_has}
use Rattle.nearness.specs.Near.{Yields, Placed}

pub yields_self : (g : Grid) (s list : List ℕ) (i : ℕ) → Yields g s list i i
yields_self g s list i =
    record { margin = le_refl (at s i); share = le_refl (sharers g i); factors = λ j h. le_refl (g.p i (at list j)) }

yields_on : {g : Grid} {s list : List ℕ} {t u i : ℕ} → Yields g s list t u → Yields g s list u i → Yields g s list t i
yields_on a b =
    record {
      margin = le_trans a.margin b.margin;
      share = le_trans b.share a.share;
      factors = λ j h. le_trans (b.factors j h) (a.factors j h);
    }

-- ---- parts and losses, of raises v that the list holds

module _ {g : Grid} {s list : List ℕ} {t i : ℕ} (y : Yields g s list t i) {v : List ℕ} (q : Listed g.borders v list) where
  part-yields : (b : ℕ) → b < g.borders → g.p i b * at v b ≤ g.p t b * at v b
  part-yields b hb =
      ⊎_elim
      (λ z. let e : at v b ≡ 0 = omega arith in rw e (omega (arith, mul-zero (g.p i b))))
      (λ z.
      let h = listed_has q b hb z in
      mul-le-mul_right (at v b) (subst (λ (c : ℕ). g.p i c ≤ g.p t c) h.2 (y.factors h.0 h.1)))
      (le_or_lt (at v b) 0)

  pub load_yields : load g i v ≤ load g t v
  unfolding load
  load_yields = sum_mono g.borders (λ b. g.p i b * at v b) (λ b. g.p t b * at v b) part-yields

  -- where no border takes more than `share` of row t, none takes more of row i
  pub most_yields : (share : ℕ) → ((b : ℕ) → b < g.borders → at v b * g.p t b ≤ share) → most_load g i v ≤ share
  unfolding most_load part
  most_yields share h =
      largest_under g.borders (part g i v) share (λ b hb. le_trans (part-yields b hb) (omega (arith, h b hb, mul_comm (g.p t b) (at v b))))

-- ---- whether row i yields to row t

-- at the first j listed borders row i's factors are no larger than row t's
pub record Lower (g : Grid) (list : List ℕ) (t i j : ℕ) : Type 0 where
  pub high : j ≤ length list
  pub factors : (j' : ℕ) → j' < j → g.p i (at list j') ≤ g.p t (at list j')

pub lower_none : (g : Grid) (list : List ℕ) (t i : ℕ) → Lower g list t i 0
lower_none g list t i = record { high = omega arith; factors = λ j' h. absurd (not-suc-le-zero h) }

module _ {g : Grid} {list : List ℕ} {t i j : ℕ} (u : Lower g list t i j) where
  pub lower_more : j < length list → (f f' : ℕ) → f ≡ g.p t (at list j) → f' ≡ g.p i (at list j) → f' ≤ f → Lower g list t i (j + 1)
  lower_more hj f f' e e' l =
      record { high = omega arith; factors = λ j' h. ⊎_elim (λ a. u.factors j' a) (λ y. rw y (omega arith)) (lt_suc_cases j' j (rw add-one at h)) }

  pub lower_all : {ns s : List ℕ} → Ready g ns s → t < g.rows → i < g.rows → length list ≤ j → at s t ≤ at s i → at ns i ≤ at ns t → Yields g s list t i
  lower_all r ht hi h m n =
      record {
        margin = m;
        share = omega (arith, ready_at r t ht, ready_at r i hi);
        factors = λ j' l. u.factors j' (omega arith);
      }

-- ---- listing row i

module _ {g : Grid} {s list : List ℕ} {near : List ℕ} {count i : ℕ} (inside : (j : ℕ) → j < count → at near j < i) where
  module _ (some : 0 < count) where
    -- the row yields to the first listed one, and the list stays
    pub placed_yields : Yields g s list (at near 0) i → Placed g s list near count i near count
    placed_yields y =
        record {
          long = refl;
          few = omega arith;
          inside = λ j h. omega (arith, inside j h);
          here = record { place = 0; before = some; yields = y };
          still = λ i' l. l;
        }

    -- the first listed row yields to this one, which takes its place
    pub placed_leads : 0 < length near → Yields g s list i (at near 0) → Placed g s list near count i (set near 0 i) count
    placed_leads room y =
        let first : at (set near 0 i) 0 ≡ i = get_or-set_same near 0 i 0 room in
        let there : (j : ℕ) → 0 < j → at (set near 0 i) j ≡ at near j = λ j h. get_or-set_other near 0 j i 0 (λ e. omega arith) in
        record {
          long = length-set near 0 i;
          few = omega arith;
          inside = λ j h. ⊎_elim (λ z. let e : j ≡ 0 = omega arith in rw e (omega (arith, first))) (λ z. omega (arith, there j z, inside j h)) (le_or_lt j 0);
          here = record { place = 0; before = some; yields = subst (λ (r : ℕ). Yields g s list r i) (sym first) (yields_self g s list i) };
          still = λ i' l.
              ⊎_elim
              (λ z.
              let e : l.place ≡ 0 = omega arith in
              record {
                place = 0;
                before = some;
                yields = subst (λ (r : ℕ). Yields g s list r i') (sym first) (yields_on y (subst (λ (j : ℕ). Yields g s list (at near j) i') e l.yields));
              })
              (λ z.
              record {
                place = l.place;
                before = l.before;
                yields = subst (λ (r : ℕ). Yields g s list r i') (sym (there l.place z)) l.yields;
              })
              (le_or_lt l.place 0);
        }

  pub placed_last : count < length near → (count' : ℕ) → count' ≡ count + 1 → Placed g s list near count i (set near count i) count'
  placed_last room count' e =
      let last : at (set near count i) count ≡ i = get_or-set_same near count i 0 room in
      let there : (j : ℕ) → j < count → at (set near count i) j ≡ at near j = λ j h. get_or-set_other near count j i 0 (λ y. omega arith) in
      record {
        long = length-set near count i;
        few = omega arith;
        inside = λ j h.
            ⊎_elim (λ a. omega (arith, there j a, inside j a)) (λ y. rw y (omega (arith, last))) (lt_suc_cases j count (omega (arith, add-one count)));
        here = record { place = count; before = omega arith; yields = subst (λ (r : ℕ). Yields g s list r i) (sym last) (yields_self g s list i) };
        still = λ i' l.
            record {
              place = l.place;
              before = omega (arith, l.before);
              yields = subst (λ (r : ℕ). Yields g s list r i') (sym (there l.place l.before)) l.yields;
            };
      }

  -- no row is listed yet, and this one becomes the first
  pub placed_first : count ≡ 0 → 0 < length near → Placed g s list near count i (set near 0 i) 1
  placed_first e room = subst (λ (k : ℕ). Placed g s list near count i (set near k i) 1) e (placed_last (omega arith) 1 (omega arith))
