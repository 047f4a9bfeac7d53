-- The loop over the listed borders that tightens their caps (`Lowering` is its invariant). No contract cites this file.
use mathlib.Core.Path.{◌≡◌, refl, sym, ap, ◌∙◌}
use mathlib.Core.List.{List}
use mathlib.Core.Logic.{⊎_elim}
use Prim.Native.Nat.{ℕ, ◌+◌, ◌≤◌, ◌<◌}
use native.Mathlib.Nat.{not-suc-le-zero, le_antisymm, le_refl}
use native.Mathlib.Numerals.{add-one}
use native.Mathlib.Omega.{arith}
use lib.ListN.{length, set, length-set}
use lib.Seq.{get_or-set_same, get_or-set_other}
use Rattle.numbers.specs.Below.{at, table}
use Rattle.numbers.proofs.BelowLaws.{lt_suc_cases, le_or_lt, table_of}
use Rattle.rounds.specs.Rounds.{Grid}
use Rattle.caps.specs.Tight.{tight}
use Rattle.caps.proofs.TightLaws.{tight_le, tight_again}
use Rattle.walk.specs.Walk.{Listed, tightened}
use Rattle.walk.proofs.ListedLaws.{listed_has}

-- each cap lies between its old and its final value, and the first j listed caps are final
pub record Lowering (g : Grid) (i share : ℕ) (list : List ℕ) (v₀ v : List ℕ) (j : ℕ) : Type 0 where
  pub high : j ≤ length list
  pub long : length v ≡ length v₀
  pub over : (b : ℕ) → tightened g i share v₀ b ≤ at v b
  pub under : (b : ℕ) → at v b ≤ at v₀ b
  pub done : (j' : ℕ) → j' < j → at v (at list j') ≡ tightened g i share v₀ (at list j')

pub lowering_none : (g : Grid) (i share : ℕ) (list : List ℕ) (v : List ℕ) → Lowering g i share list v v 0
unfolding tightened
lowering_none g i share list v =
    record {
      high = omega arith;
      long = refl;
      over = λ b. tight_le (g.p i b) share (at v b);
      under = λ b. le_refl (at v b);
      done = λ j' h. absurd (not-suc-le-zero h);
    }

module _ {g : Grid} {i share : ℕ} {list : List ℕ} {v₀ v : List ℕ} {j : ℕ} (q : Listed g.borders v₀ list) (l : length v₀ ≡ g.borders) (u : Lowering g i share list v₀ v j) where
  module _ (hj : j < length list) where
    pub lowering_here : at list j < length v
    lowering_here = omega (arith, q.inside j hj, u.long)

    pub lowering_more : (f w : ℕ) → f ≡ g.p i (at list j) → w ≡ tight f share (at v (at list j)) → Lowering g i share list v₀ (set v (at list j) w) (j + 1)
    unfolding tightened
    lowering_more f w e ew =
        let b : ℕ = at list j in
        let is : w ≡ tight (g.p i b) share (at v₀ b) =
        ew ∙ ap (λ (k : ℕ). tight k share (at v b)) e ∙ tight_again (g.p i b) share (at v₀ b) (at v b) (u.over b) (u.under b) in
        let here : at (set v b w) b ≡ w = get_or-set_same v b w 0 lowering_here in
        let there : (c : ℕ) → (c ≡ b → ⊥) → at (set v b w) c ≡ at v c = λ c no. get_or-set_other v b c w 0 (λ y. no (omega arith)) in
        record {
          high = omega arith;
          long = simp length-set u.long;
          over = λ c. cases c b (λ y. rw y (omega (arith, here, is))) (λ no. omega (arith, there c no, u.over c));
          under = λ c. cases c b (λ y. rw y (omega (arith, here, is, tight_le (g.p i b) share (at v₀ b)))) (λ no. omega (arith, there c no, u.under c));
          done = λ j' h.
              cases (at list j') b
              (λ y. rw y (here ∙ is))
              (λ no. there (at list j') no ∙ ⊎_elim (λ a. u.done j' a) (λ y. absurd (no (ap (at list) y))) (lt_suc_cases j' j (rw add-one at h)));
        }
      where
        cases : {A : Type 0} (c b : ℕ) → (c ≡ b → A) → ((c ≡ b → ⊥) → A) → A
        cases c b same other = ⊎_elim (λ h. ⊎_elim (λ k. same (le_antisymm h k)) (λ k. other (λ y. omega arith)) (le_or_lt b c)) (λ k. other (λ y. omega arith)) (le_or_lt c b)

  pub lowering_all : length list ≤ j → v ≡ table g.borders (tightened g i share v₀)
  unfolding tightened
  lowering_all h =
      table_of g.borders (tightened g i share v₀) v 0 (u.long ∙ l)
      (λ b hb.
      ⊎_elim
      (λ z. omega (arith, u.under b, u.over b, tight_le (g.p i b) share (at v₀ b)))
      (λ z. let s = listed_has q b hb z in ap (at v) (sym s.2) ∙ u.done s.0 (omega (arith, s.1)) ∙ ap (tightened g i share v₀) s.2)
      (le_or_lt (at v₀ b) 0))
