-- The laws of `Listed` (specs/Walk.antt), the list of the borders that still rise: the list of all, what it holds, and that it serves caps that fell.
-- To raise the listed borders is to raise all (`taken-all`).
-- Proofs cite it here and in roundloop. No contract cites this file.
use mathlib.Core.Path.{◌≡◌, refl, sym, ap, ◌∙◌}
use mathlib.Core.List.{List}
use mathlib.Core.Logic.{⊎_elim}
use Prim.Native.Nat.{ℕ, zero, suc, ◌+◌, ◌-◌, ◌≤◌, ◌<◌}
use native.Mathlib.Nat.{not-suc-le-zero}
use native.Mathlib.Numerals.{add-one}
use native.Mathlib.Omega.{arith}
use lib.ListN.{length}
use Rattle.numbers.specs.Below.{at, if_zero, sum, table}
use Rattle.numbers.proofs.BelowLaws.{lt_suc_cases, le_or_lt, sum_cong, sum_term, sum_part, sum_some, table_long, table_get}
use Rattle.walk.specs.Walk.{Listed}

-- `a` at b alone
unfoldable pub only : (a b c : ℕ) → ℕ
only a b c = if_zero (b - c + (c - b)) a 0

only_here : (a b : ℕ) → only a b b ≡ a
unfolding only if_zero
only_here a b = let z : b - b + (b - b) ≡ 0 = omega arith in rw z refl

only_zero : (a b c : ℕ) → (b ≡ c → a ≡ 0) → only a b c ≡ 0
unfolding only if_zero
only_zero a b c h = go (b - c + (c - b)) refl
  where
    go : (d : ℕ) → b - c + (c - b) ≡ d → if_zero d a 0 ≡ 0
    go zero e = h (omega arith)
    go (suc d) e = refl

only_pos : (a b c : ℕ) → 0 < only a b c → c ≡ b
unfolding only if_zero
only_pos a b c = go (b - c + (c - b)) refl
  where
    go : (d : ℕ) → b - c + (c - b) ≡ d → 0 < if_zero d a 0 → c ≡ b
    go zero e h = omega arith
    go (suc d) e h = absurd (not-suc-le-zero h)

-- all borders
pub listed_all : (borders : ℕ) (v list : List ℕ) → list ≡ table borders (λ b. b) → Listed borders v list
listed_all borders v list e =
    let long : length list ≡ borders = ap length e ∙ table_long borders (λ (b : ℕ). b) in
    let here : (j : ℕ) → j < borders → at list j ≡ j = λ j h. ap (λ (l : List ℕ). at l j) e ∙ table_get borders (λ b. b) j 0 h in
    record {
      inside = λ j h. omega (arith, long, here j (omega arith));
      adds = λ w z. rw long (sum_cong borders (λ j. w (at list j)) w (λ j h. ap w (here j h)));
    }

module _ {borders : ℕ} {v list : List ℕ} (q : Listed borders v list) where
  -- a border above 0 is listed
  pub listed_has : (b : ℕ) → b < borders → 0 < at v b → (j : ℕ) × (j < length list) × (at list j ≡ b)
  listed_has b hb h =
      let w : ℕ → ℕ = only (at v b) b in
      let e : sum (length list) (λ j. w (at list j)) ≡ sum borders w = q.adds w (λ c hc z. only_zero (at v b) b c (λ y. ap (at v) y ∙ z)) in
      let t : w b ≤ sum borders w = sum_term borders w b hb in
      let s = sum_some (length list) (λ j. w (at list j)) (omega (arith, only_here (at v b) b)) in
      (s.0, s.1, only_pos (at v b) b (at list s.0) s.2)

  -- the list also serves caps that are 0 wherever v is
  pub listed_zero : (v' : List ℕ) → ((b : ℕ) → b < borders → at v b ≡ 0 → at v' b ≡ 0) → Listed borders v' list
  listed_zero v' h = record { inside = q.inside; adds = λ w z. q.adds w (λ b hb e. z b hb (h b hb e)) }

  pub listed_less : (v' : List ℕ) → ((b : ℕ) → b < borders → at v' b ≤ at v b) → Listed borders v' list
  listed_less v' h = listed_zero v' (λ b hb e. omega (arith, h b hb))

-- ---- raising the listed borders

sum_none : (n : ℕ) (f : ℕ → ℕ) → ((i : ℕ) → i < n → f i ≡ 0) → sum n f ≡ 0
sum_none n f h = ⊎_elim (λ z. omega arith) (λ z. let s = sum_some n f z in omega (arith, s.2, h s.0 s.1)) (le_or_lt (sum n f) 0)

sum_only : (n a b : ℕ) → b < n → sum n (only a b) ≡ a
unfolding sum
sum_only zero a b h = absurd (not-suc-le-zero h)
sum_only (suc n) a b h =
    ⊎_elim
    (λ l. omega (arith, sum_only n a b l, only_zero a b n (λ y. absurd-lt y l)))
    (λ y. omega (arith, sum_none n (only a b) (λ i hi. only_zero a b i (λ e. absurd-lt (sym e ∙ y) hi)), ap (only a b) (sym y), only_here a b))
    (lt_suc_cases b n h)
  where
    absurd-lt : {A : Type 0} {m k : ℕ} → m ≡ k → m < k → A
    absurd-lt e l = let z : ⊥ = omega arith in absurd z

-- what border b took by v at the first j listed
unfoldable pub taken : (v list : List ℕ) (j b : ℕ) → ℕ
taken v list j b = sum j (λ j'. only (at v b) b (at list j'))

pub taken_none : (v list : List ℕ) (b : ℕ) → taken v list 0 b ≡ 0
unfolding taken sum
taken_none v list b = refl

taken_next : (v list : List ℕ) (j b : ℕ) → taken v list (j + 1) b ≡ taken v list j b + only (at v b) b (at list j)
unfolding taken sum
taken_next v list j b = rw (add-one j) refl

-- a border that is listed next takes v there
pub taken_here : (v list : List ℕ) (j b : ℕ) → at list j ≡ b → taken v list (j + 1) b ≡ taken v list j b + at v b
taken_here v list j b e = taken_next v list j b ∙ ap (λ (k : ℕ). taken v list j b + k) (ap (only (at v b) b) e ∙ only_here (at v b) b)

-- a border that is not listed next takes nothing there
pub taken_there : (v list : List ℕ) (j b : ℕ) → (b ≡ at list j → ⊥) → taken v list (j + 1) b ≡ taken v list j b
taken_there v list j b other = omega (arith, taken_next v list j b, only_zero (at v b) b (at list j) (λ e. absurd (other e)))

module _ {borders : ℕ} {v list : List ℕ} (q : Listed borders v list) (b : ℕ) (hb : b < borders) where
  -- at the end of the list each border has taken v
  pub taken_all : taken v list (length list) b ≡ at v b
  unfolding taken
  taken_all = q.adds (only (at v b) b) (λ c hc z. only_zero (at v b) b c (λ y. ap (at v) y ∙ z)) ∙ sum_only borders (at v b) b hb

  -- no border takes more than v on the way
  pub taken_under : (j : ℕ) → j < length list → taken v list (j + 1) b ≤ at v b
  unfolding taken
  taken_under j hj = omega (arith, taken_all, taken_next v list j b, sum_part (length list) (λ j'. only (at v b) b (at list j')) j hj)
