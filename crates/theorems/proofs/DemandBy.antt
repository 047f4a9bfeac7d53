-- What demand 3 of a table takes from its setup, whichever rows take part, whichever borders may rise, and from any margins. It follows from demand 3 over natural numbers
-- (crate rounds), which knows of no border that is not marked. And the most rounds, by how large the starting margins are. No contract cites this file.
-- p splits in two: at marked borders it is the grid's, and the other borders stay where they start, so that they carry no more than they did.
use mathlib.Core.Path.{◌≡◌, refl, sym, ap, ◌∙◌}
use mathlib.Core.Bool.{Bool, true, false, cond}
use mathlib.Core.List.{List}
use Prim.Native.Nat.{ℕ, ◌+◌, ◌*◌, ◌-◌, ◌^◌, ◌≤◌, ◌<◌}
use native.Mathlib.Nat.{mul-le-mul_left, sub_self, mul-zero, zero-mul}
use native.Mathlib.Omega.{arith}
use Rattle.numbers.specs.Ints.{positive_part}
use Rattle.numbers.specs.Below.{at, sum}
use Rattle.numbers.proofs.BelowLaws.{sum_cong, sum_mono, sum_add, table_get}
use Rattle.rounds.specs.Rounds.{Grid, State, load, Outcome}
use Rattle.rounds.proofs.Rounds.{extracts}
use Rattle.rounds.proofs.Theorems.{extract_demand3}
use Rattle.theorems.proofs.Rounds.{most_rounds}
use Rattle.setup.specs.Setup.{Setup, grid_by, begin_by, end_by}
use Rattle.extractrules.proofs.AcceptedLaws.{part_le_whole}
use Rattle.theorems.proofs.SetupLaws.{margin_at_lem, from_at, p_marked, p_unmarked, unloaded_stays}

-- row i's load from exchanges v, over all borders, marked or not
abbrev pub load_by : Setup → (i : ℕ) → (v : ℕ → ℕ) → ℕ
load_by s i v = sum s.borders (λ b. s.p i b * v b)

module _ (s : Setup) where
  abbrev g : Grid
  g = grid_by s

  abbrev start : State
  start = begin_by s

  abbrev end : Outcome
  end = end_by s

  -- no border fell, and one that is not marked stays where it started
  pub rises : (b : ℕ) → b < s.borders → s.from b ≤ at end.state.x b
  unfolding end_by grid_by
  rises b h = omega (arith, (extract_demand3 g start).rose b h, from_at s b h)

  pub stays : (b : ℕ) → b < s.borders → s.marked b ≡ false → at end.state.x b ≡ s.from b
  unfolding end_by grid_by
  stays b h m = unloaded_stays (extracts g start) b h (λ r l. p_unmarked s r b m) ∙ from_at s b h

  -- p of a border that is not marked, and else 0
  abbrev rest : (i b : ℕ) → ℕ
  rest i b = cond (s.marked b) 0 (s.p i b)

  module _ (i : ℕ) (k : s.takes i ≡ true) where
    split : (b v : ℕ) → s.p i b * v ≡ g.p i b * v + rest i b * v
    split b v = go (s.marked b) refl
      where
        go : (m : Bool) → s.marked b ≡ m → s.p i b * v ≡ g.p i b * v + cond (s.marked b) 0 (s.p i b) * v
        go true e = rw (p_marked s i b k e, e) (omega (arith, zero-mul v))
        go false e = rw (p_unmarked s i b e, e) (omega (arith, zero-mul v))

    -- the load over all borders is that over the marked ones, and that over the others
    load_split : (v : ℕ → ℕ) → load_by s i v ≡ sum s.borders (λ b. g.p i b * v b) + sum s.borders (λ b. rest i b * v b)
    load_split v = sum_cong s.borders _ _ (λ b h. split b (v b)) ∙ sum_add s.borders (λ b. g.p i b * v b) (λ b. rest i b * v b)

    -- the others carry no more than they did at the start
    rest_le : (e : List ℕ) → ((b : ℕ) → b < s.borders → at e b ≤ at end.state.x b) → sum s.borders (λ b. rest i b * at e b) ≤ sum s.borders (λ b. rest i b * s.from b)
    rest_le e h = sum_mono s.borders _ _ (λ b l. go b l (s.marked b) refl)
      where
        go : (b : ℕ) → b < s.borders → (m : Bool) → s.marked b ≡ m → cond (s.marked b) 0 (s.p i b) * at e b ≤ cond (s.marked b) 0 (s.p i b) * s.from b
        go b l true q = rw q (omega (arith, zero-mul (at e b)))
        go b l false q = mul-le-mul_left (cond (s.marked b) 0 (s.p i b)) (omega (arith, h b l, stays b l q))

    start-load : sum s.borders (λ b. g.p i b * at start.x b) ≡ sum s.borders (λ b. g.p i b * s.from b)
    start-load = sum_cong s.borders _ _ (λ b h. ap (λ (x : ℕ). g.p i b * x) (from_at s b h))

    -- any exchanges from zero up to the final ones load a row that takes part within its margin and its load at the start
    pub within_all : (e : List ℕ) → ((b : ℕ) → b < s.borders → at e b ≤ at end.state.x b) → i < s.rows → load_by s i (at e) ≤ positive_part (s.margin i) + load_by s i s.from
    unfolding end_by grid_by load
    within_all e h hi =
        let u : sum s.borders (λ b. g.p i b * at e b) ≤ at start.margins i + sum s.borders (λ b. g.p i b * at start.x b) = (extract_demand3 g start).within e h i hi in
        omega (arith, u, load_split (at e), load_split s.from, rest_le e h, start-load, margin_at_lem s i hi k)

    rise-same : (b : ℕ) → b < s.borders → g.p i b * (at end.state.x b - at start.x b) ≡ s.p i b * (at end.state.x b - s.from b)
    rise-same b h = go (s.marked b) refl
      where
        go : (m : Bool) → s.marked b ≡ m → g.p i b * (at end.state.x b - at start.x b) ≡ s.p i b * (at end.state.x b - s.from b)
        go true e = rw (p_marked s i b k e, from_at s b h)
        go false e = rw (p_unmarked s i b e, stays b h e, sub_self (s.from b)) (omega (arith, zero-mul (s.from b - at start.x b), mul-zero (s.p i b)))

    -- what it lost is the sum of p times what each border rose by
    pub lost_all : i < s.rows → at end.state.margins i + sum s.borders (λ b. s.p i b * (at end.state.x b - s.from b)) ≡ positive_part (s.margin i)
    unfolding end_by grid_by
    lost_all hi =
        ap (λ (v : ℕ). at end.state.margins i + v) (sym (sum_cong s.borders _ _ rise-same))
        ∙ (extract_demand3 g start).lost i hi ∙ margin_at_lem s i hi k

-- starting margins under 2^E: at most 2 B E rounds, in any profile
pub setup_rounds : (s : Setup) (B E : ℕ) → s.borders ≤ B → ((i : ℕ) → i < s.rows → positive_part (s.margin i) < 2 ^ E) → (end_by s).rounds ≤ 2 * B * E
unfolding end_by grid_by begin_by
setup_rounds s B E few small = most_rounds (extracts (grid_by s) (begin_by s)) B E few under
  where
    under : (i : ℕ) → i < s.rows → at (begin_by s).margins i < 2 ^ E
    under i h =
        omega (
          arith,
          table_get s.rows (λ i. cond (s.takes i) (positive_part (s.margin i)) 0) i 0 h,
          part_le_whole (s.takes i) (positive_part (s.margin i)),
          small i h,
        )
