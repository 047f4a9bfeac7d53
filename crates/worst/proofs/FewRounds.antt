-- The rounds are at most `tight_bound`, for any grid and any start; and how large it can be. That it is never above 2 N L is `tight-le` in crate tightrules.
-- A border that rises in the last counted round rises in each, for raises never grow. What it still rises by, and 1 kW for each of a row's other sharers, is within the row's
-- quotient of margin and p. So the row that sets its raise gives it an equal share, rounded up, of what it still rises by, and what is left is within the cut (`Remains`).
use mathlib.Core.Path.{◌≡◌, refl}
use mathlib.Core.List.{List}
use mathlib.Core.Logic.{◌⊎◌, inl, inr, ⊎_elim}
use Prim.Native.Nat.{ℕ, zero, suc, ◌+◌, ◌*◌, ◌-◌, ◌/◌, ◌≤◌, ◌<◌}
use native.Mathlib.Nat.{le_refl, le_trans, suc-mul, mul-suc, le-div_iff_mul-le}
use native.Mathlib.Omega.{arith}
use Rattle.numbers.specs.Below.{at}
use Rattle.numbers.proofs.BelowLaws.{count_some, count_pos, largest_le, largest_under, le_or_lt}
use Rattle.rounds.specs.Rounds.{Grid, State, sharers, raise, next, raised, most_sharers, Rounds, done, more, extract}
use Rattle.rounds.proofs.LeastLaws.{least_some, least_one, div_mono, div_swap}
use Rattle.rounds.proofs.Round.{raise_le, raiser, sharers_pos, raise_falls, quotient_falls}
use Rattle.rounds.proofs.Theorems.{extracts}
use Rattle.tightrules.specs.Tight.{equal_share_up, steps, row_reach, reach, farthest, tight_bound}
use Rattle.tightrules.proofs.BitsLaws.{sharers_few}
use Rattle.tightrules.proofs.SharperLaws.{no_sharers}
use Rattle.worst.proofs.StepOrder.{equal_share_up_anti, cut_over, steps_mono, steps_more}

-- every row that loads border b has room for u, and for 1 kW for each of its other sharers
abbrev Room : Grid → (m : List ℕ) (b u : ℕ) → Type 0
Room g m b u = (i : ℕ) → i < g.rows → 0 < g.p i b → u + (sharers g i - 1) ≤ at m i / g.p i b

-- ---- a round
module _ (g : Grid) (s : State) (b : ℕ) (hb : b < g.borders) where
  shares : (i : ℕ) → 0 < g.p i b → 0 < sharers g i
  unfolding sharers
  shares i hp = count_pos g.borders (g.p i) b hb hp

  -- there is room for the raise: n times the raise is at most the row's quotient of margin and p
  raise-room : 0 < raise g s.margins b → Room g s.margins b (raise g s.margins b)
  raise-room l i hi hp =
      let n : 0 < sharers g i = shares i hp in
      let r : raise g s.margins b ≤ at s.margins i / g.p i b / sharers g i = rw (← div_swap (at s.margins i) (sharers g i) (g.p i b)) (raise_le g s.margins i b hi hp) in
      le_trans (over (raise g s.margins b) (sharers g i) l n) ((le-div_iff_mul-le n).0 r)
    where
      over : (r n : ℕ) → 0 < r → 0 < n → r + (n - 1) ≤ r * n
      over zero n z y = absurd (omega arith)
      over (suc r) zero z y = absurd (omega arith)
      over (suc r) (suc n) z y = omega (arith, suc-mul r (suc n), mul-suc r n)

  -- the raise is at least the share, rounded up, of what there is room for
  raise-over : 0 < raise g s.margins b → (u : ℕ) → Room g s.margins b u → equal_share_up (most_sharers g) u ≤ raise g s.margins b
  unfolding most_sharers equal_share_up
  raise-over l u room =
      let q = raiser g s.margins b l in
      let i : ℕ = q.i in
      let n : sharers g i ≤ most_sharers g = largest_le g.rows (sharers g) i q.below in
      let d : equal_share_up (sharers g i) u ≤ at s.margins i / g.p i b / sharers g i = div_mono (sharers g i) (room i q.below q.counts) in
      omega (arith, equal_share_up_anti u (shares i q.counts) n, div_swap (at s.margins i) (sharers g i) (g.p i b), q.is)

-- ---- all rounds

-- a border that is raised in each of k rounds, and what it rises by in all of them
record Remains (g : Grid) (s : State) (k : ℕ) : Type 0 where
  b : ℕ
  below : b < g.borders
  raised : 0 < raise g s.margins b
  rest : ℕ
  room : Room g s.margins b rest
  few : k ≤ steps (most_sharers g) rest

module _ (g : Grid) where
  -- one round before those that raise it by `rest`
  one_more_lem : (s : State) (k b : ℕ) → b < g.borders → 0 < raise g s.margins b → (rest : ℕ) → Room g s.margins b (rest + raise g s.margins b) → k ≤ steps (most_sharers g) rest → Remains g s (suc k)
  one_more_lem s k b hb l rest room few =
      let v : ℕ = raise g s.margins b in
      let N : ℕ = most_sharers g in
      record {
        b = b;
        below = hb;
        raised = l;
        rest = rest + v;
        room = room;
        few = steps_more N (rest + v) (sharers_pos g s.margins b hb l) (omega arith) (cut_over N rest v (raise-over g s b hb l (rest + v) room)) few;
      }

  remains : {s t : State} {k : ℕ} → Rounds g s k t → (k ≡ 0) ⊎ Remains g s k
  unfolding raised
  remains (done e) = inl refl
  remains (more {s = s} {k = k} l w) =
      inr
      (⊎_elim
      (λ z.
      let b = count_some g.borders (raise g s.margins) l in
      one_more_lem s k b.0 b.1 b.2 0 (λ i hi hp. omega (arith, raise-room g s b.0 b.1 b.2 i hi hp)) (omega arith))
      (λ (f : Remains g (next g s) k).
      one_more_lem s k f.b f.below (le_trans f.raised (raise_falls g s f.b)) f.rest
      (λ i hi hp. omega (arith, f.room i hi hp, quotient_falls g s i f.b hi f.below hp))
      f.few)
      (remains w))

-- what there is room for is within the reach
reach_over : (g : Grid) (m : List ℕ) (b u : ℕ) → 0 < raise g m b → Room g m b u → u ≤ reach g m b
unfolding reach row_reach
reach_over g m b u l room =
    let q = raiser g m b l in
    let s = least_some g.rows (λ i. g.p i b) (row_reach g m b) q.i q.below q.counts in
    omega (arith, s.is, room s.i s.below s.counts)

-- ---- the bound

-- rounds are at most the steps of U by N
pub few_rounds : {g : Grid} {s t : State} {k : ℕ} → Rounds g s k t → k ≤ tight_bound g s.margins
unfolding tight_bound farthest
few_rounds {g} {s} {t} {k} w =
    ⊎_elim
    (λ z. omega arith)
    (λ (f : Remains g s k).
    le_trans f.few
    (steps_mono (sharers_pos g s.margins f.b f.below f.raised) (le_refl (most_sharers g))
    (le_trans (reach_over g s.margins f.b f.rest f.raised f.room) (largest_le g.borders (reach g s.margins) f.b f.below))))
    (remains g w)

pub extract_few : (g : Grid) (s : State) → (extract g s).rounds ≤ tight_bound g s.margins
extract_few g s = few_rounds (extracts g s)

-- ---- of any grid

-- where no quotient of margin and p is above U, no reach is
pub reach_under : (g : Grid) (m : List ℕ) (b U : ℕ) → ((i : ℕ) → i < g.rows → 0 < g.p i b → at m i / g.p i b ≤ U) → reach g m b ≤ U
unfolding reach row_reach
reach_under g m b U h =
    ⊎_elim
    (λ z. omega arith)
    (λ z. let s = least_one g.rows (λ i. g.p i b) (row_reach g m b) z in omega (arith, s.is, h s.i s.below s.counts))
    (le_or_lt (reach g m b) 0)

-- with at most B borders, and no reach above U, the bound is at most the steps of U by B
pub tight_within : (g : Grid) (m : List ℕ) (B U : ℕ) → g.borders ≤ B → ((b : ℕ) → b < g.borders → reach g m b ≤ U) → tight_bound g m ≤ steps B U
unfolding tight_bound farthest
tight_within g m B U few under =
    ⊎_elim
    (λ z. omega (arith, no_sharers g m z))
    (λ z. steps_mono z (le_trans (sharers_few g) few) (largest_under g.borders (reach g m) U under))
    (le_or_lt (most_sharers g) 0)
