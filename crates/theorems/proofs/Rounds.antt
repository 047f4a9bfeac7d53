-- What is proved of the rounds (01, "Extraction" and demand 3) beside what code needs, which is in crate rounds: for any rows, borders and factors p, any starting margins
-- and any starting exchanges. Limits are variables. `Rounds g s k t` says that k rounds that raise something lead from s to t, where the work ends.
use mathlib.Core.Path.{◌≡◌, subst}
use mathlib.Core.List.{List}
use mathlib.Core.Logic.{⊎_elim}
use Prim.Native.Nat.{ℕ, ◌+◌, ◌*◌, ◌/◌, ◌^◌, ◌≤◌, ◌<◌}
use native.Mathlib.Nat.{le_trans, mul-le-mul_right, mul-le-mul_left, div-one}
use native.Mathlib.Omega.{arith}
use lib.Pow.{pow_pos}
use Rattle.numbers.specs.Below.{at}
use Rattle.numbers.proofs.BelowLaws.{largest_under, count_le}
use Rattle.rounds.specs.Rounds.{Grid, State, sharers, raise, raises, load, next, most_sharers, Rounds}
use Rattle.rounds.proofs.LeastLaws.{Smallest, least_some}
use Rattle.rounds.proofs.Halving.{Falls, stop, step}
use Rattle.rounds.proofs.Round as one
use Rattle.rounds.proofs.Rounds as all
use Rattle.rounds.proofs.Rounds.{Faller}

-- ---- a round

-- margins never go below 0: what a round takes from a row is within its margin
pub loss_within_margin : (g : Grid) (m : List ℕ) (i : ℕ) → i < g.rows → load g i (raises g m) ≤ at m i
loss_within_margin = one.load_fits

-- what a row loses is the sum of p times raise, and it keeps the rest
pub margin_less_loss : (g : Grid) (s : State) (i : ℕ) → i < g.rows → at (next g s).margins i + load g i (raises g s.margins) ≡ at s.margins i
margin_less_loss = one.next_margin

-- raises of a border never grow from round to round
pub raises_never_grow : (g : Grid) (s : State) (b : ℕ) → raise g (next g s).margins b ≤ raise g s.margins b
raises_never_grow = one.raise_falls

-- ---- the whole work

-- the work ends in one way: no other rounds and no other state
pub unique : {g : Grid} {s t t' : State} {k k' : ℕ} → Rounds g s k t → Rounds g s k' t' → (k' ≡ k) × (t' ≡ t)
unique = all.unique

-- at the end each border that some row loads has a row that stops it: its share is under 1 kW, and is the smallest
pub stopped : {g : Grid} {s t : State} {k : ℕ} → Rounds g s k t → (i b : ℕ) → i < g.rows → b < g.borders → 0 < g.p i b → Smallest g.rows (λ i. g.p i b) (λ i. at t.margins i / sharers g i / g.p i b) 0
unfolding raise
stopped {g} {s} {t} w i b hi hb hp =
    subst (λ (v : ℕ). Smallest g.rows (λ i. g.p i b) (λ i. at t.margins i / sharers g i / g.p i b) v) (all.ended_at_lem w b hb)
    (least_some g.rows (λ i. g.p i b) (λ i. at t.margins i / sharers g i / g.p i b) i hi hp)

-- with at most B borders and margins under 2^E there are at most 2 B E rounds (64 and 48: 6,144)
pub most_rounds : {g : Grid} {s t : State} {k : ℕ} → Rounds g s k t → (B E : ℕ) → g.borders ≤ B → ((i : ℕ) → i < g.rows → at s.margins i < 2 ^ E) → k ≤ 2 * B * E
unfolding most_sharers sharers
most_rounds {g} {s} w B E hb hm =
    le_trans
    (all.rounds_bound w E (λ b h. one.alone_lt g s.margins b (2 ^ E) (pow_pos E) hm))
    (mul-le-mul_right E (mul-le-mul_left 2 (largest_under g.rows (sharers g) B (λ i h. le_trans (count_le g.borders (g.p i)) hb))))

-- a number that falls by all of itself falls once
falls_once : (N : ℕ) → N ≤ 1 → 0 < N → {a k : ℕ} → Falls N a k → k ≤ 1
falls_once N h z stop = omega arith
falls_once N h z (step a v e q l stop) = omega arith
falls_once N h z (step {a = c} a v e q l (step a' v' e' q' l' f)) =
    let n : N ≡ 1 = omega arith in
    let d : c / 1 ≤ v = rw n at q in
    omega (arith, div-one c)

-- where no row shares among more than one border, there is at most one round
pub shared_once : {g : Grid} {s t : State} {k : ℕ} → Rounds g s k t → most_sharers g ≤ 1 → k ≤ 1
shared_once {g} {s} w h =
    ⊎_elim
    (λ z. omega arith)
    (λ (f : Faller g s _). falls_once (most_sharers g) h (one.sharers_pos g s.margins f.b f.below f.raised) f.falls)
    (all.faller w)

-- one border alone: 0 rounds or 1, whatever the rows
one_sharer : (g : Grid) → g.borders ≡ 1 → (i : ℕ) → sharers g i ≤ 1
unfolding sharers
one_sharer g e i = omega (arith, count_le g.borders (g.p i))

pub one_border : {g : Grid} {s t : State} {k : ℕ} → Rounds g s k t → g.borders ≡ 1 → k ≤ 1
unfolding most_sharers
one_border {g} w e = shared_once w (largest_under g.rows (sharers g) 1 (λ i h. one_sharer g e i))
