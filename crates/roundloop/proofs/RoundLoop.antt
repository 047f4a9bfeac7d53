-- The round loop: what holds at its head, and what a turn needs once the raises are found.
-- A turn is a round of the definition (`turn-next`); the loop is left where a round raises nothing (`turn_end`). The measure is the margins' sum.
-- No contract cites this file.
use mathlib.Core.Path.{◌≡◌, refl, sym, ap, ap₂, ◌∙◌, subst}
use mathlib.Core.List.{List, ◌++◌}
use Prim.Native.Nat.{ℕ, suc, ◌+◌, ◌*◌, ◌^◌, ◌≤◌, ◌<◌}
use native.Mathlib.Nat.{le_trans, zero-add, add-zero, mul-le-mul_right, one-mul}
use native.Mathlib.Numerals.{add-one}
use native.Mathlib.Omega.{arith}
use lib.ListN.{length, take, drop, take-append-drop}
use lib.Seq.{length-take-le, length_front, take_at, drop_at, get_or-take}
use Rattle.numbers.specs.Below.{if_zero, sum, count, table, at, over}
use Rattle.numbers.proofs.BelowLaws.{sum_cong, sum_term, count_pos, table_long, table_get, table_cong}
use Rattle.rounds.specs.Rounds.{Grid, State, raise, raises, load, lowered, risen, apply, next, raised, Rounds, done, more}
use Rattle.rounds.specs.Last.{after, raise_in, last_to, last_round}
use Rattle.rounds.specs.AllRounds.{Startable, noted, work_left, state_from, left_by, work_of}
use Rattle.rounds.proofs.Round.{raises_at, raises_long, raises_are, raiser, alone_lt, next_sum, next_x}
use Rattle.rounds.proofs.Rounds.{keeps, extracts, unique, rounds_below}
use Rattle.raising.specs.Raising.{Fits}

-- ---- what is reached after d rounds

-- each border's last of the first k rounds
abbrev lasts_to : Grid → State → (k : ℕ) → List ℕ
lasts_to g s k = table g.borders (λ b. last_to g s b k)

-- d rounds that raised something lead from s₀ to s: whatever is done from s is done from s₀ with d more, and s is where the rules stand after d rounds
pub record Reached (g : Grid) (s₀ : State) (d : ℕ) (s : State) : Type 0 where
  pub on : (k : ℕ) (t : State) → Rounds g s k t → Rounds g s₀ (d + k) t
  pub stands : after g s₀ d ≡ s

reached_none : (g : Grid) (s : State) → Reached g s 0 s
unfolding after
reached_none g s = record { on = λ k t w. rw zero-add w; stands = refl }

module _ {g : Grid} {s₀ s : State} {d : ℕ} (q : Reached g s₀ d s) where
  reached-more : 0 < raised g s → Reached g s₀ (d + 1) (next g s)
  unfolding after
  reached-more l =
      record {
        on = λ k t w.
            let e : d + suc k ≡ d + 1 + k = omega arith in
            subst (λ (j : ℕ). Rounds g s₀ j t) e (q.on (suc k) t (more l w));
        stands = rw (add-one d) (ap (next g) q.stands);
      }

  -- the last rounds to d, with the raises of the next noted, are those to d + 1
  noted_more : {v lasts : List ℕ} → v ≡ raises g s.margins → lasts ≡ lasts_to g s₀ d → table g.borders (noted (d + 1) v lasts) ≡ lasts_to g s₀ (d + 1)
  unfolding noted last_to raise_in
  noted_more {v} {lasts} ev el =
      rw (add-one d)
      (table_cong g.borders _ _
      (λ b hb.
      ap₂ (λ (r l : ℕ). if_zero r l (suc d))
      (raises_are g s.margins ev b hb ∙ ap (λ (t : State). raise g t.margins b) (sym q.stands))
      (ap (λ (l : List ℕ). at l b) el ∙ table_get g.borders (λ b. last_to g s₀ b d) b 0 hb)))

  reached-end : raised g s ≡ 0 → Rounds g s₀ d s
  reached-end z = subst (λ (j : ℕ). Rounds g s₀ j s) (add-zero d) (q.on 0 s (done z))

  reached-keeps : (i : ℕ) → i < g.rows → at s.margins i + load g i s.x ≡ at s₀.margins i + load g i s₀.x
  reached-keeps i h = let w = extracts g s in sym (keeps w i h) ∙ keeps (q.on _ _ w) i h

  -- rounds are fewer than c where all margins are under c
  reached-few : (c : ℕ) → 0 < c → ((i : ℕ) → i < g.rows → at s₀.margins i < c) → d < c
  reached-few c z h = omega (arith, rounds_below (q.on _ _ (extracts g s)) c z (λ b hb. alone_lt g s₀.margins b c z h))

-- an exchange is within the load of a row that it loads
pub x_le_load : (g : Grid) (x : List ℕ) (i b : ℕ) → b < g.borders → 0 < g.p i b → at x b ≤ load g i x
unfolding load
x_le_load g x i b hb hp =
    le_trans (omega (arith, mul-le-mul_right (at x b) hp, one-mul (at x b))) (sum_term g.borders (λ b. g.p i b * at x b) b hb)

-- an exchange that has risen is under c where margin and load of each row together are under c at the start
x_fits : {g : Grid} {s₀ s : State} {d : ℕ} → Reached g s₀ d s → (c : ℕ) → ((i : ℕ) → i < g.rows → at s₀.margins i + load g i s₀.x < c) → (b : ℕ) → b < g.borders → 0 < at (raises g s.margins) b → at s.x b + at (raises g s.margins) b < c
unfolding raised
x_fits {g} {s₀} {s} q c h b hb z =
    let l : 0 < raise g s.margins b = rw (raises_at g s.margins b hb) at z in
    let f = raiser g s.margins b l in
    let k = reached-keeps (reached-more q (count_pos g.borders (raise g s.margins) b hb l)) f.i f.below in
    omega (arith, next_x g s b hb, x_le_load g (next g s).x f.i b hb f.counts, h f.i f.below)

-- ---- the loop's head

-- m₀ and x₀ where the loop begins, m, x and lasts at its head after d rounds
pub record Head (g : Grid) (m₀ x₀ m x lasts : List ℕ) (d : ℕ) : Type 0 where
  pub margins : length m ≡ g.rows
  pub exchanges : length x ≡ length x₀
  pub beyond : drop g.borders x ≡ drop g.borders x₀
  pub reached : Reached g (state_from g m₀ x₀) d (state_from g m x)
  pub last_rounds_lem : lasts ≡ lasts_to g (state_from g m₀ x₀) d

pub head_start : (g : Grid) (ns m x lasts : List ℕ) → Startable g ns m x → lasts ≡ table g.borders (λ b. 0) → Head g m x m x lasts 0
unfolding last_to
head_start g ns m x lasts q e =
    record {
      margins = q.ready.margins;
      exchanges = refl;
      beyond = refl;
      reached = reached_none g (state_from g m x);
      last_rounds_lem = e;
    }

load_front : (g : Grid) (i : ℕ) (x : List ℕ) → load g i (take g.borders x) ≡ load g i x
unfolding load
load_front g i x = sum_cong g.borders _ _ (λ b h. ap (λ (v : ℕ). g.p i b * v) (get_or-take g.borders x b 0 h))

-- ---- a turn: the raises v are found, and live are above 0

-- v are the raises of the margins m, and live of them are above 0
pub record Raised (g : Grid) (m v : List ℕ) (live : ℕ) : Type 0 where
  pub number : live ≡ count g.borders (raise g m)
  pub list : v ≡ raises g m

pub record Turn (g : Grid) (ns m₀ x₀ m x lasts : List ℕ) (d : ℕ) (v : List ℕ) (live : ℕ) : Type 0 where
  pub start : Startable g ns m₀ x₀
  pub head : Head g m₀ x₀ m x lasts d
  pub found : Raised g m v live

module _ {g : Grid} {ns m₀ x₀ m x lasts : List ℕ} {d : ℕ} {v : List ℕ} {live : ℕ} (u : Turn g ns m₀ x₀ m x lasts d v live) where
  pub front_long : length (take g.borders x) ≡ g.borders
  front_long = length-take-le g.borders x (omega (arith, u.start.borders, u.head.exchanges))

  pub turn_fits : Fits v (take g.borders x)
  turn_fits =
      let l : length v ≡ g.borders = raises_long g m u.found.list in
      record {
        long = front_long ∙ sym l;
        fits = λ b hb.
            rw u.found.list
            (x_fits u.head.reached (2 ^ 64) (λ i hi. rw (load_front g i x₀) (u.start.fits i hi)) b (omega arith));
      }

  -- a round that raises nothing ends the work
  pub turn_end : live ≡ 0 → work_left (record { x = x; rounds = d }) m lasts ≡ work_of g m₀ x₀
  unfolding raised work_of last_round
  turn_end h =
      let z = unique (reached-end u.head.reached (sym u.found.number ∙ h)) (extracts g (state_from g m₀ x₀)) in
      let e : over (take g.borders x) x₀ ≡ x =
      ap (λ (k : ℕ). take g.borders x ++ drop k x₀) front_long
      ∙ ap (λ (t : List ℕ). take g.borders x ++ t) (sym u.head.beyond)
      ∙ take-append-drop g.borders x in
      ap₂ (λ (y l : List ℕ). work_left (record { x = y; rounds = d }) m l) (sym e) u.head.last_rounds_lem
      ∙ ap₂ (λ (k : ℕ) (t : State). left_by (record { rounds = k; state = t }) x₀ (lasts_to g (state_from g m₀ x₀) k)) (sym z.0) (sym z.1)

  module _ (some : live ≡ 0 → ⊥) where
    raises-some : 0 < raised g (state_from g m x)
    unfolding raised
    raises-some = let h : raised g (state_from g m x) ≡ 0 → ⊥ = λ z. some (u.found.number ∙ z) in omega arith

    pub turn_few : d + 1 < 2 ^ 64
    turn_few = reached-few (reached-more u.head.reached raises-some) (2 ^ 64) (omega arith) (λ i hi. omega (arith, u.start.fits i hi))

    module _ (m' y : List ℕ) (em : m' ≡ table g.rows (lowered g v m)) (ey : y ≡ table g.borders (risen v (take g.borders x))) where
      y-long : length y ≡ g.borders
      y-long = ap length ey ∙ table_long g.borders (risen v (take g.borders x))

      front-is : take g.borders (y ++ drop g.borders x) ≡ y
      front-is = take_at y (drop g.borders x) g.borders y-long

      turn-state : next g (state_from g m x) ≡ state_from g m' (y ++ drop g.borders x)
      unfolding next apply
      turn-state =
          ap₂ {C = State} (λ (m x : List ℕ). record { margins = m; x = x })
          (ap (λ (w : List ℕ). table g.rows (lowered g w m)) (sym u.found.list) ∙ sym em)
          (ap (λ (w : List ℕ). table g.borders (risen w (take g.borders x))) (sym u.found.list) ∙ sym ey ∙ sym front-is)

      pub turn_next : {lasts' : List ℕ} → lasts' ≡ table g.borders (noted (d + 1) v lasts) → Head g m₀ x₀ m' (y ++ drop g.borders x) lasts' (d + 1)
      turn_next el =
          record {
            margins = ap length em ∙ table_long g.rows (lowered g v m);
            exchanges = length_front x y g.borders (y-long ∙ sym front_long) ∙ u.head.exchanges;
            beyond = drop_at y (drop g.borders x) g.borders y-long ∙ u.head.beyond;
            reached = subst (λ (s : State). Reached g (state_from g m₀ x₀) (d + 1) s) turn-state (reached-more u.head.reached raises-some);
            last_rounds_lem = el ∙ noted_more u.head.reached u.found.list u.head.last_rounds_lem;
          }

      pub turn_sum : sum g.rows (at m') < sum g.rows (at m)
      turn_sum =
          subst (λ (s : State). sum g.rows (at s.margins) < sum g.rows (at m)) turn-state (next_sum g (state_from g m x) raises-some)
