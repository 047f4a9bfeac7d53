-- The laws of `specs/Replay.antt`: no round, one more, and that the exchanges do not matter. No contract cites this file.
use mathlib.Core.Path.{◌≡◌, refl, sym, ap, ◌∙◌}
use mathlib.Core.List.{List}
use Prim.Native.Nat.{ℕ, zero, suc, ◌+◌, ◌≤◌, ◌<◌}
use native.Mathlib.Numerals.{add-one}
use native.Mathlib.Omega.{arith}
use lib.ListN.{length}
use Rattle.numbers.specs.Below.{table}
use Rattle.numbers.proofs.BelowLaws.{table_long}
use Rattle.rounds.specs.Rounds.{Grid, State, raises, lowered, apply, next}
use Rattle.rounds.specs.Last.{after}
use Rattle.rounds.specs.AllRounds.{Ready}
use Rattle.rounds.proofs.Round.{raises_long, load_fits}
use Rattle.walk.proofs.ListedLaws.{listed_all}
use Rattle.resting.specs.Resting.{left_to, Settleable}
use Rattle.replay.specs.Replay.{margins_after}

-- what the rows lose in a round depends on their margins alone
pub margins_alone : (g : Grid) (s : State) (k : ℕ) → (after g s k).margins ≡ margins_after g s.margins k
unfolding after next apply margins_after
margins_alone g s zero = refl
margins_alone g s (suc k) = ap (λ (m : List ℕ). table g.rows (lowered g (raises g m) m)) (margins_alone g s k)

-- each row keeps a margin
pub after_long : (g : Grid) (m : List ℕ) → length m ≡ g.rows → (k : ℕ) → length (margins_after g m k) ≡ g.rows
unfolding margins_after after next apply
after_long g m l zero = l
after_long g m l (suc k) = table_long g.rows _

-- where k of n rounds are done: the margins, and room for a list of the borders and for a raise of each
pub record Replayed (g : Grid) (m₀ : List ℕ) (n : ℕ) (m rising raises : List ℕ) (k : ℕ) : Type 0 where
  pub high : k ≤ n
  pub so_far : m ≡ margins_after g m₀ k
  pub long : length m ≡ g.rows
  pub places : length rising ≡ g.borders
  pub room : length raises ≡ g.borders

pub replayed_none : (g : Grid) (m : List ℕ) (n : ℕ) (rising raises : List ℕ) → length m ≡ g.rows → length rising ≡ g.borders → length raises ≡ g.borders → Replayed g m n m rising raises 0
unfolding margins_after after
replayed_none g m n rising raises l a b = record { high = omega arith; so_far = refl; long = l; places = a; room = b }

module _ {g : Grid} {m₀ : List ℕ} {n : ℕ} {m rising v : List ℕ} {k : ℕ} (u : Replayed g m₀ n m rising v k) where
  -- n of each row still stands for these margins
  pub replayed_ready : {ns : List ℕ} → Ready g ns m₀ → Ready g ns m
  replayed_ready q = record { counts = q.counts; margins = u.long }

  -- a round: its raises are found, with a list of all borders ..
  module _ {rising' v' : List ℕ} (l : rising' ≡ table g.borders (λ b. b)) (e : v' ≡ raises g m) where
    pub round_settles : Settleable g m v' rising'
    round_settles =
        record {
          margins = u.long;
          gained = raises_long g m e;
          listed = listed_all g.borders v' rising' l;
          within = λ i h. rw e (load_fits g m i h);
        }

    -- a round's raises, taken from the margins
    pub replayed_more : {m' : List ℕ} → k < n → m' ≡ left_to g v' m → Replayed g m₀ n m' rising' v' (k + 1)
    unfolding margins_after after next apply
    replayed_more {m'} h d =
        record {
          high = omega arith;
          so_far =
              d ∙ ap (λ (w : List ℕ). left_to g w m) e
              ∙ ap (λ (x : List ℕ). left_to g (raises g x) x) u.so_far
              ∙ ap (margins_after g m₀) (sym (add-one k));
          long = ap length d ∙ table_long g.rows _;
          places = ap length l ∙ table_long g.borders _;
          room = raises_long g m e;
        }

  pub replayed_all : n ≤ k → m ≡ margins_after g m₀ n
  replayed_all h = let e : k ≡ n = omega (arith, u.high) in u.so_far ∙ ap (margins_after g m₀) e
