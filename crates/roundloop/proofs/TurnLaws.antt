-- The round loop's head (`Found`), where the caps are the raises and rows wait for the end of their block, and what a turn leaves there.
-- `Head` and `Turn` of RoundLoop.antt have the rounds themselves, over the margins of the rules (`left_to`).
-- No contract cites this file.
use mathlib.Core.Path.{◌≡◌, refl, sym, ap, ◌∙◌, subst}
use mathlib.Core.Bool.{Bool, true, false, not, false≢true}
use mathlib.Core.List.{List, ◌++◌}
use Prim.Native.Nat.{ℕ, ◌+◌, ◌≤◌, ◌<◌}
use native.Mathlib.Omega.{arith}
use borrow.Author.Tests.{ltb-true, ltb-false, not-true}
use lib.Dec.{ltb}
use lib.ListN.{length, take, drop, replicate, length-replicate, get_or-replicate}
use Rattle.numbers.specs.Below.{at, sum, count, table}
use Rattle.numbers.proofs.BelowLaws.{count_cong, table_long, table_get, table_of}
use Rattle.rounds.specs.Rounds.{Grid, raise, raises, risen}
use Rattle.rounds.specs.AllRounds.{Startable, noted, work_left, work_of}
use Rattle.rounds.proofs.Round.{raises_long, raises_are, raiser}
use Rattle.walk.specs.Walk.{Listed}
use Rattle.resting.specs.Resting.{left_to, Waiting, Renewed, Walkable}
use Rattle.nearness.proofs.RaiseLaws.{raises_within}
use Rattle.resting.proofs.LoadLaws.{load_add, left_at, left_step, left_none}
use Rattle.resting.proofs.WalkLaws.{waiting_start, waiting_caps, waiting_next}
use Rattle.raising.specs.Raising.{Fits, Risable, Rose}
use Rattle.roundloop.proofs.RoundLoop.{x_le_load, Head, head_start, Turn, turn_fits, turn_next, turn_sum, turn_end}

-- m₀, x₀ and near₀ where the loop begins; s, x, lasts, d, w, list and near at its head after k rounds
pub record Found (g : Grid) (ns m₀ x₀ near₀ s x lasts d w list near : List ℕ) (count wait k : ℕ) : Type 0 where
  pub head : Head g m₀ x₀ (left_to g d s) x lasts k
  pub waiting : Waiting g ns s d w list near count wait
  pub places : length near ≡ length near₀

pub found_start : {g : Grid} {ns m x lasts d w list near : List ℕ} → Startable g ns m x → length near ≤ g.rows → (k : ℕ) → k ≡ g.borders → lasts ≡ replicate k 0 → (n : ℕ) → n ≡ g.borders → d ≡ replicate n 0 → list ≡ table g.borders (λ b. b) → w ≡ raises g m → Found g ns m x near m x lasts d w list near 0 0 0
found_start {g} {ns} {m} {x} {lasts} {d} {w} {list} {near} q l k lk ek n ld ed el ew =
    let z : (b : ℕ) → b < g.borders → at d b ≡ 0 = λ b hb. ap (λ (t : List ℕ). at t b) ed ∙ get_or-replicate n b 0 0 (omega arith) in
    let same : left_to g d m ≡ m = left_none g d m z q.ready.margins in
    record {
      head = rw same (head_start g ns m x lasts q (table_of g.borders (λ b. 0) lasts 0 (ap length ek ∙ length-replicate k 0 ∙ lk) (λ b hb. ap (λ (t : List ℕ). at t b) ek ∙ get_or-replicate k b 0 0 (omega arith))));
      waiting =
          waiting_start q.ready (λ i hi. omega (arith, q.fits i hi)) (ap length ed ∙ length-replicate n 0 ∙ ld) z (ew ∙ ap (raises g) (sym same)) el l;
      places = refl;
    }

-- where a test holds whenever r is false, and the test fails, r is true
pub past : (r test : Bool) → (r ≡ false → test ≡ true) → test ≡ false → r ≡ true
past true test h t = refl
past false test h t = absurd (false≢true (sym t ∙ h refl))

module _ {g : Grid} {ns m₀ x₀ near₀ s x lasts d w list near : List ℕ} {count' wait k : ℕ} (u : Found g ns m₀ x₀ near₀ s x lasts d w list near count' wait k) where
  -- the block goes on, or a new one begins
  pub found_renewed : {s' d' list' : List ℕ} {near' : List ℕ} {count'' wait' : ℕ} → Renewed g ns s d near s' d' w list' near' count'' wait' → Found g ns m₀ x₀ near₀ s' x lasts d' w list' near' count'' wait' k
  found_renewed r =
      record {
        head = rw r.same u.head;
        waiting = r.waiting;
        places = r.places ∙ u.places;
      }

  pub found_long : length w ≡ g.borders
  found_long = raises_long g (left_to g d s) u.waiting.found

  pub found_noted : length lasts ≡ g.borders
  found_noted = ap length u.head.last_rounds_lem ∙ table_long g.borders _

  -- the list as `keep_rising` and `rises` ask for it
  pub found_listed : Listed (length w) w list
  found_listed = waiting_caps u.waiting

  module _ {r : Bool} (e : r ≡ ltb 0 (count (length w) (at w))) where
    pub found_some : r ≡ true → 0 < count (length w) (at w)
    found_some t = ltb-true 0 (count (length w) (at w)) (sym e ∙ t)

    pub found_none : not r ≡ true → count (length w) (at w) ≤ 0
    found_none t = ltb-false 0 (count (length w) (at w)) (sym e ∙ not-true r t)

  module _ (q : Startable g ns m₀ x₀) where
    pub found_turn : Turn g ns m₀ x₀ (left_to g d s) x lasts k w (count (length w) (at w))
    found_turn =
        record {
          start = q;
          head = u.head;
          found =
              record {
                number = ap (λ (j : ℕ). count j (at w)) found_long ∙ count_cong g.borders (at w) (raise g (left_to g d s)) (raises_are g (left_to g d s) u.waiting.found);
                list = u.waiting.found;
              };
        }

    pub found_end : count (length w) (at w) ≤ 0 → (s' : List ℕ) → s' ≡ left_to g d s → work_left (record { x = x; rounds = k }) s' lasts ≡ work_of g m₀ x₀
    found_end z s' e = rw e (turn_end found_turn (omega arith))

  -- what is gained fits a u64, since it is within the margin of a row that the border loads
  found-gains : Fits w d
  unfolding risen
  found-gains =
      record {
        long = u.waiting.gained ∙ sym found_long;
        fits = λ b hb z.
            let m : List ℕ = left_to g d s in
            let h : b < g.borders = omega (arith, found_long) in
            let f = raiser g m b (omega (arith, raises_are g m u.waiting.found b h)) in
            omega (
              arith,
              table_get g.borders (risen w d) b 0 h,
              x_le_load g (table g.borders (risen w d)) f.i b h f.counts,
              load_add g f.i w d,
              raises_within g m u.waiting.found f.i f.below,
              left_at g d s f.i f.below,
              u.waiting.within f.i f.below,
              u.waiting.fits f.i f.below,
            );
      }

  pub found_risable : Startable g ns m₀ x₀ → Risable w list d (take g.borders x) lasts
  found_risable q =
      record {
        listed = found_listed;
        gains = found-gains;
        exchanges = turn_fits (found_turn q);
        notes = found_noted ∙ sym found_long;
      }

  module _ (some : 0 < wait) {d' y lasts' : List ℕ} (r : Rose w d (take g.borders x) lasts (k + 1) d' y lasts') where
    for-each : (f : ℕ → ℕ) {l : List ℕ} → l ≡ table (length w) f → l ≡ table g.borders f
    for-each f e = e ∙ ap (λ (n : ℕ). table n f) found_long

    pub found_walkable : Walkable g ns s d' w list near count'
    found_walkable = record { before = d; wait = wait; some = some; waiting = u.waiting; gained = for-each (risen w d) r.gained }

    found_left : left_to g d' s ≡ left_to g w (left_to g d s)
    found_left = ap (λ (l : List ℕ). left_to g l s) (for-each (risen w d) r.gained) ∙ left_step g d s w

    module _ (q : Startable g ns m₀ x₀) (rises : 0 < count (length w) (at w)) where
      ey : y ≡ table g.borders (risen w (take g.borders x))
      ey = for-each (risen w (take g.borders x)) r.exchanges

      pub found_next : {w' : List ℕ} → w' ≡ raises g (left_to g d' s) → (wait' : ℕ) → wait ≡ wait' + 1 → Found g ns m₀ x₀ near₀ s (y ++ drop g.borders x) lasts' d' w' list near count' wait' (k + 1)
      unfolding found_walkable
      found_next ew wait' e =
          record {
            head = turn_next (found_turn q) (λ z. omega arith) (left_to g d' s) y found_left ey (for-each (noted (k + 1) w lasts) r.last_rounds_lem);
            waiting = waiting_next found_walkable ew wait' e;
            places = u.places;
          }

      -- the margins' sum is less than before the block was renewed
      pub found_less : {m : List ℕ} → left_to g d s ≡ m → sum g.rows (at (left_to g d' s)) < sum g.rows (at m)
      found_less e =
          subst (λ (m : List ℕ). sum g.rows (at (left_to g d' s)) < sum g.rows (at m)) e
          (turn_sum (found_turn q) (λ z. omega arith) (left_to g d' s) y found_left ey)
