-- Two grids that agree give the same reasons. No contract cites this file.
use Rattle.std.specs.Prelude.{None, Option}
use mathlib.Core.Path.{◌≡◌, refl, sym, ap, ap₂, ◌∙◌}
use mathlib.Core.List.{List}
use Prim.Native.Nat.{ℕ, zero, suc, ◌<◌}
use lib.ListN.{get_or}
use Rattle.numbers.specs.Below.{at, table}
use Rattle.numbers.proofs.BelowLaws.{count_cong, table_get, table_cong}
use Rattle.types.specs.declared.Header.{Header}
use Rattle.rounds.specs.Rounds.{Grid, State, Outcome, sharers, next, extract}
use Rattle.rounds.specs.Last.{after, last_round}
use Rattle.rounds.specs.Stopping.{stop_row}
use Rattle.rounds.proofs.Laid.{grid, laid_next}
use Rattle.rounds.proofs.Theorems.{same_factors, same_lasts, same_stops}
use Rattle.holding.specs.Holding.{end_row, allowed, allowed_by}
use Rattle.why.specs.Why.{Why, why_by}

module _ (h : Header) (p p' : ℕ → ℕ → ℕ) (e : (i b : ℕ) → i < h.rows → b < h.borders → p i b ≡ p' i b) where
  abbrev g : Grid
  g = grid h.rows h.borders p

  abbrev g' : Grid
  g' = grid h.rows h.borders p'

  same_after : (s : State) (k : ℕ) → after g s k ≡ after g' s k
  unfolding after
  same_after s zero = refl
  same_after s (suc k) = ap (next g) (same_after s k) ∙ laid_next h.rows h.borders p p' e _

  same-sharers : (i : ℕ) → i < h.rows → sharers g i ≡ sharers g' i
  unfolding sharers
  same-sharers i hi = count_cong h.borders (p i) (p' i) (λ b hb. e i b hi hb)

  module _ (b : ℕ) (hb : b < h.borders) where
    same-last : (s : State) → last_round g s b ≡ last_round g' s b
    same-last s =
        sym (table_get h.borders (last_round g s) b 0 hb)
        ∙ ap (λ (l : List ℕ). at l b) (same_lasts h.rows h.borders p p' e s)
        ∙ table_get h.borders (last_round g' s) b 0 hb

    same_stop : (left : List ℕ) → stop_row g left b ≡ stop_row g' left b
    same_stop left =
        sym (table_get h.borders (stop_row g left) b None hb)
        ∙ ap (λ (l : List (Option ℕ)). get_or l b None) (same_stops h.rows h.borders p p' e left)
        ∙ table_get h.borders (stop_row g' left) b None hb

    same_end : (s : State) → end_row g s b ≡ end_row g' s b
    unfolding end_row
    same_end s =
        ap (λ (k : ℕ). stop_row g (after g s k).margins b) (same-last s)
        ∙ ap (λ (t : State). stop_row g t.margins b) (same_after s _)
        ∙ same_stop _

    same-allows : (left : List ℕ) → table h.rows (allowed_by g left b) ≡ table h.rows (allowed_by g' left b)
    same-allows left = table_cong h.rows _ _ (λ i hi. ap₂ (λ (n f : ℕ). allowed n (at left i) f) (same-sharers i hi) (e i b hi hb))

    pub same_why : (states q : List ℕ) (s : State) → why_by h states q g s b ≡ why_by h states q g' s b
    same_why states q s =
        let made : Outcome → List ℕ → List (Option ℕ) → ℕ → Option ℕ → Option ℕ → Why =
        λ o ns allows last named ended. record { header = h; states = states; p = q; start = s; outcome = o; ns = ns; allows = allows; last = last; named = named; ended = ended } in
        let o : Outcome = extract g s in
        let o' : Outcome = extract g' s in
        let ended : o ≡ o' = same_factors h.rows h.borders p p' e s in
        let left : List ℕ = o'.state.margins in
        let of : Outcome → Why = λ (u : Outcome). made u (table h.rows (sharers g)) (table h.rows (allowed_by g u.state.margins b)) (last_round g s b) (stop_row g u.state.margins b) (end_row g s b) in
        ap of ended
        ∙ ap₂ (λ (ns : List ℕ) (allows : List (Option ℕ)). made o' ns allows (last_round g s b) (stop_row g left b) (end_row g s b)) (table_cong h.rows _ _ same-sharers) (same-allows left)
        ∙ ap₂ (λ (last : ℕ) (named : Option ℕ). made o' (table h.rows (sharers g')) (table h.rows (allowed_by g' left b)) last named (end_row g s b)) (same-last s) (same_stop left)
        ∙ ap (made o' (table h.rows (sharers g')) (table h.rows (allowed_by g' left b)) (last_round g' s b) (stop_row g' left b)) (same_end s)
