-- The laws of `specs/Last.antt` that code needs: the last round that raises a border. No contract cites this file.
use mathlib.Core.Path.{◌≡◌, refl, sym, ap, subst, ◌∙◌}
use mathlib.Core.Logic.{⊎_elim}
use Prim.Native.Nat.{ℕ, zero, suc}
use native.Mathlib.Nat.{not-suc-le-zero}
use native.Mathlib.Omega.{arith}
use Rattle.numbers.specs.Below.{if_zero}
use Rattle.numbers.proofs.BelowLaws.{lt_suc_cases}
use Rattle.rounds.specs.Rounds.{Grid, State, Rounds, extract}
use Rattle.rounds.specs.Last.{raise_in, last_to, last_round, LastRaise}
use Rattle.rounds.proofs.Rounds.{extracts, unique}

module _ (g : Grid) (s : State) (b : ℕ) where
  pub last_to_lem : (k : ℕ) → LastRaise g s b k (last_to g s b k)
  unfolding last_to if_zero
  last_to_lem zero = record { counted = omega arith; raised = λ z. absurd (not-suc-le-zero z); no_later = λ j l h. let z : ⊥ = omega arith in absurd z }
  last_to_lem (suc k) = go (raise_in g s b (suc k)) refl (last_to_lem k)
    where
      go : (v : ℕ) → raise_in g s b (suc k) ≡ v → LastRaise g s b k (last_to g s b k) → LastRaise g s b (suc k) (if_zero v (last_to g s b k) (suc k))
      go zero e u =
          record {
            counted = omega (arith, u.counted);
            raised = u.raised;
            no_later = λ j l h. ⊎_elim (λ m. u.no_later j l (omega arith)) (λ q. ap (raise_in g s b) q ∙ e) (lt_suc_cases j (suc k) (omega arith));
          }
      go (suc v) e u = record { counted = omega arith; raised = λ z. omega arith; no_later = λ j l h. let z : ⊥ = omega arith in absurd z }

-- the last round is the last that is counted in which the rules raise the border, 0 if there is none
pub last_round_lem : {g : Grid} {s t : State} {k : ℕ} → Rounds g s k t → (b : ℕ) → LastRaise g s b k (last_round g s b)
unfolding last_round
last_round_lem {g} {s} w b = subst (λ (k : ℕ). LastRaise g s b k (last_to g s b (extract g s).rounds)) (sym (unique (extracts g s) w).0) (last_to_lem g s b (extract g s).rounds)
