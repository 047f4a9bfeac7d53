-- When two extractions come to the same (02, E14): one refusal number (the place of 7 may differ), or the same rounds and ATCs.
use Rattle.std.specs.Prelude.{◌≡◌, ℕ, ◌<◌, Err, Ok}
use Rattle.numbers.specs.Below.{at}
use Rattle.refusals.specs.declared.Refusal.{Refusal}
use Rattle.refusals.specs.Refusals.{Judged, number_of, place_of}
use Rattle.rounds.specs.Rounds.{Outcome}
use Rattle.extractrules.specs.Extraction.{Result, atc_of}

-- two ends come to the same: the same rounds, and each exchange the same to the kW
pub record SameEnd (borders : ℕ) (o o' : Outcome) : Type 0 where
  pub rounds : o'.rounds ≡ o.rounds
  pub exchanges : (b : ℕ) → b < borders → at o'.state.x b ≡ at o.state.x b

-- two results come to the same: the same rounds and ATCs
pub record SameResult (borders : ℕ) (r r' : Result) : Type 0 where
  pub rounds : r'.outcome.rounds ≡ r.outcome.rounds
  pub atcs : (b : ℕ) → b < borders → atc_of r' b ≡ atc_of r b

-- two refusals come to the same: one number, and one place except for 7
pub record SameRefusal (w w' : Refusal) : Type 0 where
  pub number : number_of w' ≡ number_of w
  pub place : (number_of w ≡ 7 → ⊥) → place_of w' ≡ place_of w

-- two judgements come to the same: both passed, with values alike, or both were refused, with refusals alike
abbrev pub Both : {A : Type 0} → (A → A → Type 0) → Judged A → Judged A → Type 0
Both like (Ok a) (Ok a') = like a a'
Both like (Ok a) (Err w') = ⊥
Both like (Err w) (Ok a') = ⊥
Both like (Err w) (Err w') = SameRefusal w w'
