-- What E6, E13 and E14 (02) mean by replaced, all borders and the same, by examples: an R replaced, a list that marks both of two borders, and results and refusals that
-- are not the same.
-- Nobody cites it: it refuses a statement that slipped.
use Rattle.std.specs.Prelude.{Err, Ok}
use mathlib.Core.Path.{◌≡◌, refl, ap, subst}
use mathlib.Core.Bool.{Bool, true, false, false≢true}
use mathlib.Core.List.{List, [], ◌∷◌}
use Prim.Native.Nat.{ℕ, zero, suc, ◌<◌}
use native.Mathlib.Omega.{arith}
use lib.Dec.{lit<}
use lib.IntN.{pos}
use Rattle.numbers.specs.Below.{first_from, given}
use Rattle.numbers.specs.Ints.{minus}
use Rattle.refusals.specs.declared.Refusal.{Refusal}
use Rattle.refusals.specs.Refusals.{Judged, number_of, unless, refuse_at, refuse_first, below_zero, unlimited}
use Rattle.marks.specs.Marks.{faulty_mark, judge_marks}
use Rattle.tablerules.specs.Table.{Table}
use Rattle.tablerules.specs.Good.{Good}
use Rattle.extractrules.specs.Extraction.{Result, atc_of, outcome_for}
use Rattle.promises.specs.Marked.{AllMarked}
use Rattle.promises.specs.Same.{SameEnd, SameResult, SameRefusal, Both}
use Rattle.promises.specs.Taking.{outcome_taking, unshortened}
use Rattle.promises.specs.Order.{Reordered}
use Rattle.promises.specs.Replaced.{replaced_row}
use Rattle.promises.specs.Shortening.{CostsNothing, AnyOrder, AcceptedInAnyOrder}

-- a result of one border, with these rounds and this exchange in kW
abbrev ended : (rounds kw : ℕ) → Result
ended rounds kw =
    record {
      header = record { zones = 2; borders = 1; rows = 1; share = minus 1; intraday = 0 };
      rows = record { rams = []; states = 0 ∷ [] };
      p = [];
      outcome = record { rounds = rounds; state = record { margins = 0 ∷ []; x = kw ∷ [] } };
      lasts = [];
      stops = [];
    }

-- what came of a judgement: whether it passed, and a refusal's number
abbrev is_passed : {A : Type 0} → Judged A → Bool
is_passed (Ok a) = true
is_passed (Err w) = false

abbrev number_told : {A : Type 0} → Judged A → ℕ
number_told (Ok a) = 0
number_told (Err w) = number_of w

pub record Anchors : Type 0 where
  -- all of two borders, in any order; not one of them, nor one twice
  pub all_marked : AllMarked 2 (1 ∷ 0 ∷ [])
  pub one_missing : AllMarked 2 (1 ∷ []) → ⊥
  pub one_twice : AllMarked 2 (1 ∷ 1 ∷ []) → ⊥
  -- the ATCs are the same where the whole MW are; of two ends the rounds count, and the exchanges in kW
  pub same_mw : SameResult 1 (ended 3 2000) (ended 3 2999)
  pub other_atc : SameResult 1 (ended 3 2000) (ended 3 3000) → ⊥
  pub other_rounds : SameResult 1 (ended 3 2000) (ended 4 2000) → ⊥
  pub other_kw : SameEnd 1 (ended 3 2000).outcome (ended 3 2001).outcome → ⊥
  pub other_end : SameEnd 1 (ended 3 2000).outcome (ended 4 2000).outcome → ⊥
  -- one number, and one place except for 7
  pub other_number : SameRefusal (unlimited 0) (below_zero 0) → ⊥
  pub other_place : SameRefusal (unlimited 0) (unlimited 1) → ⊥
  pub place_of_7 : SameRefusal (below_zero 0) (below_zero 1)
  -- one passed and the other refused
  pub refused_passed : Both (SameResult 1) (Err (below_zero 0)) (Ok (ended 3 2000)) → ⊥
  pub passed_refused : Both (SameResult 1) (Ok (ended 3 2000)) (Err (below_zero 0)) → ⊥
  -- a table's own order is an order (E14)
  pub same_order : (t : Table) → Reordered t t
  -- "-" becomes the default, and an R that was written stays, 0 too (E6)
  pub dash : replaced_row (pos 6000) (pos 9 ∷ pos 1 ∷ pos 2 ∷ pos 3 ∷ minus 1 ∷ pos 5 ∷ pos 6 ∷ []) ≡ (pos 9 ∷ pos 1 ∷ pos 2 ∷ pos 3 ∷ pos 6000 ∷ pos 5 ∷ pos 6 ∷ [])
  pub written : replaced_row (pos 6000) (pos 9 ∷ pos 1 ∷ pos 2 ∷ pos 3 ∷ pos 0 ∷ pos 5 ∷ pos 6 ∷ []) ≡ (pos 9 ∷ pos 1 ∷ pos 2 ∷ pos 3 ∷ pos 0 ∷ pos 5 ∷ pos 6 ∷ [])

pub anchors : Anchors
unfolding first_from given unless refuse_at refuse_first faulty_mark judge_marks atc_of
anchors =
    record {
      all_marked = record { good = refl; long = refl };
      one_missing = λ m. let e : ◌≡◌ {A = ℕ} 1 2 = m.long in omega arith;
      one_twice = λ m. false≢true (ap is_passed m.good);
      same_mw = record { rounds = refl; atcs = both };
      other_atc = λ s. let e : ◌≡◌ {A = ℕ} 3 2 = s.atcs 0 (lit< tt) in omega arith;
      other_rounds = λ s. let e : ◌≡◌ {A = ℕ} 4 3 = s.rounds in omega arith;
      other_kw = λ s. let e : ◌≡◌ {A = ℕ} 2001 2000 = s.exchanges 0 (lit< tt) in omega arith;
      other_end = λ s. let e : ◌≡◌ {A = ℕ} 4 3 = s.rounds in omega arith;
      other_number = λ s. let e : ◌≡◌ {A = ℕ} 7 6 = s.number in omega arith;
      other_place = λ s. let e : ◌≡◌ {A = ℕ} 1 0 = s.place (λ n. omega arith) in omega arith;
      place_of_7 = record { number = refl; place = λ n. absurd (n refl) };
      refused_passed = λ b. b;
      passed_refused = λ b. b;
      same_order = λ t.
          record {
            header = refl;
            nets = refl;
            allocated = refl;
            borders = refl;
            rows_long = refl;
            factors_long = refl;
            row = λ i. i;
            place = λ i. i;
            row_below = λ i h. h;
            place_below = λ i h. h;
            there = λ i h. refl;
            records = λ i h. refl;
            factors = λ i h. refl;
          };
      dash = refl;
      written = refl;
    }
  where
    both : (b : ℕ) → b < 1 → atc_of (ended 3 2999) b ≡ atc_of (ended 3 2000) b
    both zero h = refl
    both (suc b) h = absurd (omega arith)

-- E14's statements ask nothing of the second outcome: whether it is a refusal, and with which number, follows from the first. From a statement that assumed it, this could
-- not be proved
pub record Asks : Type 0 where
  pub long_refused : CostsNothing → (t : Table) → Good t → (all : Bool) (marks : List ℕ) (w : Refusal) → outcome_for all marks t ≡ Err w → number_told (outcome_taking unshortened all marks t) ≡ number_of w
  pub long_passed : CostsNothing → (t : Table) → Good t → (all : Bool) (marks : List ℕ) (r : Result) → outcome_for all marks t ≡ Ok r → is_passed (outcome_taking unshortened all marks t) ≡ true
  pub order_refused : AnyOrder → (t t' : Table) → Good t → Reordered t t' → (all : Bool) (marks : List ℕ) (w : Refusal) → outcome_for all marks t ≡ Err w → number_told (outcome_for all marks t') ≡ number_of w
  pub order_passed : AnyOrder → (t t' : Table) → Good t → Reordered t t' → (all : Bool) (marks : List ℕ) (r : Result) → outcome_for all marks t ≡ Ok r → is_passed (outcome_for all marks t') ≡ true
  pub accepted_too : AcceptedInAnyOrder → (t t' : Table) (r : Result) → Good t → Reordered t t' → (all : Bool) (marks : List ℕ) → outcome_for all marks t ≡ Ok r → is_passed (outcome_for all marks t') ≡ true

refused_too : (n : ℕ) (j k : Judged Result) (w : Refusal) → Both (SameResult n) j k → j ≡ Err w → number_told k ≡ number_of w
refused_too n j (Ok r) w b e = absurd (subst (λ (i : Judged Result). Both (SameResult n) i (Ok r)) e b)
refused_too n j (Err v) w b e = (subst (λ (i : Judged Result). Both (SameResult n) i (Err v)) e b).number

passed_too : (n : ℕ) (j k : Judged Result) (r : Result) → Both (SameResult n) j k → j ≡ Ok r → is_passed k ≡ true
passed_too n j (Ok s) r b e = refl
passed_too n j (Err v) r b e = absurd (subst (λ (i : Judged Result). Both (SameResult n) i (Err v)) e b)

pub asks : Asks
asks =
    record {
      long_refused = λ s t g all marks w e. refused_too t.header.borders (outcome_for all marks t) (outcome_taking unshortened all marks t) w (s t g all marks) e;
      long_passed = λ s t g all marks r e. passed_too t.header.borders (outcome_for all marks t) (outcome_taking unshortened all marks t) r (s t g all marks) e;
      order_refused = λ s t t' g o all marks w e. refused_too t.header.borders (outcome_for all marks t) (outcome_for all marks t') w (s t t' g o all marks) e;
      order_passed = λ s t t' g o all marks r e. passed_too t.header.borders (outcome_for all marks t) (outcome_for all marks t') r (s t t' g o all marks) e;
      accepted_too = λ s t t' r g o all marks e. ap is_passed (s t t' r g o all marks e).accepted;
    }
