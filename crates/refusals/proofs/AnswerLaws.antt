-- What an answer says tells the answer: `said_judgement` and each `said..` of `specs/Answers.antt` are injective, since what it says can be read back.
-- That an open call has one answer cites these. No contract cites this file.
use Rattle.std.specs.Prelude.{Err, Ok}
use mathlib.Core.Path.{◌≡◌, refl, sym, ap, ◌∙◌}
use Prim.Native.Nat.{ℕ}
use Rattle.refusals.specs.Refusals.{Judged, Ruling}
use Rattle.refusals.specs.Answers.{said_judgement}

-- a function is injective where what it says can be read back
pub injective : {A B : Type 0} (said : A → B) (back : B → A) → ((a : A) → back (said a) ≡ a) → (a a' : A) → said a ≡ said a' → a ≡ a'
injective said back h a a' e = sym (h a) ∙ ap back e ∙ h a'

judgement_of : {A : Type 0} → Judged A → Ruling
judgement_of (Ok a) = (Ok tt)
judgement_of (Err w) = Err w

judgement_said : {A : Type 0} (a : A) (r : Ruling) → judgement_of (said_judgement r a) ≡ r
unfolding judgement_of
judgement_said a (Ok tt) = refl
judgement_said a (Err w) = refl

pub said_judgement_injective : {A : Type 0} (a : A) (r r' : Ruling) → said_judgement r a ≡ said_judgement r' a → r ≡ r'
said_judgement_injective a = injective (λ (r : Ruling). said_judgement r a) judgement_of (judgement_said a)
