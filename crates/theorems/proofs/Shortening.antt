-- 02, E14: does shortening the list cost capacity? It does not (promises: specs/Shortening).
use Rattle.std.specs.Prelude.{Err, Ok}
use mathlib.Core.Path.{◌≡◌, refl, ap, subst}
use Rattle.refusals.specs.Refusals.{Judged}
use Rattle.types.specs.declared.Header.{Header}
use Rattle.marks.specs.Marks.{may_rise}
use Rattle.staterules.specs.States.{kept}
use Rattle.extractrules.specs.Extraction.{Result, outcome_for}
use Rattle.promises.specs.Taking.{outcome_taking, unshortened}
use Rattle.promises.specs.Same.{SameResult, Both}
use Rattle.promises.specs.Shortening.{CostsNothing, AnyOrder, AcceptedToo, AcceptedInAnyOrder}
use Rattle.theorems.proofs.Alike.{alike_back, alike_on}
use Rattle.theorems.proofs.Moved.{moved_good}
use Rattle.theorems.proofs.ShorteningLaws.{taking_kept, alike_outcomes, shortened, moved}

pub shortening_costs_nothing : CostsNothing
shortening_costs_nothing t good all marks =
    subst (λ (j : Judged Result). Both (SameResult t.header.borders) j (outcome_taking unshortened all marks t)) (taking_kept all marks t)
    (alike_outcomes kept unshortened all marks t t refl (shortened good (may_rise all marks)))

pub any_order : AnyOrder
any_order t t' good o all marks =
    let marked = may_rise all marks in
    subst (λ (j : Judged Result). Both (SameResult t.header.borders) j (outcome_for all marks t')) (taking_kept all marks t)
    (subst (λ (j : Judged Result). Both (SameResult t.header.borders) (outcome_taking kept all marks t) j) (taking_kept all marks t')
    (alike_outcomes kept kept all marks t t' (ap (λ (h : Header). h.borders) o.header)
    (alike_on (shortened good marked) (alike_on (moved o marked) (alike_back (shortened (moved_good o good) marked))))))

pub accepted_in_any_order : AcceptedInAnyOrder
accepted_in_any_order t t' r good o all marks e =
    go (outcome_for all marks t') (subst (λ (j : Judged Result). Both (SameResult t.header.borders) j (outcome_for all marks t')) e (any_order t t' good o all marks)) refl
  where
    go : (j : Judged Result) → Both (SameResult t.header.borders) (Ok r) j → outcome_for all marks t' ≡ j → AcceptedToo all marks t t' r
    go (Ok r') b q = record { result = r'; accepted = q; same = b }
    go (Err w) b q = absurd b
