-- `claims::judge_claim` meets its contract: form, and then truth.
use mathlib.Core.Path.{◌≡◌, sym, subst, ◌∙◌}
use mathlib.Core.Bool.{true}
use Prim.Native.Nat.{ℕ}
use borrow.Author.Tests.{not-true, not-false}
use Rattle.refusals.proofs.RefusalLaws.{unless_ok, unless_refused}
use Rattle.claimrules.specs.Claims.{formed_by}
use Rattle.claims.specs.Named.{flagged, judge_claim}
use Rattle.claims.specs.Magnitudes.{ClaimInRange}
use Rattle.claims.proofs.FormLaws.{claim_formed, formed_ranges}
use Rattle.claims.proofs.judge_claim.Goals as goal

pub returns-then-not-is_formed : goal.returns-then-not-is_formed
unfolding judge_claim
returns-then-not-is_formed c = sym (unless_refused _ _ (sym c.is_formed.ensures ∙ not-true _ c.if-not-is_formed.true-raw))

pub is_borne_out-requires : goal.is_borne_out-requires
is_borne_out-requires c = let yes : formed_by c.args.states.now (flagged c.args.named.now) (flagged c.args.earlier.now) c.args.claim ≡ true = sym c.is_formed.ensures ∙ not-false _ c.if-not-is_formed.false-raw in
    record { lent = c.requires.lent; lent_2 = c.requires.lent_2; claim_in_range = subst (λ (n : ℕ). ClaimInRange n c.args.claim) c.requires.states_len (formed_ranges c.args.states.now (flagged c.args.named.now) (claim_formed c.args.states.now (flagged c.args.named.now) (flagged c.args.earlier.now) c.args.claim yes)) }

pub returns-then-not-is_borne_out : goal.returns-then-not-is_borne_out
unfolding judge_claim
returns-then-not-is_borne_out c = let yes : formed_by c.args.states.now (flagged c.args.named.now) (flagged c.args.earlier.now) c.args.claim ≡ true = sym c.is_formed.ensures ∙ not-false _ c.if-not-is_formed.false-raw in
    sym (unless_ok _ _ yes ∙ unless_refused _ _ (sym c.is_borne_out.ensures ∙ not-true _ c.if-not-is_borne_out.true-raw))

pub returns : goal.returns
unfolding judge_claim
returns c = let yes : formed_by c.args.states.now (flagged c.args.named.now) (flagged c.args.earlier.now) c.args.claim ≡ true = sym c.is_formed.ensures ∙ not-false _ c.if-not-is_formed.false-raw in
    sym (unless_ok _ _ yes ∙ unless_ok _ _ (sym c.is_borne_out.ensures ∙ not-false _ c.if-not-is_borne_out.false-raw))
