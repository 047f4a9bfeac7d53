use Rattle.std.specs.Prelude.{Option}
use mir.Syntax.{w64}
use mathlib.Core.Path.{◌≡◌, sym, ap, ap₂, ◌∙◌}
use mathlib.Core.Bool.{not}
use Prim.Native.Nat.{ℕ}
use native.Mathlib.Omega.{arith}
use borrow.Author.Rules.{sfits_of}
use mir.Facts.{to_z-of_z}
use Rattle.numbers.specs.Ints.{same_ℤ}
use Rattle.numbers.specs.Below.{given}
use Rattle.numbers.proofs.BelowLaws.{looked_none, looked_all, looked_here, looked_more}
use Rattle.claimrules.specs.Claims.{excess, factor_at, level}
use Rattle.claims.proofs.FormLaws.{lent_at, excess_factor}
use Rattle.claims.proofs.is_level.Goals as goal

pub excess-first-requires : goal.excess-first-requires
excess-first-requires c = record { lent = c.requires.lent; claim_in_range = c.requires.claim_in_range }

pub loop-z-init : goal.loop-z-init
loop-z-init c = looked_none _ _

pub excess-requires : goal.excess-requires
excess-requires c = record { lent = lent_at c.requires.lent c.loop-z.z c.loop-z-test.true; claim_in_range = c.requires.claim_in_range }

pub returns-then-not-same : goal.returns-then-not-same
unfolding level given
returns-then-not-same c = let fact : c.same.result ≡ same_ℤ (excess c.args.claim (factor_at c.args.zones c.args.f.now c.loop-z.z)) (excess c.args.claim (factor_at c.args.zones c.args.f.now 0)) = c.same.ensures
    ∙ ap₂ same_ℤ
    (to_z-of_z {w = w64} (sfits_of c.excess.type_inv) ∙ c.excess.ensures ∙ excess_factor (lent_at c.requires.lent c.loop-z.z c.loop-z-test.true) c.args.claim)
    (to_z-of_z {w = w64} (sfits_of c.excess-first.type_inv) ∙ c.excess-first.ensures ∙ excess_factor c.requires.lent c.args.claim) in
    ap (λ (o : Option ℕ). not (given o)) (looked_here _ _ _ c.loop-z.invariant (omega arith) (sym (ap not (fact)) ∙ c.if-not-same.true-raw))

pub loop-z-preserved : goal.loop-z-preserved
loop-z-preserved c = let fact : c.same.result ≡ same_ℤ (excess c.args.claim (factor_at c.args.zones c.args.f.now c.loop-z.z)) (excess c.args.claim (factor_at c.args.zones c.args.f.now 0)) = c.same.ensures
    ∙ ap₂ same_ℤ
    (to_z-of_z {w = w64} (sfits_of c.excess.type_inv) ∙ c.excess.ensures ∙ excess_factor (lent_at c.requires.lent c.loop-z.z c.loop-z-test.true) c.args.claim)
    (to_z-of_z {w = w64} (sfits_of c.excess-first.type_inv) ∙ c.excess-first.ensures ∙ excess_factor c.requires.lent c.args.claim) in
    looked_more _ _ _ c.loop-z.invariant (omega arith) (sym (ap not (fact)) ∙ c.if-not-same.false-raw)

pub returns : goal.returns
unfolding level given
returns c = ap (λ (o : Option ℕ). not (given o)) (looked_all _ _ _ c.loop-z.invariant (omega arith))
