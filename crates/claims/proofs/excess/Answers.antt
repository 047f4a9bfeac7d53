-- `claims::excess` meets its contract: the sum and the claimed row's share fit, and so does what is left.
use mathlib.Core.Path.{◌≡◌, sym, ap, ap₂, subst, ◌∙◌}
use mathlib.Core.Bool.{true}
use Prim.Native.Nat.{ℕ}
use borrow.Author.Rules.{sfits_of}
use lib.IntN.{ℤ, nat_abs, ◌-ℤ◌, ◌*ℤ◌}
use mir.Facts.{to_z-of_z}
use mir.Val.{SFits, to_z, of_z}
use mir.Syntax.{w64}
use Rattle.numbers.proofs.IntLaws.{plain, within_fits}
use Rattle.types.specs.Ranges.{exists}
use Rattle.claimrules.specs.Claims.{claimed_row, denominator, cited_sum, own_sum, excess}
use Rattle.claims.specs.Magnitudes.{value_of}
use Rattle.claims.proofs.FormLaws.{own_in, excess_in}
use Rattle.claims.proofs.excess.Goals as goal

abbrev values : (c : goal.After-value_of-value) → ℕ → ℤ
values c = value_of c.args.xs.now c.args.stride c.args.at

own_is : (c : goal.After-value_of-value) → to_z w64 (of_z w64 (denominator c.args.claim)) *ℤ to_z w64 (of_z w64 c.value_of-value.result) ≡ own_sum c.args.claim (values c)
unfolding own_sum
own_is c = ap₂ (λ (x y : ℤ). x *ℤ y) (plain (denominator c.args.claim) c.denominator-1.given)
    (to_z-of_z {w = w64} (sfits_of c.value_of-value.type_inv) ∙ c.value_of-value.ensures ∙ ap (λ (z : ℤ). (values c) (nat_abs z)) (plain (claimed_row c.args.claim) c.row-1.given))

own-fits : (c : goal.After-value_of-value) → SFits w64 (own_sum c.args.claim (values c))
own-fits c = within_fits (own_in c.requires.claim_in_range c.requires.lent) tt

left_is : (c : goal.After-value_of-value) → to_z w64 (of_z w64 c.cited_sum-sum.result) -ℤ to_z w64 (of_z w64 (to_z w64 (of_z w64 (denominator c.args.claim)) *ℤ to_z w64 (of_z w64 c.value_of-value.result))) ≡ cited_sum c.args.claim (values c) -ℤ own_sum c.args.claim (values c)
left_is c = ap₂ (λ (x y : ℤ). x -ℤ y) (to_z-of_z {w = w64} (sfits_of c.cited_sum-sum.type_inv) ∙ c.cited_sum-sum.ensures)
    (ap (λ (z : ℤ). to_z w64 (of_z w64 z)) (own_is c) ∙ to_z-of_z {w = w64} (own-fits c))

left-fits : (c : goal.After-value_of-value) → SFits w64 (cited_sum c.args.claim (values c) -ℤ own_sum c.args.claim (values c))
left-fits c = within_fits (excess_in c.requires.claim_in_range c.requires.lent) tt

pub cited_sum-sum-requires : goal.cited_sum-sum-requires
cited_sum-sum-requires c = record { lent = c.requires.lent; claim_in_range = c.requires.claim_in_range }

pub value_of-value-requires : goal.value_of-value-requires
value_of-value-requires c = record { lent = c.requires.lent; row_value = subst (λ (z : ℤ). exists c.args.rows z ≡ true) (sym (plain _ c.row-1.given)) c.requires.claim_in_range.row_in }

pub overflow_mul-result : goal.overflow_mul-result
overflow_mul-result c = subst (SFits w64) (sym (own_is c)) (own-fits c)

pub overflow_sub-result : goal.overflow_sub-result
overflow_sub-result c = subst (SFits w64) (sym (left_is c)) (left-fits c)

pub returns : goal.returns
unfolding excess
returns c = ap (λ (z : ℤ). to_z w64 (of_z w64 z)) (left_is c) ∙ to_z-of_z {w = w64} (left-fits c)
