-- `claims::multiplied` meets its contract: the row exists, and the product of a multiplier and a value fits.
use mathlib.Core.Path.{◌≡◌, sym, ap, ap₂, subst, ◌∙◌}
use mathlib.Core.Bool.{true}
use Rattle.types.specs.Ranges.{exists}
use native.Mathlib.Omega.{arith}
use borrow.Author.Rules.{sfits_of}
use lib.IntN.{ℤ, nat_abs, ◌*ℤ◌}
use mir.Facts.{to_z-of_z}
use mir.Val.{SFits, to_z, of_z}
use mir.Syntax.{w64}
use Rattle.numbers.proofs.IntLaws.{plain, within_fits}
use Rattle.claimrules.specs.Claims.{cited_row, multiplier}
use Rattle.claims.specs.Magnitudes.{value_of}
use Rattle.claims.proofs.FormLaws.{few_pairs, terms, term_in}
use Rattle.claims.proofs.multiplied.Goals as goal

product_is : (c : goal.After-value_of-value) → to_z w64 (of_z w64 (multiplier c.args.claim c.args.j)) *ℤ to_z w64 (of_z w64 c.value_of-value.result) ≡ terms c.args.claim c.args.xs.now c.args.stride c.args.at c.args.j
product_is c = ap₂ (λ (x y : ℤ). x *ℤ y) (plain (multiplier c.args.claim c.args.j) c.times-1.given)
    (to_z-of_z {w = w64} (sfits_of c.value_of-value.type_inv) ∙ c.value_of-value.ensures
    ∙ ap (λ (z : ℤ). value_of c.args.xs.now c.args.stride c.args.at (nat_abs z)) (plain (cited_row c.args.claim c.args.j) c.row-1.given))

product_fits : (c : goal.After-value_of-value) → SFits w64 (terms c.args.claim c.args.xs.now c.args.stride c.args.at c.args.j)
product_fits c = within_fits (term_in c.requires.claim_in_range c.args.j c.requires.j_bound c.requires.lent) tt

pub overflow_mul-row : goal.overflow_mul-row
overflow_mul-row c = omega (arith, few_pairs c.requires.claim_in_range)

pub overflow_add-row : goal.overflow_add-row
overflow_add-row c = omega (arith, few_pairs c.requires.claim_in_range)

pub offset_bounds-claim-j : goal.offset_bounds-claim-j
offset_bounds-claim-j c = omega (arith, few_pairs c.requires.claim_in_range)

pub bounds-claim-j : goal.bounds-claim-j
bounds-claim-j c = omega (arith, few_pairs c.requires.claim_in_range)

pub overflow_mul-times : goal.overflow_mul-times
overflow_mul-times c = omega (arith, few_pairs c.requires.claim_in_range)

pub overflow_add-times : goal.overflow_add-times
overflow_add-times c = omega (arith, few_pairs c.requires.claim_in_range)

pub offset_bounds-claim-j-2 : goal.offset_bounds-claim-j-2
offset_bounds-claim-j-2 c = omega (arith, few_pairs c.requires.claim_in_range)

pub bounds-claim-j-2 : goal.bounds-claim-j-2
bounds-claim-j-2 c = omega (arith, few_pairs c.requires.claim_in_range)

pub value_of-value-requires : goal.value_of-value-requires
value_of-value-requires c = record { lent = c.requires.lent; row_value = subst (λ (z : ℤ). exists c.args.rows z ≡ true) (sym (plain _ c.row-1.given)) (c.requires.claim_in_range.cited_in _ c.requires.j_bound) }

pub overflow_mul-result : goal.overflow_mul-result
overflow_mul-result c = subst (SFits w64) (sym (product_is c)) (product_fits c)

pub returns : goal.returns
returns c = ap (λ (z : ℤ). to_z w64 (of_z w64 z)) (product_is c) ∙ to_z-of_z {w = w64} (product_fits c)
