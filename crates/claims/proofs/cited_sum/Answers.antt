use mathlib.Core.Path.{◌≡◌, refl, sym, ap, subst, ◌∙◌}
use Prim.Native.Nat.{ℕ, ◌+◌, ◌<◌}
use native.Mathlib.Omega.{arith}
use borrow.Author.Rules.{sfits_of}
use lib.IntN.{ℤ, nat_abs, ◌+ℤ◌}
use mir.Facts.{to_z-of_z}
use mir.Val.{SFits, to_z, of_z}
use mir.Syntax.{w64}
use Rattle.numbers.specs.Ints.{sum_ℤ}
use Rattle.numbers.proofs.IntLaws.{plain, natural_cast, inside_pos, within_fits}
use Rattle.claimrules.specs.Claims.{pairs, pairs_most, cited_sum}
use Rattle.claims.proofs.FormLaws.{terms, few_pairs, sum_in, sum_next}
use Rattle.claims.proofs.cited_sum.Goals as goal

below : (c : goal.In-loop-j) → c.loop-j.j < nat_abs (pairs c.args.claim)
below c = omega (arith, c.loop-j.invariant.count)

abbrev j : (c : goal.After-multiplied-sum) → ℕ
j c = c.loop-j.j

abbrev next : (c : goal.After-multiplied-sum) → ℤ
next c = to_z w64 c.loop-j.sum-bits +ℤ to_z w64 (of_z w64 c.multiplied-sum.result)

turned : (c : goal.After-multiplied-sum) → (next c) ≡ sum_ℤ ((j c) + 1) (terms c.args.claim c.args.xs.now c.args.stride c.args.at)
turned c = sum_next (terms c.args.claim c.args.xs.now c.args.stride c.args.at) (j c) c.loop-j.invariant.so_far (to_z-of_z {w = w64} (sfits_of c.multiplied-sum.type_inv) ∙ c.multiplied-sum.ensures)

next_fits : (c : goal.After-multiplied-sum) → SFits w64 (next c)
next_fits c = subst (SFits w64) (sym (turned c)) (within_fits (sum_in c.requires.claim_in_range c.requires.lent ((j c) + 1) (omega (arith, below c.before))) tt)

pub overflow_cast-n : goal.overflow_cast-n
overflow_cast-n c = natural_cast _ _ c.pairs-1.given (inside_pos 0 pairs_most _ c.requires.claim_in_range.pairs_in_lem).is

pub loop-j-init : goal.loop-j-init
unfolding sum_ℤ
loop-j-init c = record { count = ap nat_abs (plain (pairs c.args.claim) c.pairs-1.given); high = omega arith; so_far = refl }

pub multiplied-sum-requires : goal.multiplied-sum-requires
multiplied-sum-requires c = record { lent = c.requires.lent; claim_in_range = c.requires.claim_in_range; j_bound = below c }

pub overflow_add-sum : goal.overflow_add-sum
overflow_add-sum c = next_fits c

pub overflow_step-j : goal.overflow_step-j
overflow_step-j c = omega (arith, below c.before, few_pairs c.requires.claim_in_range)

pub loop-j-preserved : goal.loop-j-preserved
loop-j-preserved c = record { count = c.loop-j.invariant.count; high = omega arith; so_far = to_z-of_z {w = w64} (next_fits c) ∙ turned c }

pub returns : goal.returns
unfolding cited_sum
returns c = let all : c.loop-j.j ≡ nat_abs (pairs c.args.claim) = omega (arith, c.loop-j.invariant.count, c.loop-j.invariant.high) in
    c.loop-j.invariant.so_far ∙ ap (λ (k : ℕ). sum_ℤ k (terms c.args.claim c.args.xs.now c.args.stride c.args.at)) all
