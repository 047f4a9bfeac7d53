-- `claims::is_formed` meets its contract: each test is the definition's, of the claim's numbers.
use mathlib.Core.Path.{◌≡◌, sym, ap, subst, ◌∙◌}
use mathlib.Core.Bool.{Bool, true}
use mathlib.Core.List.{List}
use Prim.Native.Nat.{ℕ, ◌≤◌}
use borrow.Author.Tests.{not-true, not-false}
use lib.IntN.{ℤ, pos, nat_abs}
use mir.Val.{to_z, of_z}
use mir.Syntax.{w64}
use Rattle.numbers.specs.Ints.{inside}
use Rattle.numbers.specs.Below.{all_below}
use Rattle.numbers.proofs.IntLaws.{plain, natural_cast, inside_pos}
use Rattle.claimrules.specs.Claims.{times_most, pairs_most, claimed_row, denominator, pairs, kept_row, pair_good, formed_by}
use Rattle.claims.specs.Named.{flagged}
use Rattle.claims.proofs.is_formed.Goals as goal

pub returns-then-not-kept_row : goal.returns-then-not-kept_row
unfolding formed_by
returns-then-not-kept_row c = let states : List ℕ = c.args.states.now in
    let claim : List ℤ = c.args.claim in
    let row_is : to_z w64 (of_z w64 (claimed_row claim)) ≡ claimed_row claim = plain (claimed_row claim) c.row-1.given in
    let kept_is : c.kept_row.result ≡ kept_row states (claimed_row claim) = c.kept_row.ensures ∙ ap (kept_row states) row_is in
    simp (sym kept_is ∙ not-true _ c.if-not-kept_row.true-raw)

pub returns-then-is_flagged : goal.returns-then-is_flagged
unfolding formed_by
returns-then-is_flagged c = let states : List ℕ = c.args.states.now in
    let claim : List ℤ = c.args.claim in
    let row_is : to_z w64 (of_z w64 (claimed_row claim)) ≡ claimed_row claim = plain (claimed_row claim) c.row-1.given in
    let kept_is : c.kept_row.result ≡ kept_row states (claimed_row claim) = c.kept_row.ensures ∙ ap (kept_row states) row_is in
    let earlier : List Bool = c.args.earlier.now in
    let before-is : c.is_flagged.result ≡ flagged earlier (claimed_row claim) = c.is_flagged.ensures ∙ ap (flagged earlier) row_is in
    simp (sym kept_is ∙ not-false _ c.if-not-kept_row.false-raw, sym before-is ∙ c.if-is_flagged.true)

pub returns-then-not-inside : goal.returns-then-not-inside
unfolding formed_by
returns-then-not-inside c = let states : List ℕ = c.args.states.now in
    let claim : List ℤ = c.args.claim in
    let row_is : to_z w64 (of_z w64 (claimed_row claim)) ≡ claimed_row claim = plain (claimed_row claim) c.row-1.given in
    let kept_is : c.kept_row.result ≡ kept_row states (claimed_row claim) = c.kept_row.ensures ∙ ap (kept_row states) row_is in
    let earlier : List Bool = c.args.earlier.now in
    let before-is : c.is_flagged.result ≡ flagged earlier (claimed_row claim) = c.is_flagged.ensures ∙ ap (flagged earlier) row_is in
    let times-is : c.inside.result ≡ inside (pos 1) (pos times_most) (denominator claim) = c.inside.ensures ∙ ap (inside (pos 1) (pos times_most)) (plain (denominator claim) c.denominator-1.given) in
    simp (sym kept_is ∙ not-false _ c.if-not-kept_row.false-raw, sym before-is ∙ c.if-is_flagged.false, sym times-is ∙ not-true _ c.if-not-inside.true-raw)

pub returns-then-not-inside-2 : goal.returns-then-not-inside-2
unfolding formed_by
returns-then-not-inside-2 c = let states : List ℕ = c.args.states.now in
    let claim : List ℤ = c.args.claim in
    let row_is : to_z w64 (of_z w64 (claimed_row claim)) ≡ claimed_row claim = plain (claimed_row claim) c.row-1.given in
    let kept_is : c.kept_row.result ≡ kept_row states (claimed_row claim) = c.kept_row.ensures ∙ ap (kept_row states) row_is in
    let earlier : List Bool = c.args.earlier.now in
    let before-is : c.is_flagged.result ≡ flagged earlier (claimed_row claim) = c.is_flagged.ensures ∙ ap (flagged earlier) row_is in
    let times-is : c.inside.result ≡ inside (pos 1) (pos times_most) (denominator claim) = c.inside.ensures ∙ ap (inside (pos 1) (pos times_most)) (plain (denominator claim) c.denominator-1.given) in
    let pairs_is : c.inside-2.result ≡ inside (pos 0) (pos pairs_most) (pairs claim) = c.inside-2.ensures ∙ ap (inside (pos 0) (pos pairs_most)) (plain (pairs claim) c.pairs-1.given) in
    simp (sym kept_is ∙ not-false _ c.if-not-kept_row.false-raw, sym before-is ∙ c.if-is_flagged.false, sym times-is ∙ not-false _ c.if-not-inside.false-raw, sym pairs_is ∙ not-true _ c.if-not-inside-2.true-raw)

pub overflow_cast-pairs : goal.overflow_cast-pairs
overflow_cast-pairs c = let claim : List ℤ = c.args.claim in
    let pairs_is : c.inside-2.result ≡ inside (pos 0) (pos pairs_most) (pairs claim) = c.inside-2.ensures ∙ ap (inside (pos 0) (pos pairs_most)) (plain (pairs claim) c.pairs-1.given) in
    let pairs_in_lem : inside (pos 0) (pos pairs_most) (pairs claim) ≡ true = sym pairs_is ∙ not-false _ c.if-not-inside-2.false-raw in
    natural_cast _ _ c.pairs-1.given (inside_pos 0 pairs_most _ pairs_in_lem).is

pub pairs_good-requires : goal.pairs_good-requires
pairs_good-requires c = let claim : List ℤ = c.args.claim in
    let pairs_is : c.inside-2.result ≡ inside (pos 0) (pos pairs_most) (pairs claim) = c.inside-2.ensures ∙ ap (inside (pos 0) (pos pairs_most)) (plain (pairs claim) c.pairs-1.given) in
    let pairs_in_lem : inside (pos 0) (pos pairs_most) (pairs claim) ≡ true = sym pairs_is ∙ not-false _ c.if-not-inside-2.false-raw in
    subst (λ (z : ℤ). nat_abs z ≤ pairs_most) (sym (plain (pairs claim) c.pairs-1.given)) (inside_pos 0 pairs_most _ pairs_in_lem).most

pub returns : goal.returns
unfolding formed_by
returns c = let states : List ℕ = c.args.states.now in
    let named : List Bool = c.args.named.now in
    let claim : List ℤ = c.args.claim in
    let row_is : to_z w64 (of_z w64 (claimed_row claim)) ≡ claimed_row claim = plain (claimed_row claim) c.row-1.given in
    let kept_is : c.kept_row.result ≡ kept_row states (claimed_row claim) = c.kept_row.ensures ∙ ap (kept_row states) row_is in
    let earlier : List Bool = c.args.earlier.now in
    let before-is : c.is_flagged.result ≡ flagged earlier (claimed_row claim) = c.is_flagged.ensures ∙ ap (flagged earlier) row_is in
    let times-is : c.inside.result ≡ inside (pos 1) (pos times_most) (denominator claim) = c.inside.ensures ∙ ap (inside (pos 1) (pos times_most)) (plain (denominator claim) c.denominator-1.given) in
    let pairs_is : c.inside-2.result ≡ inside (pos 0) (pos pairs_most) (pairs claim) = c.inside-2.ensures ∙ ap (inside (pos 0) (pos pairs_most)) (plain (pairs claim) c.pairs-1.given) in
    let pairs_in_lem : inside (pos 0) (pos pairs_most) (pairs claim) ≡ true = sym pairs_is ∙ not-false _ c.if-not-inside-2.false-raw in
    simp (
      sym kept_is ∙ not-false _ c.if-not-kept_row.false-raw,
      sym before-is ∙ c.if-is_flagged.false,
      sym times-is ∙ not-false _ c.if-not-inside.false-raw,
      pairs_in_lem,
    )
    (c.pairs_good.ensures ∙ ap (λ (z : ℤ). all_below (nat_abs z) (pair_good states (flagged named) claim)) (plain (pairs claim) c.pairs-1.given))
