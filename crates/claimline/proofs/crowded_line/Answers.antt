-- `claimline::crowded_line` meets its contract: letter, row, and the other numbers (`crowded-row`).
use mathlib.Core.Path.{◌≡◌, sym, ap, ◌∙◌}
use native.Mathlib.Omega.{arith}
use borrow.Author.Rules.{rules}
use borrow.Author.Tests.{not-true, not-false}
use mir.Syntax.{w64}
use mir.Val.{to_z, of_z}
use Rattle.claimline.specs.ClaimText.{crowded}
use Rattle.claimline.proofs.ReadLaws.{crowded_unheaded, crowded_rowless, crowded_bad, crowded_row}
use Rattle.claimline.proofs.crowded_line.Goals as goal

pub returns-then-not-headed : goal.returns-then-not-headed
returns-then-not-headed c = c.no_claim.ensures ∙ crowded_unheaded _ _ c.requires.0 (sym c.headed.ensures ∙ not-true _ c.if-not-headed.true-raw)

pub returns-in_default : goal.returns-in_default
returns-in_default c = c.no_claim-in_default.ensures ∙ crowded_rowless _ _ c.requires.0 (sym c.headed.ensures ∙ not-false _ c.if-not-headed.false-raw) _ c.field_at.ensures _ c.in_default.is

pub overflow_mul-pairs : goal.overflow_mul-pairs
overflow_mul-pairs c = omega (arith, c.requires.1)

pub overflow_add-pairs : goal.overflow_add-pairs
overflow_add-pairs c = omega (arith, c.requires.1)

pub returns-then-not-are_numbers : goal.returns-then-not-are_numbers
returns-then-not-are_numbers c = c.no_claim-then-not-are_numbers.ensures
    ∙ crowded_bad _ _ c.requires.0 (sym c.headed.ensures ∙ not-false _ c.if-not-headed.false-raw) _ c.field_at.ensures _ _ c.in-Ok.is c.are_numbers.ensures (not-true _ c.if-not-are_numbers.true-raw)

pub returns : goal.returns
returns c = let e : to_z w64 (of_z w64 c.in-Ok.row) ≡ c.in-Ok.row = search rules in
    c.crowded.ensures ∙ ap crowded e
    ∙ crowded_row _ _ c.requires.0 (sym c.headed.ensures ∙ not-false _ c.if-not-headed.false-raw) _ c.field_at.ensures _ _ c.in-Ok.is c.are_numbers.ensures (not-false _ c.if-not-are_numbers.false-raw)
