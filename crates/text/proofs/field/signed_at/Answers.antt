-- `text::field::signed_at` meets its contract: by its first byte the field is one of the two cases of `signed_at`. What follows a minus stands in the line,
-- so that its place fits.
use mathlib.Core.Path.{◌≡◌, sym, ap, ap₂, ◌∙◌}
use mathlib.Core.Bool.{true}
use Prim.Native.Nat.{ℕ, ◌+◌}
use native.Mathlib.Omega.{arith}
use lib.Dec.{eqb}
use lib.ListN.{get_or}
use Rattle.text.specs.Fields.{Parsed, positive, negative}
use Rattle.text.proofs.NumberTrip.{signed_plus, signed_minus}
use Rattle.text.proofs.FieldLaws.{value_lt, dash_within}
use Rattle.text.proofs.field.signed_at.Goals as goal

dash : (c : goal.Then-has_minus) → eqb (get_or c.args.line.now c.args.at 0) 45 ≡ true
dash c = sym c.has_minus.ensures ∙ c.if-has_minus.true

pub overflow_add-at : goal.overflow_add-at
overflow_add-at c = omega (arith, dash_within c.args.line.now c.args.at (dash c))

pub overflow_add-at-then-has_minus : goal.overflow_add-at-then-has_minus
overflow_add-at-then-has_minus c =
    let dash : eqb (get_or c.args.line.now c.args.at 0) 45 ≡ true = sym c.has_minus.ensures ∙ c.if-has_minus.true in
    omega (arith, dash_within c.args.line.now c.args.at (dash))

pub overflow_add-at-then-has_minus-2 : goal.overflow_add-at-then-has_minus-2
overflow_add-at-then-has_minus-2 c =
    let dash : eqb (get_or c.args.line.now c.args.at 0) 45 ≡ true = sym c.has_minus.ensures ∙ c.if-has_minus.true in
    omega (arith, dash_within c.args.line.now c.args.at (dash))

pub minus-requires : goal.minus-requires
minus-requires c = rw c.number_at.ensures (value_lt c.args.line.now (c.args.at + 1) c.args.stop)

pub returns-then-has_minus : goal.returns-then-has_minus
returns-then-has_minus c =
    let dash : eqb (get_or c.args.line.now c.args.at 0) 45 ≡ true = sym c.has_minus.ensures ∙ c.if-has_minus.true in
    c.minus.ensures
    ∙ ap₂ (λ (first : ℕ) (n : Parsed ℕ). negative first (c.args.at + 1) n) c.byte_at.ensures c.number_at.ensures
    ∙ signed_minus c.args.line.now c.args.at c.args.stop (dash)

pub plus-requires : goal.plus-requires
plus-requires c = rw c.number_at-2.ensures (value_lt c.args.line.now c.args.at c.args.stop)

pub returns : goal.returns
returns c = c.plus.ensures ∙ ap positive c.number_at-2.ensures ∙ signed_plus c.args.line.now c.args.at c.args.stop (sym c.has_minus.ensures ∙ c.if-has_minus.false)
