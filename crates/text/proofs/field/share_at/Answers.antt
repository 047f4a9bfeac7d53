-- `text::field::share_at` meets its contract: by its first byte, and by the one after a minus, the field is one of the three cases of `share_at`.
use mathlib.Core.Path.{◌≡◌, sym, ap, ◌∙◌}
use mathlib.Core.Bool.{true}
use native.Mathlib.Omega.{arith}
use lib.Dec.{eqb}
use lib.ListN.{get_or}
use Rattle.text.specs.Fields.{positive}
use Rattle.text.proofs.FieldLaws.{value_lt, dash_within, share_plus, share_alone, share_other}
use Rattle.text.proofs.field.share_at.Goals as goal

dash : (c : goal.Then-has_minus) → eqb (get_or c.args.line.now c.args.at 0) 45 ≡ true
dash c = sym c.has_minus.ensures ∙ c.if-has_minus.true

pub overflow_add-at : goal.overflow_add-at
overflow_add-at c = omega (arith, dash_within c.args.line.now c.args.at (dash c))

pub overflow_add-result : goal.overflow_add-result
overflow_add-result c =
    let dash : eqb (get_or c.args.line.now c.args.at 0) 45 ≡ true = sym c.has_minus.ensures ∙ c.if-has_minus.true in
    omega (arith, dash_within c.args.line.now c.args.at (dash))

pub returns-then-byte_at-stop : goal.returns-then-byte_at-stop
returns-then-byte_at-stop c =
    let dash : eqb (get_or c.args.line.now c.args.at 0) 45 ≡ true = sym c.has_minus.ensures ∙ c.if-has_minus.true in
    share_alone c.args.line.now c.args.at c.args.stop (dash) (sym c.byte_at.ensures ∙ c.if-byte_at-stop.true)

pub overflow_add-result-then-has_minus : goal.overflow_add-result-then-has_minus
overflow_add-result-then-has_minus c =
    let dash : eqb (get_or c.args.line.now c.args.at 0) 45 ≡ true = sym c.has_minus.ensures ∙ c.if-has_minus.true in
    omega (arith, dash_within c.args.line.now c.args.at (dash))

pub returns-then-has_minus : goal.returns-then-has_minus
returns-then-has_minus c =
    let dash : eqb (get_or c.args.line.now c.args.at 0) 45 ≡ true = sym c.has_minus.ensures ∙ c.if-has_minus.true in
    share_other c.args.line.now c.args.at c.args.stop (dash) (λ e. c.if-byte_at-stop.false (c.byte_at.ensures ∙ e))

pub plus-requires : goal.plus-requires
plus-requires c = rw c.number_at.ensures (value_lt c.args.line.now c.args.at c.args.stop)

pub returns : goal.returns
returns c = c.plus.ensures ∙ ap positive c.number_at.ensures ∙ share_plus c.args.line.now c.args.at c.args.stop (sym c.has_minus.ensures ∙ c.if-has_minus.false)
