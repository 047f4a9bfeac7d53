-- `states::below` meets its contract.
use mathlib.Core.Path.{◌≡◌, sym, ◌∙◌}
use mathlib.Core.Bool.{false}
use lib.IntN.{ℤ}
use lib.Signed.{lt_z}
use mir.Facts.{to_z-of_z}
use mir.Syntax.{w64}
use mir.Val.{SFits}
use Rattle.numbers.specs.Ints.{same_ℤ}
use Rattle.types.specs.Ranges.{at_ℤ}
use Rattle.staterules.proofs.StateLaws.{below_lower, below_index, below_other}
use Rattle.states.proofs.below.Goals as goal

pub returns-then-a-b : goal.returns-then-a-b
returns-then-a-b c = let a : ℤ = at_ℤ c.args.rams.now c.args.j in
    let a-fits : SFits w64 a = record { sfits = c.a-1.given } in
    let b : ℤ = at_ℤ c.args.rams.now c.args.i in
    let b-fits : SFits w64 b = record { sfits = c.b-1.given } in
    below_lower c.args.rams.now c.args.j c.args.i (simp (to_z-of_z, a-fits, b-fits)) c.if-a-b.true

pub returns-then-same : goal.returns-then-same
returns-then-same c = let a : ℤ = at_ℤ c.args.rams.now c.args.j in
    let b : ℤ = at_ℤ c.args.rams.now c.args.i in
    let a-fits : SFits w64 a = record { sfits = c.a-1.given } in
    let b-fits : SFits w64 b = record { sfits = c.b-1.given } in
    let not_lower : lt_z a b ≡ false = simp (to_z-of_z, a-fits, b-fits) at c.if-a-b.false in
    let same_is : c.same.result ≡ same_ℤ a b = simp (to_z-of_z, a-fits, b-fits) at c.same.ensures in
    below_index c.args.rams.now c.args.j c.args.i not_lower (sym same_is ∙ c.if-same.true)

pub returns-else-same : goal.returns-else-same
returns-else-same c = let a : ℤ = at_ℤ c.args.rams.now c.args.j in
    let b : ℤ = at_ℤ c.args.rams.now c.args.i in
    let a-fits : SFits w64 a = record { sfits = c.a-1.given } in
    let b-fits : SFits w64 b = record { sfits = c.b-1.given } in
    let not_lower : lt_z a b ≡ false = simp (to_z-of_z, a-fits, b-fits) at c.if-a-b.false in
    let same_is : c.same.result ≡ same_ℤ a b = simp (to_z-of_z, a-fits, b-fits) at c.same.ensures in
    below_other c.args.rams.now c.args.j c.args.i not_lower same_is c.if-same.false
