use mathlib.Core.Path.{◌≡◌, refl, ap, ◌∙◌}
use native.Mathlib.Omega.{arith}
use lib.IntN.{ℤ}
use lib.ListN.{length}
use Rattle.numbers.proofs.IntLaws.{plain}
use Rattle.claims.specs.Named.{named_rows, name_row}
use Rattle.claims.proofs.NameLaws.{none_long, named_none, named_long, name_more}
use Rattle.claims.proofs.name_rows.Goals as goal

pub loop-k-init : goal.loop-k-init
loop-k-init c = (omega arith, c.requires ∙ named_none _)

pub loop-k-preserved : goal.loop-k-preserved
loop-k-preserved c = (omega arith, c.name_row.ensures ∙ ap (λ (z : ℤ). name_row z c.loop-k.named) (plain _ c.name_row-arg-1.given) ∙ ap (name_row _) c.loop-k.invariant.1 ∙ name_more _ c.loop-k.k refl)

pub shape_of-named : goal.shape_of-named
shape_of-named c = omega (arith, ap length c.loop-k.invariant.1, ap length c.requires, none_long, named_long c.args.claims.now c.loop-k.k)

pub returns : goal.returns
returns c = let all : c.loop-k.k ≡ length c.args.claims.now = omega (arith, c.loop-k.invariant.0) in
    c.loop-k.invariant.1 ∙ ap (named_rows c.args.claims.now) all
