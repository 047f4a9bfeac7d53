-- `claims::value_of` meets its contract: a row that exists has its value in the lent list (`value-place`).
use mir.Syntax.{w64}
use mathlib.Core.Path.{sym, ap, ◌∙◌, subst}
use Rattle.numbers.proofs.IntLaws.{plain}
use Rattle.claims.specs.Magnitudes.{value_of}
use native.Mathlib.Omega.{arith}
use lib.Dec.{T}
use lib.IntN.{ℤ, nat_abs}
use lib.Signed.{non_neg}
use mir.Facts.{to_z-of_z, Fits-nat_abs}
use Rattle.types.proofs.RangeLaws.{exists_in}
use Rattle.claims.proofs.FormLaws.{value_place}
use Rattle.claims.proofs.value_of.Goals as goal

pub overflow_cast-i : goal.overflow_cast-i
overflow_cast-i c = simp (to_z-of_z {w = w64} c.ranges.row) (subst (λ (y : ℤ). T (non_neg y)) (sym (exists_in _ _ c.requires.row_value).0) tt, Fits-nat_abs tt c.ranges.row)

pub overflow_mul-result : goal.overflow_mul-result
overflow_mul-result c = simp (to_z-of_z {w = w64} c.ranges.row) (omega (arith, value_place c.requires.lent c.args.row c.requires.row_value))

pub overflow_add-result : goal.overflow_add-result
overflow_add-result c = simp (to_z-of_z {w = w64} c.ranges.row) (omega (arith, value_place c.requires.lent c.args.row c.requires.row_value))

pub offset_bounds-xs-i : goal.offset_bounds-xs-i
offset_bounds-xs-i c = simp (to_z-of_z {w = w64} c.ranges.row) (omega (arith, value_place c.requires.lent c.args.row c.requires.row_value))

pub bounds-xs-i : goal.bounds-xs-i
bounds-xs-i c = simp (to_z-of_z {w = w64} c.ranges.row) (value_place c.requires.lent c.args.row c.requires.row_value)

pub returns : goal.returns
returns c = plain _ c.result-1.given ∙ ap (λ (n : ℤ). value_of c.args.xs.now c.args.stride c.args.at (nat_abs n)) (to_z-of_z {w = w64} c.ranges.row)
