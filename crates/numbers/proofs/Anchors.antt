-- Small computed values of `specs/Below.antt`. Nobody cites them: they refuse a definition that slipped.
use Rattle.std.specs.Prelude.{Some}
use mathlib.Core.Path.{◌≡◌, refl}
use Prim.Native.Nat.{◌-◌}
use Rattle.numbers.specs.Below.{if_zero, lesser, least}

-- the smallest of 10, 9 and 8 is 8; the first does not count
pub smallest : least 3 (λ i. i) (λ i. 10 - i) ≡ Some 8
unfolding least lesser if_zero
smallest = refl
