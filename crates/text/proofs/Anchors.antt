-- A minus, read. Nobody cites it: it refuses a definition that slipped.
use mathlib.Core.Path.{◌≡◌, refl}
use mathlib.Core.List.{[], ◌∷◌}
use Rattle.numbers.specs.Ints.{minus}
use Rattle.text.specs.Fields.{feed, dash, number_at, signed_at}
use Rattle.std.specs.Prelude.{Ok, Err}

-- "-5" and "-0", each before an LF
pub minus_five : signed_at (dash ∷ 53 ∷ feed ∷ []) 0 feed ≡ Ok (minus 5, 3)
unfolding signed_at number_at
minus_five = refl

pub minus_zero : signed_at (dash ∷ 48 ∷ feed ∷ []) 0 feed ≡ Err 1
unfolding signed_at number_at
minus_zero = refl
