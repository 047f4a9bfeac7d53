-- What a row's share leaves of a cap (02, E4). `tight` is what contracts cite, here and in walk.
use Rattle.std.specs.Prelude.{ℕ, ◌/◌, min}
use Rattle.numbers.specs.Below.{if_zero}

-- a cap that a row with this equal share tightens, where the border's factor p is f; a factor of 0 does not change it
unfoldable pub tight : (f share cap : ℕ) → ℕ
tight f share cap = if_zero f cap (min cap (share / f))
