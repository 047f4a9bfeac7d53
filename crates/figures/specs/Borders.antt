-- Border records as a lent table has them.
use Rattle.std.specs.Prelude.{List, [], ◌∷◌, ℕ, ℤ, pos}
use Rattle.numbers.specs.Ints.{minus}

-- from, to and LTA, without hubs
abbrev pub plain_border : (from to lta : ℕ) → List ℤ
plain_border from to lta = pos from ∷ pos to ∷ pos lta ∷ minus 1 ∷ minus 1 ∷ []
