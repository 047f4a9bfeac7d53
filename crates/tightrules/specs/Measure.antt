-- How many rounds a grid can take at most, known before the first (01, "Extraction" and demand 3): what `measure` answers. That the rounds are at most this: 2 x N x L by
-- demand 3 (rounds), the sharper bound by crate worst (`few-rounds`).
use Rattle.std.specs.Prelude.{List, ℕ, ◌*◌}
use Rattle.rounds.specs.Rounds.{Grid, most_sharers, alone_bits}
use Rattle.tightrules.specs.declared.RoundsMost.{RoundsMost}
use Rattle.tightrules.specs.Tight.{tight_bound}

-- the bound of a grid and the margins that the rounds start from: N is the most borders that one row shares among, and 2^L is above what any border could take alone
unfoldable pub bound_by : Grid → (margins : List ℕ) → RoundsMost
bound_by g margins = record { sharers = most_sharers g; bits = alone_bits g margins; rounds = 2 * most_sharers g * alone_bits g margins; sharp = tight_bound g margins }
