-- The margins in the midst of the work: what the rows have left after a given number of the rules' rounds. What a round does is rounds' (`Rounds.antt`, `Last.antt`).
-- No margin depends on where the borders stand, so exchanges are not asked for (`proofs/ReplayLaws.antt`: from any exchanges the margins are these).
use Rattle.std.specs.Prelude.{List, [], ℕ}
use Rattle.rounds.specs.Rounds.{Grid}
use Rattle.rounds.specs.Last.{after}

unfoldable pub margins_after : Grid → (margins : List ℕ) → (rounds : ℕ) → List ℕ
margins_after g margins rounds = (after g (record { margins = margins; x = [] }) rounds).margins
