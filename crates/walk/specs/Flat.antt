-- The grid of a flat table of factors, as the rounds' definitions (rounds) see it.
use Rattle.walk.specs.declared.grid.Grid.{Grid}
use Rattle.rounds.specs.Rounds
use Rattle.rounds.specs.AllRounds.{flat}

abbrev pub flat_of : Grid → Rounds.Grid
flat_of g = flat g.rows g.borders g.p.now
