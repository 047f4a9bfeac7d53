-- What every reading of a table's rows begins with: the RAM and the state of each row, beside where its margin starts (`starts_of` of crate marginrules).
use Rattle.std.specs.Prelude.{List, ℕ, ℤ}
use Rattle.tablerules.specs.Table.{Table}
use Rattle.marginrules.specs.Margin.{rams_of}
use Rattle.staterules.specs.States.{states_of}

-- the RAM and the state of each row
pub record Standings : Type 0 where
  pub rams : List ℤ
  pub states : List ℕ

unfoldable pub standings_of : Table → Standings
standings_of t = let rams = rams_of t in record { rams = rams; states = states_of t.header t.factors rams }

-- the RAMs and states as the code fills them in
abbrev pub standings_with : (rams : List ℤ) → (states : List ℕ) → Standings
standings_with rams states = record { rams = rams; states = states }
