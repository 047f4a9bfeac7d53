-- An hour with a cable by hubs (02, E3): its text, its result, and the table as a value. It is hours/cable.tsv.
-- Zones 2 and 3 are the hubs. Border 0 is the cable from zone 0 to zone 1, by sending hub 2 and receiving hub 3; border 1 has the same ends, and no hubs.
use Rattle.std.specs.Prelude.{List, [], ◌∷◌, ◌++◌, ℕ, pos}
use Rattle.numbers.specs.Ints.{minus}
use Rattle.tablerules.specs.Table.{Table}
use Rattle.text.specs.Shown.{shown}
use Rattle.figures.specs.Borders.{plain_border}

abbrev pub cable_text : List ℕ
cable_text =
    shown "H 4 2 3/Z 0 200000/Z 1 -200000/Z 2 -50000/Z 3 50000/B 0 0 1 100 2 3/B 1 0 1 50/"
    ++ shown "C 0 1000000 50000 100000 20000 7000 0 1000 30000 10000 24000 12000/"
    ++ shown "C 1 200000 10000 30000 0 - 0 0 0 6000 4000 20000/"
    ++ shown "C 2 50000 0 0 0 7000 0 0 1000 0 6000 0/"

-- Row 0: the cable's factor is 30000 - 24000 + 12000 - 10000 = 8000, border 1's 20000. S = 8000 x 100000 + 20000 x 50000 = 1800000000 grains.
-- F0core = 10000000000 - 3400000000, RAM = 100000000000 - 5000000000 - 6600000000 - 100000000.
-- Row 1: the cable 0 - 4000 + 20000 - 6000 = 10000; border 1 relieves it. Row 2 is kept by its hub's factor alone, spread 6000; the cable relieves it.
-- Round 1 raises the cable by 14600000000 / 10000 = 1460000 kW, which takes all of row 1, and border 1 by 86500000000 / 2 / 20000 = 2162500 kW.
-- From then on border 1 rises by half of what row 0 has left for it, 21 times.
abbrev pub cable_result : List ℕ
cable_result =
    shown "A 0 1560 1 1/A 1 3790 22 0/"
    ++ shown "M 0 0 88300000000 20000/M 1 0 15600000000 0/M 2 0 4900000000 1109001000/R 22/"

abbrev pub cable_table : Table
cable_table =
    record {
      header = record { zones = 4; borders = 2; rows = 3; share = minus 1; intraday = 0 };
      nets = pos 200000 ∷ minus 200000 ∷ minus 50000 ∷ pos 50000 ∷ [];
      allocated = [];
      borders = (pos 0 ∷ pos 1 ∷ pos 100 ∷ pos 2 ∷ pos 3 ∷ []) ∷ plain_border 0 1 50 ∷ [];
      rows =
          (pos 1000000 ∷ pos 50000 ∷ pos 100000 ∷ pos 20000 ∷ pos 7000 ∷ pos 0 ∷ pos 1000 ∷ [])
          ∷ (pos 200000 ∷ pos 10000 ∷ pos 30000 ∷ pos 0 ∷ minus 1 ∷ pos 0 ∷ pos 0 ∷ [])
          ∷ (pos 50000 ∷ pos 0 ∷ pos 0 ∷ pos 0 ∷ pos 7000 ∷ pos 0 ∷ pos 0 ∷ [])
          ∷ [];
      factors = pos 30000 ∷ pos 10000 ∷ pos 24000 ∷ pos 12000 ∷ pos 0 ∷ pos 6000 ∷ pos 4000 ∷ pos 20000 ∷ pos 1000 ∷ pos 0 ∷ pos 6000 ∷ pos 0 ∷ [];
    }
