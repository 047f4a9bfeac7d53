-- 02, E14 on the worked hour, by computation: row 3, which another stands for, takes part and costs nothing; and its rows in the other order come to the same.
use Rattle.std.specs.Prelude.{Ok}
use mathlib.Core.Path.{refl}
use mathlib.Core.Bool.{true}
use mathlib.Core.List.{List, [], ◌∷◌}
use Prim.Native.Nat.{ℕ, ◌-◌}
use Rattle.refusals.specs.Refusals.{Judged, then}
use Rattle.tablerules.specs.Table.{Table}
use Rattle.rounds.specs.Rounds.{Outcome}
use Rattle.extractrules.specs.Extraction.{Result, outcome_of}
use Rattle.promises.specs.Taking.{outcome_taking, unshortened}
use Rattle.promises.specs.Order.{reorder}
use Rattle.numbers.specs.Computed.{◌is◌, Hold}
use Rattle.figures.specs.Computing.{computing}
use Rattle.figures.specs.Hour.{hour_table}

-- where an outcome ends: rounds, margins left, and exchanges in kW
abbrev ends : Judged Result → Judged Outcome
ends j = then j (λ r. Ok r.outcome)

abbrev end : (margins : List ℕ) → Judged Outcome
end margins = Ok (record { rounds = 21; state = record { margins = margins; x = 2599999 ∷ 1800000 ∷ [] } })

-- the last row first
abbrev turned : Table
turned = reorder (λ i. 3 - i) hour_table

pub hour_shortened : Hold (
    -- rows 0, 1 and 3 take part, where 01 has rows 0 and 1 (`hour-demand`'s `result`): the same rounds and exchanges, and row 3 keeps 30,000,020,000 grains
    ends (outcome_taking unshortened true [] hour_table) is end (20000 ∷ 0 ∷ 0 ∷ 30000020000 ∷ [])
    -- the hour's rows in the other order, the last first
    ∷ ends (outcome_of turned) is end (0 ∷ 0 ∷ 0 ∷ 20000 ∷ [])
    ∷ [])
unfolding computing
hour_shortened = refl
