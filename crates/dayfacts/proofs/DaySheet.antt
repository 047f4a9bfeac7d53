-- The sheet of the tables that reading a day leaves is the day's sheet over the texts that came. Nobody cites it: it is the product.
use mathlib.Core.Path.{◌≡◌, ap, ap₂, ◌∙◌}
use mathlib.Core.Bool.{Bool}
use mathlib.Core.List.{List, map}
use Prim.Native.Nat.{ℕ}
use lib.ListN.{take}
use Rattle.daysheet.specs.declared.Hour.{Hour}
use Rattle.daysheet.specs.Sheet.{sheet_text}
use Rattle.hourtables.specs.Day.{came_of, Day, day_sheet}

pub day_sheet_lem : (all : Bool) (marks blank : List ℕ) (labels : List (List ℕ)) {n : ℕ} {hours : List Hour} {ways atcs : List ℕ} (d : Day all marks n hours blank blank ways atcs)
    → sheet_text labels (take n hours) ways atcs ≡ day_sheet all marks blank labels d.cames
unfolding day_sheet
day_sheet_lem all marks blank labels {n} {hours} {ways} {atcs} d =
    ap (λ (records : List Hour). sheet_text labels records ways atcs) d.records
    ∙ ap₂ (sheet_text labels (map (λ came. (came_of all marks came).hour) d.cames)) d.ways_filled d.atcs_filled
