-- The numbers of include/keravnoth.h as the definitions have them, each with the header's name behind it: the gate compares the two.
use mathlib.Core.Path.{refl}
use mathlib.Core.Bool.{true, false}
use mathlib.Core.List.{[], ◌∷◌}
use Prim.Native.Nat.{◌*◌}
use Rattle.numbers.specs.Computed.{◌is◌, Hold}
use Rattle.limits.specs.Limits.{zones_most, borders_most, rows_most, bytes_most}
use Rattle.meanings.proofs.Room.{meaning_most}
use Rattle.cornerrules.specs.Corners.{sheet_borders_most}
use Rattle.cornertext.specs.CornerText.{sheet_most}
use Rattle.claimrules.specs.Claims.{pairs_most}
use Rattle.claimtext.specs.Published.{published_most}
use Rattle.result.specs.Records.{records_most}
use Rattle.rowsheet.proofs.LengthLaws as rowsheet
use Rattle.answer.specs.Printed.{answer_most}
use Rattle.writing.proofs.LengthLaws.{table_most}
use Rattle.sheets.specs.Room.{sheet_room}
use Rattle.worst.specs.Worst.{rounds_worst}
use Rattle.coded.specs.Version.{version}

pub header_figures : Hold (
    version is 10000  -- KERAVNOTH_VERSION
    ∷ zones_most is 16  -- KERAVNOTH_ZONES_MOST
    ∷ borders_most is 64  -- KERAVNOTH_BORDERS_MOST
    ∷ rows_most is 200  -- KERAVNOTH_ROWS_MOST
    ∷ rows_most * zones_most is 3200  -- KERAVNOTH_FACTORS_MOST
    ∷ rows_most * borders_most is 12800  -- KERAVNOTH_P_MOST
    ∷ sheet_borders_most is 12  -- KERAVNOTH_CORNER_BORDERS_MOST
    ∷ sheet_most is 4096  -- KERAVNOTH_CORNERS_MOST
    ∷ bytes_most is 65536  -- KERAVNOTH_TEXT_MOST
    ∷ table_most is 58212  -- KERAVNOTH_WRITE_MOST
    ∷ records_most is 22790  -- KERAVNOTH_RESULT_TEXT_MOST
    ∷ answer_most is 22790  -- KERAVNOTH_ANSWER_MOST
    ∷ sheet_room is 110592  -- KERAVNOTH_CORNER_TEXT_MOST
    ∷ published_most is 8800  -- KERAVNOTH_PUBLISHED_TEXT_MOST
    ∷ rowsheet.sheet_most is 60200  -- KERAVNOTH_WRITE_ROWS_MOST
    ∷ meaning_most is 215  -- KERAVNOTH_REFUSAL_TEXT_MOST
    ∷ pairs_most is 16  -- KERAVNOTH_CLAIM_PAIRS_MOST
    ∷ rounds_worst false is 1852  -- KERAVNOTH_ROUNDS_MOST
    ∷ rounds_worst true is 1910  -- KERAVNOTH_ROUNDS_INTRADAY_MOST
    ∷ [])
header_figures = refl
