-- ---- the rounds, for any rows, borders and factors (01, "Extraction"; 02, E7)
pub mod Rounds
pub mod RoundStops
pub mod SameRounds
-- ---- laws that several of the theorems below need
pub mod SignedSums
pub mod PlaceLaws
pub mod SetupLaws
pub mod LoadLaws
pub mod ShiftLaws
pub mod ToldLaws
-- ---- demand 3: of a table, of what the calls leave, of the answers in text
pub mod DemandBy
pub mod Demand3
pub mod DemandLeft
pub mod TextDemand
-- ---- which row stopped a border (02, E7); factors by zone and by border (02, E9)
pub mod Stopped
pub mod ByBorder
-- ---- why a border got no more
pub mod Explained
-- ---- all borders marked give the ordinary answer (02, E13)
pub mod EveryMark
pub mod TextMarks
-- ---- tables with the same result: other order, a row replaced, the list shortened (02, E6, E14)
pub mod Alike
pub mod Classes
pub mod Moved
pub mod OneKept
pub mod ReplacedSame
pub mod ShorteningLaws
pub mod Shortening
-- ---- refusal 7 is not given where CVA and IVA are 0; `bound` refuses what the extraction refuses
pub mod Seven
pub mod BoundSeven
pub mod BoundRefusals
-- ---- S and the corner sheet (01, "Margin of a row"; 02, E1)
pub mod LargestCorner
pub mod CornerBits
pub mod CornerSheet
-- ---- the parts of a margin
pub mod PartsSum
pub mod PartsOfTheRounds
-- ---- claimed rows can go (02, E10)
pub mod Outweighed
pub mod CanGo
pub mod SameAllowed
-- ---- the lines of a result, field by field
pub mod Said
