-- `daysheet::put_front` meets its contract: the front of each line.
use Rattle.output.proofs.PuttingLaws.{put_printed}
use Rattle.daysheet.specs.Sheet.{front_text}
use Rattle.daysheet.proofs.put_front.Goals as goal

pub returns-in-Rounds : goal.returns-in-Rounds
unfolding front_text
returns-in-Rounds c = rw c.in-Rounds.is (put_printed c.put_bytes.ensures)

pub returns-in-Profile : goal.returns-in-Profile
unfolding front_text
returns-in-Profile c = rw c.in-Profile.is (put_printed c.put_bytes-in-Profile.ensures)

pub returns-in-Border : goal.returns-in-Border
unfolding front_text
returns-in-Border c = rw c.in-Border.is (put_printed c.put_border.ensures)
