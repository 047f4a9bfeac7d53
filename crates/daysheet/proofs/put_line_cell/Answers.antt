-- `daysheet::put_line_cell` meets its contract: a semicolon, and what came of the hour.
use Rattle.std.proofs.Common.{arith}
use Rattle.text.proofs.PutLaws.{put_more}
use Rattle.output.proofs.PuttingLaws.{put_printed}
use Rattle.daysheet.specs.Sheet.{line_cell}
use Rattle.daysheet.proofs.put_line_cell.Goals as goal

pub returns-in-Answered : goal.returns-in-Answered
unfolding line_cell
returns-in-Answered c = rw (c.in-Answered.is, ← c.own_of.ensures) (put_printed (put_more c.put_byte-at.ensures (omega arith) c.put_own.ensures))

pub returns-in-Refused : goal.returns-in-Refused
unfolding line_cell
returns-in-Refused c = rw c.in-Refused.is (put_printed (put_more c.put_byte-at.ensures (omega arith) c.put_refused.ensures))

pub returns-in-Unread : goal.returns-in-Unread
unfolding line_cell
returns-in-Unread c = rw c.in-Unread.is (put_printed (put_more c.put_byte-at.ensures (omega arith) c.put_byte.ensures))
