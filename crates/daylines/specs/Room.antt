-- How much room the lines of an hour take behind its label.
use Rattle.std.specs.Prelude.{ℕ, ◌+◌, ◌*◌}
use Rattle.limits.specs.Limits.{borders_most, rows_most, bytes_most}

-- a label has no more bytes: the name of a file has none either
abbrev pub label_most : ℕ
label_most = 255

-- no answer has more lines: an A line for each border, an M line for each row, and the R line
abbrev pub lines_most : ℕ
lines_most = borders_most + rows_most + 1

-- no hour's lines are longer: each with a label and a tab, and the answer itself
abbrev pub hour_room : ℕ
hour_room = bytes_most + lines_most * (label_most + 1)
