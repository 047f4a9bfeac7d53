-- How long a buffer must be for everything that is printed at once: a program lends one, and need not know what is printed.
use Rattle.std.specs.Prelude.{ℕ, ◌+◌, ◌*◌}
use Rattle.cornertext.specs.CornerText.{sheet_most}

-- no line of a corner sheet is longer: a letter, three tabs, an LF, a row of 3 digits, a corner of 4, a flow of 14 and its minus
abbrev pub sheet_line_most : ℕ
sheet_line_most = 5 + 3 + 4 + 15

-- no row's sheet is longer
abbrev pub sheet_room : ℕ
sheet_room = sheet_most * sheet_line_most
