-- What the code writes, which keeps all lines until it knows where the last one that stays ends. `lines_all` is what contracts cite.
use Rattle.std.specs.Prelude.{cond, List, [], ◌∷◌, ◌++◌, ℕ}
use Rattle.text.specs.Fields.{feed}
use Rattle.tidyrules.specs.Cut.{Cut, lastly, ended}
use Rattle.tidyrules.specs.Fields.{empty}
use Rattle.tidyrules.specs.Tidied.{line_tidied}

-- each line with its LF, also those at the end that go; what follows the last LF is a line where it is not empty
abbrev pub lines_all : Cut → List ℕ
lines_all (lastly line) = cond (empty line) [] (line_tidied line ++ (feed ∷ []))
lines_all (ended line stop rest) = line_tidied line ++ (feed ∷ lines_all rest)
