-- A day: its hours one after another, each line of each hour's answer behind the hour's label.
-- `day_text` is what the program prints for the texts that it read; `answer` is what an hour's table is answered with.
use Rattle.std.specs.Prelude.{List, [], ◌∷◌, ◌++◌, map, ℕ, None, Option, Some}
use Prim.Native.Char.{code}
use Rattle.text.specs.Fields.{tab, feed}
use Rattle.corrections.specs.Corrections.{pieces}
use Rattle.daylines.specs.Labelled.{labelled}

-- an hour: its label, and the text of its table, which is missing where the file cannot be read
pub record Hour : Type 0 where
  pub label : List ℕ
  pub came : Option (List ℕ)

-- the line of an hour that cannot be read: X alone
abbrev pub unread_text : List ℕ
unread_text = code "X" ∷ feed ∷ []

-- what is said of an hour: the answer to its table's text, or X
abbrev pub hour_text : (answer : List ℕ → List ℕ) → Option (List ℕ) → List ℕ
hour_text answer None = unread_text
hour_text answer (Some text) = answer text

-- the hours in order, each once
abbrev pub day_text : (answer : List ℕ → List ℕ) → List Hour → List ℕ
day_text answer [] = []
day_text answer (h ∷ hours) = labelled h.label (hour_text answer h.came) ++ day_text answer hours

-- the lines of a day, hour by hour: the label, a tab, and a line of that hour's answer
abbrev pub day_lines : (answer : List ℕ → List ℕ) → List Hour → List (List ℕ)
day_lines answer [] = []
day_lines answer (h ∷ hours) = map (λ line. h.label ++ (tab ∷ line)) (pieces (hour_text answer h.came)) ++ day_lines answer hours
