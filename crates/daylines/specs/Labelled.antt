-- A text whose lines stand each behind a label and a tab: `labelled` is what contracts cite.
-- What is filed under a label is taken back from such lines: `filed`.
use Rattle.std.specs.Prelude.{◌≡◌, Bool, true, false, cond, List, [], ◌∷◌, ◌++◌, ℕ, ◌+◌, eqb}
use Rattle.text.specs.Fields.{tab, feed}
use Rattle.corrections.specs.Corrections.{pieces}

-- what stands before a byte: the label and a tab where a line begins, else nothing
unfoldable pub heading : (label : List ℕ) → (begins : Bool) → List ℕ
heading label begins = cond begins (label ++ (tab ∷ [])) []

-- each byte as it is, with what stands before it; a line begins behind each LF
unfoldable pub labelled_from : (label : List ℕ) → (begins : Bool) → (text : List ℕ) → List ℕ
labelled_from label begins [] = []
labelled_from label begins (b ∷ text) = heading label begins ++ (b ∷ labelled_from label (eqb b feed) text)

-- each line of a text behind the label and a tab; the first byte begins a line
abbrev pub labelled : (label text : List ℕ) → List ℕ
labelled label text = labelled_from label true text

-- how many lines begin in a text
unfoldable pub lines_begun : (begins : Bool) → (text : List ℕ) → ℕ
lines_begun begins [] = 0
lines_begun begins (b ∷ text) = cond begins 1 0 + lines_begun (eqb b feed) text

-- the last line of a text is ended by its LF
abbrev pub Ended : (begins : Bool) → (text : List ℕ) → Type 0
Ended begins [] = begins ≡ true
Ended begins (b ∷ text) = Ended (eqb b feed) text

-- what follows `front` in a line that begins with it; nothing of another line
abbrev pub behind : (front line : List ℕ) → List ℕ
behind [] line = line
behind (f ∷ front) [] = []
behind (f ∷ front) (b ∷ line) = cond (eqb f b) (behind front line) []

-- of each line that begins with `front` what follows it, one after another
abbrev pub gathered : (front : List ℕ) → (lines : List (List ℕ)) → List ℕ
gathered front [] = []
gathered front (line ∷ lines) = behind front line ++ gathered front lines

-- what a text has under a label: its lines that begin with the label and a tab, with these taken off
abbrev pub filed : (label text : List ℕ) → List ℕ
filed label text = gathered (label ++ (tab ∷ [])) (pieces text)
