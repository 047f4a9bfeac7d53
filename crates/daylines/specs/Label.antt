-- The label of an hour: its file's name without folder and ending. `label_of` is what contracts cite.
use Rattle.std.specs.Prelude.{cond, List, [], ◌∷◌, ℕ, ◌+◌, ◌-◌, eqb, leb, take, drop}
use Prim.Native.Char.{code}

-- the place after the last such byte from place i on, or `past` where there is none
abbrev pub past_last_from : (byte i past : ℕ) → (text : List ℕ) → ℕ
past_last_from byte i past [] = past
past_last_from byte i past (b ∷ text) = past_last_from byte (i + 1) (cond (eqb b byte) (i + 1) past) text

-- the place after the last such byte of a text, 0 where it has none
unfoldable pub past_last : (byte : ℕ) → (text : List ℕ) → ℕ
past_last byte text = past_last_from byte 0 0 text

-- a file's name without its ending, which begins at the last dot, unless that is the first byte
unfoldable pub without_ending : (file : List ℕ) → List ℕ
without_ending file = cond (leb (past_last (code ".") file) 1) file (take (past_last (code ".") file - 1) file)

-- the label of an hour: the name of its file without folder and ending
unfoldable pub label_of : (name : List ℕ) → List ℕ
label_of name = without_ending (drop (past_last (code "/") name) name)
