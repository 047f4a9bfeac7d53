-- A refusal as text (01, "Result text").
use Rattle.std.specs.Prelude.{List, [], ◌∷◌, ℕ, ◌+◌}
use Prim.Native.Char.{code}
use Rattle.refusals.specs.declared.Refusal.{Refusal}
use Rattle.refusals.specs.Refusals.{number_of, place_of, byte_of}
use Rattle.text.specs.Written.{decimal, line_text}

-- one line E, number, place, and the byte to blame (02, E5)
abbrev pub refusal_line : (number place byte : ℕ) → List ℕ
refusal_line number place byte = line_text (code "E") (decimal number ∷ decimal place ∷ decimal byte ∷ [])

unfoldable pub refusal_text : Refusal → List ℕ
refusal_text w = refusal_line (number_of w) (place_of w) (byte_of w)

-- no E line that the code makes is longer: a letter, three tabs, an LF, a number of 32 bits (10 digits), a place and a byte of 64 (20 digits each)
abbrev pub refusal_most : ℕ
refusal_most = 5 + 10 + 20 + 20
