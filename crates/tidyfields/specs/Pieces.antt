-- What the code that repairs a field answers of it, where the definition (tidyrules: specs/Fields.antt) says it of whole texts.
use Rattle.std.specs.Prelude.{cond, List, [], ◌∷◌, ℕ}
use Rattle.tidyrules.specs.Cut.{one_of}

-- the bytes that a text begins with, up to the first that is one of two: its first piece
abbrev pub leading : (stop other : ℕ) → (text : List ℕ) → List ℕ
leading stop other [] = []
leading stop other (b ∷ s) = cond (one_of stop other b) [] (b ∷ leading stop other s)
