-- Bytes stored as far as there is room: what does not fit is counted and left out. `Clip` and `LinePut` are what contracts cite.
use Rattle.std.specs.Prelude.{◌≡◌, not, List, ℕ, ◌+◌, length}
use Rattle.std.proofs.lemmas.List.Edits.{sets}
use Rattle.tidyrules.specs.Tidied.{line_tidied, bare}
use Rattle.tidy.specs.declared.line.Placed.{Placed}

-- a place in a text never comes near this: a text that is read has 65,536 bytes at most
abbrev pub places_most : ℕ
places_most = 1000000

-- what a writer leaves: the place after the text, and the lent bytes
pub record Clip (text : List ℕ) (at : ℕ) (out : List ℕ) (next : ℕ) (out' : List ℕ) : Type 0 where
  pub after : next ≡ at + length text
  pub wrote : out' ≡ sets out at text

-- the same of a line, and whether it has a byte but tabs and semicolons
pub record LinePut (line : List ℕ) (at : ℕ) (out : List ℕ) (r : Placed) (out' : List ℕ) : Type 0 where
  pub put : Clip (line_tidied line) at out r.next out'
  pub some : r.some ≡ not (bare (line_tidied line))
