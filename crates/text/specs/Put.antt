-- Text written into lent bytes at a place (01, "The table as text", "Result text"): all other bytes stay as they were.
-- `Put` is what contracts cite. Left to the caller: that there is room.
use Rattle.std.specs.Prelude.{◌≡◌, List, ◌++◌, ℕ, ◌+◌, length, take, drop}

-- the lent bytes with a text at a place
abbrev pub put : (text : List ℕ) → (at : ℕ) → (out : List ℕ) → List ℕ
put text at out = take at out ++ (text ++ drop (at + length text) out)

-- what a writer leaves: the place after the text, and the lent bytes
pub record Put (text : List ℕ) (at : ℕ) (out : List ℕ) (next : ℕ) (out' : List ℕ) : Type 0 where
  pub after : next ≡ at + length text
  pub wrote : out' ≡ put text at out
