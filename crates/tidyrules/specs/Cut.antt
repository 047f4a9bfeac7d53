-- A text cut at certain bytes: its pieces, each but the last with the byte that ends it. Lines are a text cut at LF, fields a line cut at tabs and semicolons.
use Rattle.std.specs.Prelude.{Bool, false, cond, ◌||◌, List, [], ◌∷◌, ◌++◌, ℕ, eqb}

pub data Cut : Type 0 where
  lastly : (piece : List ℕ) → Cut
  ended : (piece : List ℕ) → (stop : ℕ) → Cut → Cut

-- b is one of two bytes
abbrev pub one_of : (stop other : ℕ) → (b : ℕ) → Bool
one_of stop other b = eqb b stop || eqb b other

-- one byte more in front of the first piece
abbrev pub onto : ℕ → Cut → Cut
onto b (lastly piece) = lastly (b ∷ piece)
onto b (ended piece stop rest) = ended (b ∷ piece) stop rest

-- a text cut at each byte that is one of two
abbrev pub cut : (stop other : ℕ) → (text : List ℕ) → Cut
cut stop other [] = lastly []
cut stop other (b ∷ s) = cond (one_of stop other b) (ended [] b (cut stop other s)) (onto b (cut stop other s))

-- its pieces and the bytes between them, in one again
abbrev pub joined : Cut → List ℕ
joined (lastly piece) = piece
joined (ended piece stop rest) = piece ++ (stop ∷ joined rest)

-- one of its pieces is ended by this byte
abbrev pub ended_by : (stop : ℕ) → Cut → Bool
ended_by b (lastly piece) = false
ended_by b (ended piece stop rest) = eqb stop b || ended_by b rest
