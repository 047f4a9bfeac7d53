-- What E5 asks of the byte that is named (02: "the first byte in the line, from 1, that no good number could have there"). Nothing here computes a byte;
-- that the bytes of `Blame.antt` are these is proved: for a field `blames` and `blames-only` (`Blames.antt`), for a line `line-fault`
-- and, the other way, `fault-line` (`Faults.antt`). A place counts bytes from 0, so place p is byte p + 1.
use Rattle.std.specs.Prelude.{◌≡◌, true, ◌⊎◌, List, ◌∷◌, ℕ, ◌+◌, ◌<◌, ℤ, length, take, Ok}
use Rattle.types.specs.LineColumns.{Column, number}
use Rattle.text.specs.Fields.{feed, number_at}
use Rattle.columns.specs.declared.Head.{Head}
use Rattle.columns.specs.declared.Head.TheVariants.{Lettered, Indexed, Bare}
use Rattle.columns.specs.Columns.{field_at, stop_of}
use Rattle.blame.specs.Blame.{good_at}

module _ (sep : ℕ) where
  -- the first n bytes of the line could stand in a line whose field at this place is good
  pub record Could (c : Column) (line : List ℕ) (at n : ℕ) : Type 0 where
    pub other : List ℕ
    pub agrees : take n other ≡ take n line
    pub good : good_at sep c other at ≡ true

  -- the first byte that no good field could have there: the bytes before `place` could stand in one, and with the byte at `place` they could not
  pub record FirstBad (c : Column) (line : List ℕ) (at place : ℕ) : Type 0 where
    pub within : place < length line
    pub before : Could c line at place
    pub with_it : Could c line at (place + 1) → ⊥

  -- a byte from 1 names the first bad one; 0 says that there is none, all bytes of the line could stand there
  pub record Blames (c : Column) (line : List ℕ) (at byte : ℕ) : Type 0 where
    pub named : (place : ℕ) → byte ≡ place + 1 → FirstBad c line at place
    pub none : byte ≡ 0 → Could c line at (length line)

  -- fields from the left, from a place on: those before one field are good, and in that field `place` is the first bad byte
  pub data Found (line : List ℕ) : List Column → ℕ → ℕ → Type 0 where
    here : {c : Column} {cs : List Column} {at place : ℕ} → FirstBad c line at place → Found line (c ∷ cs) at place
    later : {c : Column} {cs : List Column} {at next place : ℕ} {z : ℤ} → field_at c line at (stop_of sep feed cs) ≡ Ok (z, next) → Found line cs next place → Found line (c ∷ cs) at place

  -- what a byte named in the line of index i is, where the index begins at place `at`
  pub data Fault (at : ℕ) (columns : List Column) (line : List ℕ) (i place : ℕ) : Type 0 where
    -- the first bad byte of the index
    index : FirstBad number line at place → Fault at columns line i place
    -- the first byte of an index of right form, ended by `sep` or by an LF, that is another line's
    other : (value next : ℕ) → (number_at line at sep ≡ Ok (value, next)) ⊎ (number_at line at feed ≡ Ok (value, next)) → (value ≡ i → ⊥) → place ≡ at → Fault at columns line i place
    -- after the line's own index, the first bad byte of a field
    field : (next : ℕ) → number_at line at sep ≡ Ok (i, next) → Found line columns next place → Fault at columns line i place

  -- what a byte named in a line is, by the line's head: after a letter alone, the first bad byte of a field
  abbrev pub LineFault : Head → (columns : List Column) → (line : List ℕ) → (place : ℕ) → Type 0
  LineFault (Lettered letter) columns line place = Found line columns 2 place
  LineFault (Indexed letter i) columns line place = Fault 2 columns line i place
  LineFault (Bare i) columns line place = Fault 0 columns line i place
