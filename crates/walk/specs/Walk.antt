-- One row's work in a round (02, E4), over a grid g: what its functions ask and leave. A border's cap is what it may rise by at most: its last raise, or at first a row's margin.
-- `Listed`, `First`, `Caps`, `tightened`, `most_load` and `Loadable` are what contracts cite, here, in resting, roundloop and tight.
-- Left to others: the raises themselves and what a round does (`Rounds.antt` of rounds), which rows are looked at in a round (resting), the loop of rounds (roundloop).
use Rattle.std.specs.Prelude.{◌≡◌, List, ℕ, ◌*◌, ◌^◌, ◌≤◌, ◌<◌, length}
use Rattle.numbers.specs.Below.{at, sum, largest}
use Rattle.caps.specs.Tight.{tight}
use Rattle.rounds.specs.Rounds.{Grid, raise, alone, load}

-- The list holds borders, and each border where v is above 0, once. Said by sums: what is 0 where v is 0 sums over the list to what it sums to over all borders.
pub record Listed (borders : ℕ) (v list : List ℕ) : Type 0 where
  pub inside : (j : ℕ) → j < length list → at list j < borders
  pub adds : (w : ℕ → ℕ) → ((b : ℕ) → b < borders → at v b ≡ 0 → w b ≡ 0) → sum (length list) (λ j. w (at list j)) ≡ sum borders w

-- v is not below what border b could take alone, and where it is above 0 some row loads b and has as large a margin
pub record First (g : Grid) (m : List ℕ) (b v : ℕ) : Type 0 where
  pub over : alone g m b ≤ v
  pub some : 0 < v → (i : ℕ) × (i < g.rows) × (0 < g.p i b) × (v ≤ at m i)

-- v caps border b's raise: it is not below the raise, and where it is above 0 some row loads b
pub record Cap (g : Grid) (m : List ℕ) (b v : ℕ) : Type 0 where
  pub over : raise g m b ≤ v
  pub row : 0 < v → ℕ
  pub inside : (z : 0 < v) → row z < g.rows
  pub loads : (z : 0 < v) → 0 < g.p (row z) b

-- v caps the raise of every border
abbrev pub Caps : Grid → (m v : List ℕ) → Type 0
Caps g m v = (b : ℕ) → b < g.borders → Cap g m b (at v b)

-- the cap of border b, tightened by row i
unfoldable pub tightened : Grid → (i share : ℕ) (v : List ℕ) (b : ℕ) → ℕ
tightened g i share v b = tight (g.p i b) share (at v b)

-- what border b takes from row i, rising by v
unfoldable pub part : Grid → (i : ℕ) (v : List ℕ) (b : ℕ) → ℕ
part g i v b = g.p i b * at v b

-- the most that one border takes from row i
unfoldable pub most_load : Grid → (i : ℕ) (v : List ℕ) → ℕ
most_load g i v = largest g.borders (part g i v)

-- what finding row i's loads asks: the list holds the borders with raises v (of one round or of several), the caps w are not above v, and the row's loss fits a u64
pub record Loadable (g : Grid) (i : ℕ) (v w list : List ℕ) : Type 0 where
  pub raises : length v ≡ g.borders
  pub caps : length w ≡ g.borders
  pub listed : Listed g.borders v list
  pub lower : (b : ℕ) → b < g.borders → at w b ≤ at v b
  pub fits : load g i v < 2 ^ 64
