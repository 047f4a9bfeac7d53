-- Blocks of rounds, in which rows rest (02, E4), over a grid g. s holds the margins as they were when the rows last lost, d what each border gained since.
-- The margins of the rules are then `left_to g d s`; caps (w) are the raises of those. The first `count` places of `near` list rows; a row without a place there is never listed.
-- `left_to`, `Settleable`, `Waiting`, `Renewed`, `Walkable`, `Steppable` and `stepped` are what contracts cite, here and in roundloop. Which rows yield is said in nearness.
use Rattle.std.specs.Prelude.{◌≡◌, List, ◌⊎◌, ℕ, ◌+◌, ◌*◌, ◌-◌, ◌/◌, ◌^◌, ◌≤◌, ◌<◌, length}
use Rattle.numbers.specs.Below.{at, if_zero, table}
use Rattle.rounds.specs.Rounds.{Grid, sharers, raises, load, lowered, risen}
use Rattle.rounds.specs.AllRounds.{Ready}
use Rattle.walk.specs.Walk.{Listed, Loadable, tightened, most_load}
use Rattle.nearness.specs.Near.{Led}

-- what the margins s are lowered to, where the borders gained d
abbrev pub left_to : Grid → (d s : List ℕ) → List ℕ
left_to g d s = table g.rows (lowered g d s)

-- what taking the losses asks: the list holds the borders that gained, and no row loses more than its margin
pub record Settleable (g : Grid) (s d list : List ℕ) : Type 0 where
  pub margins : length s ≡ g.rows
  pub gained : length d ≡ g.borders
  pub listed : Listed g.borders d list
  pub within : (i : ℕ) → i < g.rows → load g i d ≤ at s i

-- row i may rest for `wait` rounds: if each raises by w, then after these and after the gain d its margin still holds n times the largest part
abbrev pub Rests : Grid → (s d w : List ℕ) (wait i : ℕ) → Type 0
Rests g s d w wait i = wait * load g i w + load g i d + most_load g i w * sharers g i ≤ at s i

-- the rows that a round looks at, in order: those listed, and then those that the list has no place for
unfoldable pub near_row : (near : List ℕ) (count j : ℕ) → ℕ
near_row near count j = if_zero (count - j) (length near + (j - count)) (at near j)

-- how many rows a round looks at
abbrev pub near_rows : Grid → (near : List ℕ) (count : ℕ) → ℕ
near_rows g near count = count + (g.rows - length near)

-- each row yields to one that the round looks at, or may rest for `wait` rounds
pub record Watched (g : Grid) (s d w list near : List ℕ) (count wait : ℕ) : Type 0 where
  pub few : count ≤ length near
  pub inside : (j : ℕ) → j < count → at near j < g.rows
  pub each : (i : ℕ) → i < g.rows → Led g s list (near_row near count) (near_rows g near count) i ⊎ Rests g s d w wait i

-- between two rounds, with `wait` rounds left before all rows are sorted again
pub record Waiting (g : Grid) (ns s d w list near : List ℕ) (count wait : ℕ) : Type 0 where
  pub ready : Ready g ns s
  pub fits : (i : ℕ) → i < g.rows → at s i < 2 ^ 64
  pub gained : length d ≡ g.borders
  pub within : (i : ℕ) → i < g.rows → load g i d ≤ at s i
  pub found : w ≡ raises g (left_to g d s)
  pub listed : Listed g.borders (table g.borders (risen w d)) list
  pub room : length near ≤ g.rows
  pub watched : Watched g s d w list near count wait

-- a block goes on, or a new one begins: margins s with gain d became s' with gain d', so the margins of the rules are the same, and at least one round is left. The
-- list of near rows has as many places as near₀ had
pub record Renewed (g : Grid) (ns s d near₀ s' d' w list near : List ℕ) (count wait : ℕ) : Type 0 where
  pub waiting : Waiting g ns s' d' w list near count wait
  pub some : 0 < wait
  pub same : left_to g d' s' ≡ left_to g d s
  pub places : length near ≡ length near₀

-- what the walk asks: the borders have gained the raises w besides what they had gained before, and the caps are still w
pub record Walkable (g : Grid) (ns s d w list near : List ℕ) (count : ℕ) : Type 0 where
  pub before : List ℕ
  pub wait : ℕ
  pub some : 0 < wait
  pub waiting : Waiting g ns s before w list near count wait
  pub gained : d ≡ table g.borders (risen w before)

-- what walking row i asks: the list holds the borders that gained, and the caps w are not above the gain; the row's loss is within its margin, and n times its most part fits a u64
pub record Steppable (g : Grid) (ns s d w list : List ℕ) (i : ℕ) : Type 0 where
  pub ready : Ready g ns s
  pub row : i < g.rows
  pub loadable : Loadable g i d w list
  pub listed : Listed g.borders w list
  pub within : load g i d ≤ at s i
  pub product : most_load g i w * sharers g i < 2 ^ 64

-- the caps w, tightened by row i's equal share of what is left to it
abbrev pub stepped : Grid → (s d w : List ℕ) (i : ℕ) → List ℕ
stepped g s d w i = table g.borders (tightened g i (at (left_to g d s) i / sharers g i) w)
