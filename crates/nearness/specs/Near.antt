-- Which rows are looked at in the rounds of a block (02, E4), over a grid g: s holds the margins, w the caps. The first `count` places of `near` list rows.
-- `Sortable`, `Yields`, `Placed` and `Sorted` are what contracts cite; resting cites `Led` too.
use Rattle.std.specs.Prelude.{◌≡◌, List, ◌⊎◌, ℕ, ◌+◌, ◌*◌, ◌^◌, ◌≤◌, ◌<◌, length}
use Rattle.numbers.specs.Below.{at}
use Rattle.rounds.specs.Rounds.{Grid, sharers, raises, load}
use Rattle.rounds.specs.AllRounds.{Ready}
use Rattle.walk.specs.Walk.{Listed, most_load}

-- what sorting the rows asks: caps w that are the raises of the margins s, listed
pub record Sortable (g : Grid) (ns s w list : List ℕ) : Type 0 where
  pub ready : Ready g ns s
  pub fits : (i : ℕ) → i < g.rows → at s i < 2 ^ 64
  pub found : w ≡ raises g s
  pub listed : Listed g.borders w list

-- row i yields to row t: t has no more margin, no fewer borders that share it, and no smaller factor at a listed border. So while only listed borders rise, i never tightens
-- a cap below what t allows
pub record Yields (g : Grid) (s list : List ℕ) (t i : ℕ) : Type 0 where
  pub margin : at s t ≤ at s i
  pub share : sharers g i ≤ sharers g t
  pub factors : (j : ℕ) → j < length list → g.p i (at list j) ≤ g.p t (at list j)

-- row i yields to one of the rows f 0, .., f (k - 1). Each of these rows yields to itself
pub record Led (g : Grid) (s list : List ℕ) (f : ℕ → ℕ) (k i : ℕ) : Type 0 where
  pub place : ℕ
  pub before : place < k
  pub yields : Yields g s list (f place) i

-- what listing row i leaves: rows up to i. Each row that yielded to a listed one still does, and so does i
pub record Placed (g : Grid) (s list : List ℕ) (near : List ℕ) (count i : ℕ) (near' : List ℕ) (count' : ℕ) : Type 0 where
  pub long : length near' ≡ length near
  pub few : count' ≤ count + 1
  pub inside : (j : ℕ) → j < count' → at near' j < i + 1
  pub here : Led g s list (at near') count' i
  pub still : (i' : ℕ) → Led g s list (at near) count i' → Led g s list (at near') count' i'

-- what sorting leaves of the first i rows: each yields to a listed one, or may rest for `wait` rounds
pub record Sorted (g : Grid) (s w list : List ℕ) (wait : ℕ) (near : List ℕ) (count i : ℕ) : Type 0 where
  pub few : count ≤ i
  pub inside : (j : ℕ) → j < count → at near j < i
  pub each : (i' : ℕ) → i' < i → Led g s list (at near) count i' ⊎ (wait * load g i' w + most_load g i' w * sharers g i' ≤ at s i')
