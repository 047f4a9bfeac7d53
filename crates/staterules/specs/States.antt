-- Row states (01, "Row states").
use Rattle.std.specs.Prelude.{Bool, cond, ◌&&◌, ◌||◌, List, [], ◌∷◌, ℕ, ltb, eqb, ℤ, pos, ◌-ℤ◌, length}
use Rattle.std.specs.Int.Signed.{lt_z}
use Rattle.numbers.specs.Ints.{max_ℤ, min_ℤ, same_ℤ}
use Rattle.numbers.specs.Below.{at, table, some_below, all_below}
use Rattle.types.specs.declared.Header.{Header}
use Rattle.types.specs.Ranges.{at_ℤ}
use Rattle.tablerules.specs.Table.{stretch}

-- the largest and the smallest of m and the numbers of a list
unfoldable pub highest : ℤ → List ℤ → ℤ
highest m [] = m
highest m (z ∷ zs) = highest (max_ℤ m z) zs

unfoldable pub lowest : ℤ → List ℤ → ℤ
lowest m [] = m
lowest m (z ∷ zs) = lowest (min_ℤ m z) zs

-- largest zone factor less smallest
unfoldable pub spread_of : (factors : List ℤ) → ℤ
spread_of [] = pos 0
spread_of (z ∷ zs) = highest z zs -ℤ lowest z zs

-- two rows' factors differ by one and the same number in every zone
unfoldable pub shifted : (fs gs : List ℤ) → Bool
shifted fs gs = all_below (length fs) (λ z. same_ℤ (at_ℤ fs z -ℤ at_ℤ gs z) (at_ℤ fs 0 -ℤ at_ℤ gs 0))

-- row j's RAM is lower than row i's, or equal with a lower index; no row is below itself, so that j is another row
unfoldable pub below : (rams : List ℤ) → (j i : ℕ) → Bool
below rams j i = lt_z (at_ℤ rams j) (at_ℤ rams i) || (same_ℤ (at_ℤ rams j) (at_ℤ rams i) && ltb j i)

-- the 5% test: rows of a smaller spread, in hundred-thousandths, take no part
abbrev pub spread_least : ℕ
spread_least = 5000

-- 1: the spread is under `spread_least`; 2: not state 1, and another row has the same factors but for one number, and is below it; 0: kept, all others
unfoldable pub state_of : Header → (factors rams : List ℤ) → (i : ℕ) → ℕ
state_of h factors rams i =
    let row : ℕ → List ℤ = stretch h.zones factors in
    cond (lt_z (spread_of (row i)) (pos spread_least)) 1
    (cond (some_below h.rows (λ j. below rams j i && shifted (row j) (row i))) 2 0)

abbrev pub states_of : Header → (factors rams : List ℤ) → List ℕ
states_of h factors rams = table h.rows (state_of h factors rams)

-- only state 0 rows take part
unfoldable pub kept : (states : List ℕ) → (i : ℕ) → Bool
kept states i = eqb (at states i) 0
