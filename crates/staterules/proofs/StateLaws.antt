-- The laws of `specs/States.antt` that loops and branches cite. No contract cites this file.
-- In order: the largest and the smallest of a list; the spread; which of two rows is below; a row's state.
use mathlib.Core.Path.{◌≡◌, refl, sym, ap, ◌∙◌}
use mathlib.Core.Bool.{Bool, true, false, cond, ◌&&◌, and-true, and-false}
use mathlib.Core.List.{List, [], ◌∷◌}
use Prim.Native.Nat.{ℕ, ◌+◌, ◌≤◌, ◌<◌}
use native.Mathlib.Numerals.{add-one}
use native.Mathlib.Omega.{arith}
use lib.Dec.{ltb}
use lib.IntN.{ℤ, pos, ◌-ℤ◌}
use lib.ListN.{length, drop, drop_of_length-le}
use lib.Seq.{drop-cons}
use lib.Signed.{lt_z}
use Rattle.numbers.specs.Ints.{max_ℤ, min_ℤ, same_ℤ}
use Rattle.numbers.specs.Below.{some_below}
use Rattle.types.specs.declared.Header.{Header}
use Rattle.types.specs.Ranges.{at_ℤ}
use Rattle.tablerules.specs.Table.{stretch}
use Rattle.staterules.specs.States.{highest, lowest, spread_of, spread_least, shifted, below, state_of}

-- ---- highest, lowest
pub highest_more : (m : ℤ) (zs : List ℤ) (i : ℕ) → i < length zs → highest m (drop i zs) ≡ highest (max_ℤ m (at_ℤ zs i)) (drop (i + 1) zs)
unfolding highest
highest_more m zs i h = rw (add-one, drop-cons zs i (pos 0))

pub highest_all : (m : ℤ) (zs : List ℤ) (i : ℕ) → length zs ≤ i → highest m (drop i zs) ≡ m
unfolding highest
highest_all m zs i h = rw (drop_of_length-le zs h)

pub lowest_more : (m : ℤ) (zs : List ℤ) (i : ℕ) → i < length zs → lowest m (drop i zs) ≡ lowest (min_ℤ m (at_ℤ zs i)) (drop (i + 1) zs)
unfolding lowest
lowest_more m zs i h = rw (add-one, drop-cons zs i (pos 0))

pub lowest_all : (m : ℤ) (zs : List ℤ) (i : ℕ) → length zs ≤ i → lowest m (drop i zs) ≡ m
unfolding lowest
lowest_all m zs i h = rw (drop_of_length-le zs h)

-- ---- spread_of
pub spread_is : (zs : List ℤ) → 0 < length zs → spread_of zs ≡ highest (at_ℤ zs 0) (drop 1 zs) -ℤ lowest (at_ℤ zs 0) (drop 1 zs)
unfolding spread_of
spread_is [] h = absurd (omega arith)
spread_is (z ∷ zs) h = refl

-- ---- below, by its three tests
module _ (rams : List ℤ) (j i : ℕ) where
  pub below_lower : {t : Bool} → t ≡ lt_z (at_ℤ rams j) (at_ℤ rams i) → t ≡ true → t ≡ below rams j i
  unfolding below
  below_lower {t} e q = rw (sym e ∙ q) q

  pub below_index : lt_z (at_ℤ rams j) (at_ℤ rams i) ≡ false → same_ℤ (at_ℤ rams j) (at_ℤ rams i) ≡ true → ltb j i ≡ below rams j i
  unfolding below
  below_index e q = rw (e, q)

  pub below_other : {s : Bool} → lt_z (at_ℤ rams j) (at_ℤ rams i) ≡ false → s ≡ same_ℤ (at_ℤ rams j) (at_ℤ rams i) → s ≡ false → s ≡ below rams j i
  unfolding below
  below_other e u q = rw (e, sym u ∙ q) q

-- ---- two tests joined, the second made only where the first holds
-- the second of two tests is made first
pub late_first : {a b x y : Bool} → b ≡ y → b ≡ true → a ≡ x → a ≡ (x && y)
late_first {a} {b} {x} {y} e q u = u ∙ sym (ap (λ (t : Bool). x && t) (sym e ∙ q) ∙ and-true x)

pub late_second : {b y : Bool} (x : Bool) → b ≡ y → b ≡ false → b ≡ (x && y)
late_second {b} {y} x e q = q ∙ sym (ap (λ (t : Bool). x && t) (sym e ∙ q) ∙ and-false x)

-- ---- state_of
module _ (h : Header) (f rams : List ℤ) (i : ℕ) where
  -- another row is below row i, and their factors differ by one number
  abbrev pub stood : (j : ℕ) → Bool
  stood j = below rams j i && shifted (stretch h.zones f j) (stretch h.zones f i)

  pub state_spread : lt_z (spread_of (stretch h.zones f i)) (pos spread_least) ≡ true → 1 ≡ state_of h f rams i
  unfolding state_of
  state_spread e = rw e

  pub state_stood : lt_z (spread_of (stretch h.zones f i)) (pos spread_least) ≡ false → some_below h.rows stood ≡ true → 2 ≡ state_of h f rams i
  unfolding state_of
  state_stood e q = rw (e, q)

  pub state_kept : lt_z (spread_of (stretch h.zones f i)) (pos spread_least) ≡ false → some_below h.rows stood ≡ false → 0 ≡ state_of h f rams i
  unfolding state_of
  state_kept e q = rw (e, q)

pub state_most : (h : Header) (f rams : List ℤ) (i : ℕ) → state_of h f rams i ≤ 2
unfolding state_of
state_most h f rams i = go (lt_z (spread_of (stretch h.zones f i)) (pos spread_least)) (some_below h.rows (stood h f rams i))
  where
    go : (a b : Bool) → cond a 1 (cond b 2 0) ≤ 2
    go true b = omega arith
    go false true = omega arith
    go false false = omega arith
