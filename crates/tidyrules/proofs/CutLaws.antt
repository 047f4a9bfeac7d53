-- The laws of `specs/Cut.antt`: what a cut text's pieces hold, and that cutting and joining are each other's inverse. No contract cites this file.
use mathlib.Core.Path.{◌≡◌, refl, sym, ap, ◌∙◌}
use mathlib.Core.Bool.{Bool, true, false, cond, ◌||◌}
use mathlib.Core.List.{List, [], ◌∷◌, ◌++◌}
use Prim.Native.Nat.{ℕ, zero, suc}
use lib.ListN.{replicate}
use Rattle.tidyrules.specs.Cut.{Cut, lastly, ended, one_of, onto, cut, joined}

-- the test holds of no byte
abbrev pub Free : (test : ℕ → Bool) → List ℕ → Type 0
Free test [] = Unit {0}
Free test (b ∷ s) = (test b ≡ false) × Free test s

-- of no byte of its pieces, and of none between them
abbrev pub Quiet : (test : ℕ → Bool) → Cut → Type 0
Quiet test (lastly p) = Free test p
Quiet test (ended p stop c) = Free test p × (test stop ≡ false) × Quiet test c

-- of no byte of its pieces, and of each between them
abbrev pub Parted : (test : ℕ → Bool) → Cut → Type 0
Parted test (lastly p) = Free test p
Parted test (ended p stop c) = Free test p × (test stop ≡ true) × Parted test c

module _ (test : ℕ → Bool) where
  pub free_append : (s t : List ℕ) → Free test s → Free test t → Free test (s ++ t)
  free_append [] t h k = k
  free_append (b ∷ s) t h k = (h.0, free_append s t h.1 k)

  pub free_left : (s t : List ℕ) → Free test (s ++ t) → Free test s
  free_left [] t h = tt
  free_left (b ∷ s) t h = (h.0, free_left s t h.1)

  pub free_replicate : (n b : ℕ) → test b ≡ false → Free test (replicate n b)
  free_replicate zero b h = tt
  free_replicate (suc n) b h = (h, free_replicate n b h)

  -- ---- the bytes of a cut text
  onto-quiet : (b : ℕ) (c : Cut) → test b ≡ false → Quiet test c → Quiet test (onto b c)
  onto-quiet b (lastly p) h q = (h, q)
  onto-quiet b (ended p stop c) h q = ((h, q.0), q.1, q.2)

  pub cut_quiet : (stop other : ℕ) (s : List ℕ) → Free test s → Quiet test (cut stop other s)
  cut_quiet stop other [] h = tt
  cut_quiet stop other (b ∷ s) h = go (one_of stop other b) (cut_quiet stop other s h.1)
    where
      go : (t : Bool) → Quiet test (cut stop other s) → Quiet test (cond t (ended [] b (cut stop other s)) (onto b (cut stop other s)))
      go true q = (tt, h.0, q)
      go false q = onto-quiet b (cut stop other s) h.0 q

  pub joined_quiet : (c : Cut) → Quiet test c → Free test (joined c)
  joined_quiet (lastly p) q = q
  joined_quiet (ended p stop c) q = free_append p (stop ∷ joined c) q.0 (q.1, joined_quiet c q.2)

module _ (stop other : ℕ) where
  onto-parted : (b : ℕ) (c : Cut) → one_of stop other b ≡ false → Parted (one_of stop other) c → Parted (one_of stop other) (onto b c)
  onto-parted b (lastly p) h q = (h, q)
  onto-parted b (ended p k c) h q = ((h, q.0), q.1, q.2)

  pub cut_parted : (s : List ℕ) → Parted (one_of stop other) (cut stop other s)
  cut_parted [] = tt
  cut_parted (b ∷ s) = go (one_of stop other b) refl (cut_parted s)
    where
      go : (t : Bool) → one_of stop other b ≡ t → Parted (one_of stop other) (cut stop other s) → Parted (one_of stop other) (cond t (ended [] b (cut stop other s)) (onto b (cut stop other s)))
      go true e q = (tt, e, q)
      go false e q = onto-parted b (cut stop other s) e q

  -- ---- cut, and joined again
  onto-joined : (b : ℕ) (c : Cut) → joined (onto b c) ≡ b ∷ joined c
  onto-joined b (lastly p) = refl
  onto-joined b (ended p k c) = refl

  pub cut_joins : (s : List ℕ) → joined (cut stop other s) ≡ s
  cut_joins [] = refl
  cut_joins (b ∷ s) = go (one_of stop other b) (cut_joins s)
    where
      go : (t : Bool) → joined (cut stop other s) ≡ s → joined (cond t (ended [] b (cut stop other s)) (onto b (cut stop other s))) ≡ b ∷ s
      go true q = ap (λ (l : List ℕ). b ∷ l) q
      go false q = onto-joined b (cut stop other s) ∙ ap (λ (l : List ℕ). b ∷ l) q

  -- ---- joined, and cut again
  pub cut_piece : (p : List ℕ) (b : ℕ) (s : List ℕ) → Free (one_of stop other) p → one_of stop other b ≡ true → cut stop other (p ++ (b ∷ s)) ≡ ended p b (cut stop other s)
  cut_piece [] b s h e = rw e
  cut_piece (a ∷ p) b s h e = rw h.0 (ap (onto a) (cut_piece p b s h.1 e))

  pub cut_last : (p : List ℕ) → Free (one_of stop other) p → cut stop other p ≡ lastly p
  cut_last [] h = refl
  cut_last (a ∷ p) h = rw h.0 (ap (onto a) (cut_last p h.1))

  pub joined_cuts : (c : Cut) → Parted (one_of stop other) c → cut stop other (joined c) ≡ c
  joined_cuts (lastly p) h = cut_last p h
  joined_cuts (ended p b c) h = cut_piece p b (joined c) h.0 h.1 ∙ ap (ended p b) (joined_cuts c h.2)
