-- The laws of `specs/Clip.antt`: bytes stored one text after another, and what is left to store. No contract cites this file.
use mathlib.Core.Path.{◌≡◌, refl, sym, ap, ap₂, subst, ◌∙◌}
use mathlib.Core.List.{List, [], ◌∷◌, ◌++◌, append_assoc, append-nil}
use mathlib.Core.Logic.{⊎_elim}
use Prim.Native.Nat.{ℕ, suc, ◌+◌, ◌-◌, ◌≤◌, ◌<◌, min}
use native.Mathlib.Nat.{not-suc-le-zero, add-zero}
use native.Mathlib.Omega.{arith}
use lib.ListN.{length, take, drop, set, replicate, length-append, length-replicate, take-append-drop}
use lib.Seq.{sets, sets-eq, length-sets, set_out, set-append_seam, take_all, drop-drop, length-take-le}
use Rattle.std.proofs.lemmas.List.{take-replicate}
use Rattle.numbers.proofs.BelowLaws.{le_or_lt}
use Rattle.tidy.specs.Clip.{Clip}

-- ---- sets
sets_append : (l : List ℕ) (i : ℕ) (xs ys : List ℕ) → sets l i (xs ++ ys) ≡ sets (sets l i xs) (i + length xs) ys
sets_append l i [] ys = ap (λ (k : ℕ). sets l k ys) (sym (add-zero i))
sets_append l i (x ∷ xs) ys =
    let e : suc i + length xs ≡ i + suc (length xs) = omega arith in
    sets_append (set l i x) (suc i) xs ys ∙ ap (λ (k : ℕ). sets (sets (set l i x) (suc i) xs) k ys) e

sets_past : (l : List ℕ) (i : ℕ) (vs : List ℕ) → length l ≤ i → sets l i vs ≡ l
sets_past l i [] h = refl
sets_past l i (v ∷ vs) h = ap (λ (k : List ℕ). sets k (suc i) vs) (set_out l i v h) ∙ sets_past l (suc i) vs (omega arith)

cover : (vs p q : List ℕ) → length q ≤ length vs → sets (p ++ q) (length p) vs ≡ p ++ take (length q) vs
cover vs p [] h = ap (λ (l : List ℕ). sets l (length p) vs) (append-nil p) ∙ sets_past p (length p) vs (omega arith) ∙ sym (append-nil p)
cover [] p (x ∷ q) h = absurd (not-suc-le-zero {n = 0} (omega arith))
cover (v ∷ vs) p (x ∷ q) h =
    let long : length (p ++ (v ∷ [])) ≡ suc (length p) = length-append p (v ∷ []) ∙ omega arith in
    ap (λ (l : List ℕ). sets l (suc (length p)) vs) (set-append_seam p x q v ∙ sym (append_assoc p (v ∷ []) q))
    ∙ ap (λ (n : ℕ). sets ((p ++ (v ∷ [])) ++ q) n vs) (sym long)
    ∙ cover vs (p ++ (v ∷ [])) q (omega arith)
    ∙ append_assoc p (v ∷ []) (take (length q) vs)

-- more bytes than there is room for fill the room
pub sets_cover : (vs l : List ℕ) → length l ≤ length vs → sets l 0 vs ≡ take (length l) vs
sets_cover vs l h = cover vs [] l h

-- ---- Clip
-- the front of a text, where what follows it is past the room
sets-front : (l vs : List ℕ) (at n : ℕ) → n ≤ length vs → length l ≤ at + n → sets l at (take n vs) ≡ sets l at vs
sets-front l vs at n h past =
    let m = sets l at (take n vs) in
    let long : length (take n vs) ≡ n = length-take-le n vs h in
    sym (sets_past m (at + length (take n vs)) (drop n vs) (omega (arith, length-sets l at (take n vs))))
    ∙ sym (sets_append l at (take n vs) (drop n vs))
    ∙ ap (sets l at) (take-append-drop n vs)

-- the part of a text that there is room for, stored at once
pub clip_part : (vs l part : List ℕ) (at from until : ℕ) → from ≡ min at (length l) → until ≡ min (at + length vs) (length l) → part ≡ take (until - from) vs
    → Clip vs at l (at + length vs) (take from l ++ (part ++ drop (until - from) (drop from l)))
clip_part vs l part at from until f u e = record { after = refl; wrote = ⊎_elim past within (le_or_lt (length l) at) }
  where
    past : length l ≤ at → take from l ++ (part ++ drop (until - from) (drop from l)) ≡ sets l at vs
    past h =
        let none : until - from ≡ 0 = omega arith in
        rw (e, none) (take-append-drop from l ∙ sym (sets_past l at vs h))

    within : at < length l → take from l ++ (part ++ drop (until - from) (drop from l)) ≡ sets l at vs
    within h =
        let n = until - from in
        let here : from ≡ at = omega arith in
        let fits : n ≤ length vs = omega arith in
        let long : length (take n vs) ≡ n = length-take-le n vs fits in
        let front : take at l ++ (take n vs ++ drop n (drop at l)) ≡ sets l at (take n vs) =
        ap (λ (t : List ℕ). take at l ++ (take n vs ++ t)) (drop-drop n at l ∙ ap (λ (k : ℕ). drop (at + k) l) (sym long)) ∙ sym (append_assoc (take at l) (take n vs) (drop (at + length (take n vs)) l)) ∙ sym (sets-eq (take n vs) l at (omega arith)) in
        ap₂ (λ (k : ℕ) (p : List ℕ). take k l ++ (p ++ drop n (drop k l))) here e
        ∙ front
        ∙ ⊎_elim (λ (all : length vs ≤ n). ap (sets l at) (take_all n vs all)) (λ (more : n < length vs). sets-front l vs at n fits (omega arith)) (le_or_lt (length vs) n)

-- the same of zeros
pub clip_zeros : (n : ℕ) (l part : List ℕ) (at from until : ℕ) → from ≡ min at (length l) → until ≡ min (at + n) (length l) → part ≡ replicate (until - from) 48
    → Clip (replicate n 48) at l (at + n) (take from l ++ (part ++ drop (until - from) (drop from l)))
clip_zeros n l part at from until f u e =
    let long : length (replicate {A = ℕ} n 48) ≡ n = length-replicate n 48 in
    let fits : until - from ≤ n = omega arith in
    record {
      after = ap (λ (k : ℕ). at + k) (sym long);
      wrote = (clip_part (replicate n 48) l part at from until f (u ∙ ap (λ (k : ℕ). min (at + k) (length l)) (sym long)) (e ∙ sym (take-replicate (until - from) n 48 fits))).wrote;
    }

pub clip_more : {x y : List ℕ} {at m n : ℕ} {out mid out' : List ℕ} → Clip x at out m mid → Clip y m mid n out' → Clip (x ++ y) at out n out'
clip_more {x} {y} {at} {m} {n} {out} p q = record {
  after = omega (arith, p.after, q.after, length-append x y);
  wrote = q.wrote ∙ ap₂ (λ (k : ℕ) (l : List ℕ). sets l k y) p.after p.wrote ∙ sym (sets_append out at x y);
}

pub clip_is : {x y : List ℕ} {at n : ℕ} {out out' : List ℕ} → x ≡ y → Clip x at out n out' → Clip y at out n out'
clip_is {at = at} {n} {out} {out'} e p = subst (λ (t : List ℕ). Clip t at out n out') e p

-- no byte more or fewer is lent
pub clip_long : {x : List ℕ} {at n : ℕ} {out out' : List ℕ} → Clip x at out n out' → length out' ≡ length out
clip_long {x} {at} {n} {out} p = ap length p.wrote ∙ length-sets out at x

-- ---- what is left to store: of `whole`, which is stored from `at` on, `rest` from `next` on
pub record Left (whole rest : List ℕ) (at next : ℕ) (out₀ out : List ℕ) : Type 0 where
  pub place : next + length rest ≡ at + length whole
  pub same : sets out next rest ≡ sets out₀ at whole

pub left_start : (whole : List ℕ) (at : ℕ) (out : List ℕ) → Left whole whole at at out out
left_start whole at out = record { place = refl; same = refl }

module _ {whole : List ℕ} {at next : ℕ} {out₀ out : List ℕ} where
  pub left_is : {rest other : List ℕ} → rest ≡ other → Left whole rest at next out₀ out → Left whole other at next out₀ out
  left_is e u = subst (λ (r : List ℕ). Left whole r at next out₀ out) e u

  pub left_more : {x y : List ℕ} {n : ℕ} {out' : List ℕ} → Left whole (x ++ y) at next out₀ out → Clip x next out n out' → Left whole y at n out₀ out'
  left_more {x} {y} u p = record {
    place = omega (arith, u.place, p.after, length-append x y);
    same = ap₂ (λ (k : ℕ) (l : List ℕ). sets l k y) p.after p.wrote ∙ sym (sets_append out next x y) ∙ u.same;
  }

  pub left_long : {rest : List ℕ} → Left whole rest at next out₀ out → length out ≡ length out₀
  left_long {rest} u = sym (length-sets out next rest) ∙ ap length u.same ∙ length-sets out₀ at whole

  pub left_all : Left whole [] at next out₀ out → Clip whole at out₀ next out
  left_all u = record { after = omega (arith, u.place); wrote = u.same }

  pub left_last : {x : List ℕ} {n : ℕ} {out' : List ℕ} → Left whole x at next out₀ out → Clip x next out n out' → Clip whole at out₀ n out'
  left_last {x} u p = record { after = omega (arith, u.place, p.after); wrote = p.wrote ∙ u.same }
