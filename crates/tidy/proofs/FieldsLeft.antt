-- A line written field by field: the loop's invariant, its steps, and that a line has a byte but tabs and semicolons where it is longer than it has fields to part.
-- No contract cites this file.
use mathlib.Core.Path.{◌≡◌, refl, sym, ap, ap₂, subst, ◌∙◌}
use mathlib.Core.Bool.{Bool, true, false, cond, not, ◌||◌, false≢true}
use mathlib.Core.List.{List, [], ◌∷◌, ◌++◌, append_assoc}
use Prim.Native.Nat.{ℕ, suc, ◌+◌, ◌-◌, ◌≤◌, ◌<◌}
use native.Mathlib.Nat.{not-suc-le-zero, zero-add}
use native.Mathlib.Omega.{arith}
use borrow.Author.Tests.{eqb-true, ltb-true, ltb-false, lt-ltb, le-ltb}
use lib.Dec.{ltb, eqb}
use lib.ListN.{length, get_or, take, drop, length-append, length-drop}
use lib.Seq.{get_or-drop, drop-drop}
use Rattle.std.specs.List.{list_any}
use Rattle.text.specs.Fields.{tab}
use Rattle.tidyrules.specs.Cut.{Cut, lastly, ended, onto, cut, joined, ended_by}
use Rattle.tidyrules.specs.Fields.{repaired}
use Rattle.tidyrules.specs.Tidied.{semicolon, is_row, wanted, repairs, line_tidied, bare}
use Rattle.tidyrules.proofs.CutLaws.{Free, Parted, cut_parted}
use Rattle.tidyrules.proofs.LineLaws.{parts, repairs_parted}
use Rattle.tidyfields.specs.Pieces.{leading}
use Rattle.tidyfields.proofs.PieceLaws.{leading_take, leading_le, cut_lastly, cut_ended}
use Rattle.tidy.specs.Clip.{Clip, LinePut}
use Rattle.tidy.proofs.ClipLaws.{Left, left_is, left_start, left_more, left_last}

-- ---- a piece at a place
module _ (stop other : ℕ) (text : List ℕ) (p e : ℕ) (within : p ≤ length text) (end : e ≡ p + length (leading stop other (drop p text))) where
  pub piece_is : leading stop other (drop p text) ≡ take (e - p) (drop p text)
  piece_is =
      let n : length (leading stop other (drop p text)) ≡ e - p = omega arith in
      sym (leading_take stop other (drop p text)) ∙ ap (λ (k : ℕ). take k (drop p text)) n

  pub piece_ended : e < length text → cut stop other (drop p text) ≡ ended (take (e - p) (drop p text)) (get_or text e 0) (cut stop other (drop (e + 1) text))
  piece_ended h =
      let n = length (leading stop other (drop p text)) in
      let past : p + suc n ≡ e + 1 = omega arith in
      cut_ended stop other (drop p text) (omega (arith, length-drop p text))
      ∙ ap₂ (λ (b : ℕ) (t : List ℕ). ended (leading stop other (drop p text)) b (cut stop other t))
      (get_or-drop p text n 0 ∙ ap (λ (k : ℕ). get_or text k 0) (sym end))
      (drop-drop (suc n) p text ∙ ap (λ (k : ℕ). drop k text) past)
      ∙ ap (λ (f : List ℕ). ended f (get_or text e 0) (cut stop other (drop (e + 1) text))) piece_is

  pub piece_lastly : length text ≤ e → cut stop other (drop p text) ≡ lastly (take (e - p) (drop p text))
  piece_lastly h = cut_lastly stop other (drop p text) (omega (arith, length-drop p text)) ∙ ap lastly piece_is

  pub piece_le : e ≤ length text
  piece_le = omega (arith, leading_le stop other (drop p text), length-drop p text)

-- ---- how many bytes part a line's fields
abbrev stops : Cut → ℕ
stops (lastly f) = 0
stops (ended f stop c) = suc (stops c)

repairs_stops : (row : Bool) (k : ℕ) (c : Cut) → stops (repairs row k c) ≡ stops c
repairs_stops row k (lastly f) = refl
repairs_stops row k (ended f stop c) = ap suc (repairs_stops row (k + 1) c)

stops_le : (c : Cut) → stops c ≤ length (joined c)
stops_le (lastly f) = omega arith
stops_le (ended f stop c) = omega (arith, stops_le c, length-append f (stop ∷ joined c))

-- a line is bare where it has no other bytes
free_bare : (f rest : List ℕ) → Free parts f → 0 < length f → bare (f ++ rest) ≡ false
free_bare [] rest h k = absurd (not-suc-le-zero {n = 0} (omega arith))
free_bare (b ∷ f) rest h k = rw h.0

-- the same added on both sides
shifted : (a m n k : ℕ) → k ≡ a + n → ltb (a + m) k ≡ ltb m n
shifted a m n k e = go (ltb m n) refl
  where
    go : (t : Bool) → ltb m n ≡ t → ltb (a + m) k ≡ t
    go true q = lt-ltb (a + m) k (omega (arith, ltb-true m n q))
    go false q = le-ltb (a + m) k (omega (arith, ltb-false m n q))

bare_long : (c : Cut) → Parted parts c → ltb (stops c) (length (joined c)) ≡ not (bare (joined c))
bare_long (lastly []) h = refl
bare_long (lastly (b ∷ f)) h = rw h.0 (lt-ltb 0 (length (b ∷ f)) (omega arith))
bare_long (ended [] stop c) h = rw h.1 (one (stops c) ∙ shifted 1 (stops c) (length (joined c)) (length (stop ∷ joined c)) (omega arith) ∙ bare_long c h.2)
  where
    one : (m : ℕ) → ltb (suc m) (length (stop ∷ joined c)) ≡ ltb (1 + m) (length (stop ∷ joined c))
    one m = let e : suc m ≡ 1 + m = omega arith in ap (λ (k : ℕ). ltb k (length (stop ∷ joined c))) e
bare_long (ended (b ∷ f) stop c) h =
    rw h.0.0 (lt-ltb (suc (stops c)) (length ((b ∷ f) ++ (stop ∷ joined c))) (omega (arith, stops_le c, length-append f (stop ∷ joined c))))

line_bare_long : (line : List ℕ) → ltb (stops (cut tab semicolon line)) (length (line_tidied line)) ≡ not (bare (line_tidied line))
unfolding line_tidied
line_bare_long line =
    let c = cut tab semicolon line in
    ap (λ (m : ℕ). ltb m (length (line_tidied line))) (sym (repairs_stops (is_row c) 0 c)) ∙ bare_long (repairs (is_row c) 0 c) (repairs_parted (is_row c) 0 c (cut_parted tab semicolon line))

-- a line has at least the bytes that part its fields
stops_most : (line : List ℕ) → stops (cut tab semicolon line) ≤ length (line_tidied line)
unfolding line_tidied
stops_most line = let c = cut tab semicolon line in omega (arith, repairs_stops (is_row c) 0 c, stops_le (repairs (is_row c) 0 c))

-- ---- the loop over a line's fields
-- field k begins at p and ends at e; `next` is the place in the bytes that are lent
pub record FieldsLeft (line : List ℕ) (at : ℕ) (out₀ : List ℕ) (p k next e : ℕ) (out : List ℕ) : Type 0 where
  pub end : e ≡ p + length (leading tab semicolon (drop p line))
  pub within : p ≤ length line
  pub few : k ≤ p
  pub count : k + stops (cut tab semicolon (drop p line)) ≡ stops (cut tab semicolon line)
  pub left : Left (line_tidied line) (joined (repairs (is_row (cut tab semicolon line)) k (cut tab semicolon (drop p line)))) at next out₀ out

pub fields_none : (line : List ℕ) (at e : ℕ) (out : List ℕ) → e ≡ 0 + length (leading tab semicolon (drop 0 line)) → FieldsLeft line at out 0 0 at e out
unfolding line_tidied
fields_none line at e out q = record { end = q; within = omega arith; few = omega arith; count = zero-add (stops (cut tab semicolon line)); left = left_start (line_tidied line) at out }

module _ {line : List ℕ} {at : ℕ} {out₀ : List ℕ} {p k next e : ℕ} {out : List ℕ} (u : FieldsLeft line at out₀ p k next e out) where
  pub fields_count : k ≤ length (line_tidied line)
  fields_count = omega (arith, u.count, stops_most line)

  -- a field that another follows
  module _ (h : e < length line) where
    here : joined (repairs (is_row (cut tab semicolon line)) k (cut tab semicolon (drop p line)))
        ≡ (repaired false (wanted (is_row (cut tab semicolon line)) k) (take (e - p) (drop p line)) ++ (get_or line e 0 ∷ [])) ++ joined (repairs (is_row (cut tab semicolon line)) (k + 1) (cut tab semicolon (drop (e + 1) line)))
    here =
        ap (λ (c : Cut). joined (repairs (is_row (cut tab semicolon line)) k c)) (piece_ended tab semicolon line p e u.within u.end h)
        ∙ sym (append_assoc (repaired false (wanted (is_row (cut tab semicolon line)) k) (take (e - p) (drop p line))) (get_or line e 0 ∷ []) _)

    pub fields_more : (r : Bool) (want n e' : ℕ) (out' : List ℕ) → r ≡ is_row (cut tab semicolon line) → want ≡ wanted r k → Clip (repaired false want (take (e - p) (drop p line)) ++ (get_or line e 0 ∷ [])) next out n out'
        → e' ≡ e + 1 + length (leading tab semicolon (drop (e + 1) line)) → FieldsLeft line at out₀ (e + 1) (k + 1) n e' out'
    fields_more r want n e' out' is w c q =
        let all : stops (cut tab semicolon (drop p line)) ≡ suc (stops (cut tab semicolon (drop (e + 1) line))) = ap stops (piece_ended tab semicolon line p e u.within u.end h) in
        let d : want ≡ wanted (is_row (cut tab semicolon line)) k = w ∙ ap (λ (v : Bool). wanted v k) is in
        record {
          end = q;
          within = omega arith;
          few = omega (arith, u.few, u.end);
          count = omega (arith, u.count);
          left = left_more (left_is here u.left) (subst (λ (v : ℕ). Clip (repaired false v (take (e - p) (drop p line)) ++ (get_or line e 0 ∷ [])) next out n out') d c);
        }

    pub fields_room : (r : Bool) (want most : ℕ) → r ≡ is_row (cut tab semicolon line) → want ≡ wanted r k → at + length (line_tidied line) ≤ most → next + (length (repaired false want (take (e - p) (drop p line))) + 1) ≤ most
    fields_room r want most is w l =
        let d : want ≡ wanted (is_row (cut tab semicolon line)) k = w ∙ ap (λ (v : Bool). wanted v k) is in
        let f = repaired false (wanted (is_row (cut tab semicolon line)) k) (take (e - p) (drop p line)) in
        let rest = joined (repairs (is_row (cut tab semicolon line)) (k + 1) (cut tab semicolon (drop (e + 1) line))) in
        rw d (omega (arith, u.left.place, ap length here, length-append (f ++ (get_or line e 0 ∷ [])) rest, length-append f (get_or line e 0 ∷ [])))

  -- the last field
  module _ (h : length line ≤ e) where
    last-is : joined (repairs (is_row (cut tab semicolon line)) k (cut tab semicolon (drop p line))) ≡ repaired true (wanted (is_row (cut tab semicolon line)) k) (take (e - p) (drop p line))
    last-is = ap (λ (c : Cut). joined (repairs (is_row (cut tab semicolon line)) k c)) (piece_lastly tab semicolon line p e u.within u.end h)

    pub last_room : (r : Bool) (want most : ℕ) → r ≡ is_row (cut tab semicolon line) → want ≡ wanted r k → at + length (line_tidied line) ≤ most → next + length (repaired true want (take (e - p) (drop p line))) ≤ most
    last_room r want most is w l =
        let d : want ≡ wanted (is_row (cut tab semicolon line)) k = w ∙ ap (λ (v : Bool). wanted v k) is in
        rw d (omega (arith, u.left.place, ap length last-is))

    pub fields_all : (r : Bool) (want n : ℕ) (out' : List ℕ) → r ≡ is_row (cut tab semicolon line) → want ≡ wanted r k → Clip (repaired true want (take (e - p) (drop p line))) next out n out'
        → LinePut line at out₀ (record { next = n; some = ltb (at + k) n }) out'
    fields_all r want n out' is w c =
        let d : want ≡ wanted (is_row (cut tab semicolon line)) k = w ∙ ap (λ (v : Bool). wanted v k) is in
        let q : Clip (line_tidied line) at out₀ n out' = left_last (left_is last-is u.left) (subst (λ (v : ℕ). Clip (repaired true v (take (e - p) (drop p line))) next out n out') d c) in
        let none : stops (cut tab semicolon (drop p line)) ≡ 0 = ap stops (piece_lastly tab semicolon line p e u.within u.end h) in
        record { put = q; some = more n q.after (omega (arith, u.count)) }
      where
        more : (n : ℕ) → n ≡ at + length (line_tidied line) → k ≡ stops (cut tab semicolon line) → ltb (at + k) n ≡ not (bare (line_tidied line))
        more n after count = shifted at k (length (line_tidied line)) n after ∙ ap (λ (m : ℕ). ltb m (length (line_tidied line))) count ∙ line_bare_long line

-- ---- is_row: the bytes that part fields are those of the line
onto_ended : (b c : ℕ) (d : Cut) → ended_by b (onto c d) ≡ ended_by b d
onto_ended b c (lastly f) = refl
onto_ended b c (ended f stop d) = refl

other : (b c : ℕ) → parts b ≡ true → parts c ≡ false → eqb c b ≡ false
other b c h e = go (eqb c b) refl
  where
    go : (t : Bool) → eqb c b ≡ t → t ≡ false
    go true q = absurd (false≢true (sym e ∙ ap parts (eqb-true c b q) ∙ h))
    go false q = refl

pub any_ended : (b : ℕ) → parts b ≡ true → (s : List ℕ) → ended_by b (cut tab semicolon s) ≡ list_any (λ c. eqb c b) s
any_ended b h [] = refl
any_ended b h (c ∷ s) = go (parts c) refl (any_ended b h s)
  where
    go : (t : Bool) → parts c ≡ t → ended_by b (cut tab semicolon s) ≡ list_any (λ c. eqb c b) s → ended_by b (cond t (ended [] c (cut tab semicolon s)) (onto c (cut tab semicolon s))) ≡ (eqb c b || list_any (λ a. eqb a b) s)
    go true e ih = ap (λ (v : Bool). eqb c b || v) ih
    go false e ih = onto_ended b c (cut tab semicolon s) ∙ ih ∙ sym (ap (λ (v : Bool). v || list_any (λ a. eqb a b) s) (other b c h e))
