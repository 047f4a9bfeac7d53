-- The laws of `specs/Put.antt`, and the lines of `specs/Written.antt` as a chain of writes. No contract cites this file.
-- In order: `put`; `Put` (none, more, the room left); fields and a line, `Begun`; `lines_text`.
use mathlib.Core.Path.{◌≡◌, refl, sym, ap, ap₂, subst, ◌∙◌}
use mathlib.Core.List.{List, [], ◌∷◌, ◌++◌, append_assoc, append-nil}
use Prim.Native.Nat.{ℕ, zero, suc, ◌+◌, ◌*◌, ◌-◌, ◌≤◌, ◌<◌}
use native.Mathlib.Nat.{add-zero, zero-add}
use native.Mathlib.Numerals.{add-one}
use native.Mathlib.Omega.{arith}
use lib.ListN.{length, take, drop, set, length-append, length-drop, take-append-drop}
use lib.Seq.{length-take-le, take_at, drop_at, drop-drop, set_split, take-set-le}
use Rattle.numbers.specs.Below.{sum, over}
use Rattle.numbers.proofs.SumLaws.{sum_most}
use Rattle.text.specs.Fields.{tab, feed}
use Rattle.text.specs.Written.{fields_text, line_text, lines_text}
use Rattle.text.specs.Put.{put, Put}

-- ---- put: the bytes before, the text, the bytes after
pub put_nothing : (at : ℕ) (out : List ℕ) → put [] at out ≡ out
put_nothing at out = rw (add-zero at) (take-append-drop at out)

pub put_start : (text out : List ℕ) → put text 0 out ≡ over text out
put_start text out = ap (λ (k : ℕ). text ++ drop k out) (zero-add (length text))

module _ (text : List ℕ) (at : ℕ) (out : List ℕ) where
  pub put_length : at + length text ≤ length out → length (put text at out) ≡ length out
  put_length h =
      length-append (take at out) (text ++ drop (at + length text) out)
      ∙ omega (arith, length-take-le at out (omega arith), length-append text (drop (at + length text) out), length-drop (at + length text) out)

  front : at ≤ length out → length (take at out ++ text) ≡ at + length text
  front h = length-append (take at out) text ∙ ap (λ (k : ℕ). k + length text) (length-take-le at out h)

  pub put_take : at ≤ length out → take (at + length text) (put text at out) ≡ take at out ++ text
  put_take h =
      ap (take (at + length text)) (sym (append_assoc (take at out) text (drop (at + length text) out)))
      ∙ take_at (take at out ++ text) (drop (at + length text) out) (at + length text) (front h)

  pub put_drop : at ≤ length out → drop (at + length text) (put text at out) ≡ drop (at + length text) out
  put_drop h =
      ap (drop (at + length text)) (sym (append_assoc (take at out) text (drop (at + length text) out)))
      ∙ drop_at (take at out ++ text) (drop (at + length text) out) (at + length text) (front h)

-- one text after another is their chain
pub put_twice : (x y : List ℕ) (at : ℕ) (out : List ℕ) → at ≤ length out → put y (at + length x) (put x at out) ≡ put (x ++ y) at out
put_twice x y at out h =
    let past : at + length x + length y ≡ at + length (x ++ y) = omega (arith, length-append x y) in
    let rest : drop (at + length x + length y) (put x at out) ≡ drop (at + length (x ++ y)) out =
    sym (drop-drop (length y) (at + length x) (put x at out))
    ∙ ap (drop (length y)) (put_drop x at out h)
    ∙ drop-drop (length y) (at + length x) out
    ∙ ap (λ (k : ℕ). drop k out) past
    in
    ap₂ (λ (a b : List ℕ). a ++ (y ++ b)) (put_take x at out h) rest
    ∙ append_assoc (take at out) x (y ++ drop (at + length (x ++ y)) out)
    ∙ ap (λ (l : List ℕ). take at out ++ l) (sym (append_assoc x y (drop (at + length (x ++ y)) out)))

module _ (b at : ℕ) (out : List ℕ) where
  -- one byte is a store
  pub put_byte : at < length out → set out at b ≡ put (b ∷ []) at out
  put_byte h = rw (add-one at) (set_split out at b h)

  -- a text whose last byte is stored first
  pub put_last : (x : List ℕ) → at + length x < length out → put x at (set out (at + length x) b) ≡ put (x ++ (b ∷ [])) at out
  put_last x h =
      let k = at + length x in
      let long : length (take k out) ≡ k = length-take-le k out (omega arith) in
      let rest : drop k (set out k b) ≡ b ∷ drop (suc k) out = ap (drop k) (set_split out k b h) ∙ drop_at (take k out) (b ∷ drop (suc k) out) k long in
      let past : suc k ≡ at + length (x ++ (b ∷ [])) = omega (arith, length-append x (b ∷ [])) in
      ap₂ (λ (l r : List ℕ). l ++ (x ++ r)) (take-set-le at out k b (omega arith)) (rest ∙ ap (λ (j : ℕ). b ∷ drop j out) past)
      ∙ ap (λ (l : List ℕ). take at out ++ l) (sym (append_assoc x (b ∷ []) (drop (at + length (x ++ (b ∷ []))) out)))

-- ---- Put: a chain of writes
pub put_none : (at : ℕ) (out : List ℕ) → Put [] at out at out
put_none at out = record { after = sym (add-zero at); wrote = sym (put_nothing at out) }

module _ {x : List ℕ} {at : ℕ} {out : List ℕ} {m : ℕ} {mid : List ℕ} (p : Put x at out m mid) where
  pub put_more : {y : List ℕ} {n : ℕ} {out' : List ℕ} → at ≤ length out → Put y m mid n out' → Put (x ++ y) at out n out'
  put_more {y} h q = record {
    after = omega (arith, p.after, q.after, length-append x y);
    wrote = q.wrote ∙ ap₂ (λ (k : ℕ) (l : List ℕ). put y k l) p.after p.wrote ∙ put_twice x y at out h;
  }

  pub put_kept : at + length x ≤ length out → length mid ≡ length out
  put_kept h = ap length p.wrote ∙ put_length x at out h

  -- the room that is left for k bytes more
  pub put_room : (k : ℕ) → at + (length x + k) ≤ length out → m + k ≤ length mid
  put_room k h = omega (arith, p.after, put_kept (omega arith))

-- a text from the start on, as an open call leaves it
pub put_whole : {text out : List ℕ} {next : ℕ} {out' : List ℕ} → Put text 0 out next out' → (next ≡ length text) × (out' ≡ over text out)
put_whole {text} {out} p = (p.after ∙ zero-add (length text), p.wrote ∙ put_start text out)

-- ---- fields and lines
-- the fields of a line that are written so far: a tab before each, and no LF yet
unfoldable pub tabbed : List (List ℕ) → List ℕ
tabbed [] = []
tabbed (f ∷ fs) = tab ∷ (f ++ tabbed fs)

pub tabbed_append : (fs gs : List (List ℕ)) → tabbed (fs ++ gs) ≡ tabbed fs ++ tabbed gs
unfolding tabbed
tabbed_append [] gs = refl
tabbed_append (f ∷ fs) gs = ap (λ (l : List ℕ). tab ∷ (f ++ l)) (tabbed_append fs gs) ∙ ap (λ (l : List ℕ). tab ∷ l) (sym (append_assoc f (tabbed fs) (tabbed gs)))

pub tabbed_snoc : (fs : List (List ℕ)) (f : List ℕ) → tabbed (fs ++ (f ∷ [])) ≡ tabbed fs ++ (tab ∷ f)
unfolding tabbed
tabbed_snoc fs f = tabbed_append fs (f ∷ []) ∙ ap (λ (l : List ℕ). tabbed fs ++ (tab ∷ l)) (append-nil f)

pub fields_tabbed : (fs : List (List ℕ)) → fields_text fs ≡ tabbed fs ++ (feed ∷ [])
unfolding fields_text tabbed
fields_tabbed [] = refl
fields_tabbed (f ∷ fs) = ap (λ (l : List ℕ). tab ∷ (f ++ l)) (fields_tabbed fs) ∙ ap (λ (l : List ℕ). tab ∷ l) (sym (append_assoc f (tabbed fs) (feed ∷ [])))

pub line_tabbed : (letter : ℕ) (fs : List (List ℕ)) → line_text letter fs ≡ (letter ∷ tabbed fs) ++ (feed ∷ [])
unfolding line_text
line_tabbed letter fs = ap (λ (l : List ℕ). letter ∷ l) (fields_tabbed fs)

pub tabbed_length : (f : List ℕ) (fs : List (List ℕ)) → length (tabbed (f ∷ fs)) ≡ 1 + length f + length (tabbed fs)
unfolding tabbed
tabbed_length f fs = omega (arith, length-append f (tabbed fs))

pub tabbed_empty : length (tabbed []) ≡ 0
unfolding tabbed
tabbed_empty = refl

pub line_length_lem : (letter : ℕ) (fs : List (List ℕ)) → length (line_text letter fs) ≡ 2 + length (tabbed fs)
line_length_lem letter fs = ap length (line_tabbed letter fs) ∙ omega (arith, length-append (tabbed fs) (feed ∷ []))

-- a line as a chain of writes: its letter, its fields one by one, its LF
pub record Begun (letter : ℕ) (fields : List (List ℕ)) (at : ℕ) (out : List ℕ) (next : ℕ) (out' : List ℕ) : Type 0 where
  pub put : Put (letter ∷ tabbed fields) at out next out'

module _ {letter at m : ℕ} {out mid : List ℕ} where
  pub line_none : Put (letter ∷ []) at out m mid → Begun letter [] at out m mid
  unfolding tabbed
  line_none p = record { put = p }

  module _ {fs : List (List ℕ)} {n : ℕ} {out' : List ℕ} (h : at ≤ length out) (p : Begun letter fs at out m mid) where
    pub line_more : {f : List ℕ} → Put (tab ∷ f) m mid n out' → Begun letter (fs ++ (f ∷ [])) at out n out'
    line_more {f} q = record { put = rw (tabbed_snoc fs f) (put_more p.put h q) }

    pub line_all : Put (feed ∷ []) m mid n out' → Put (line_text letter fs) at out n out'
    line_all q = rw (line_tabbed letter fs) (put_more p.put h q)

-- the room for a line is room for each of its parts
pub room_first : {at room : ℕ} (letter : ℕ) (fs : List (List ℕ)) → at + length (line_text letter fs) ≤ room → at < room
room_first letter fs h = omega (arith, line_length_lem letter fs)

module _ {letter at m : ℕ} {out mid : List ℕ} {fs : List (List ℕ)} (p : Begun letter fs at out m mid) where
  pub room_more : (f : List ℕ) (gs : List (List ℕ)) → at + length (line_text letter (fs ++ (f ∷ gs))) ≤ length out → m + length (tab ∷ f) ≤ length mid
  room_more f gs h =
      let all : length (tabbed (fs ++ (f ∷ gs))) ≡ length (tabbed fs) + length (tabbed (f ∷ gs)) = ap length (tabbed_append fs (f ∷ gs)) ∙ length-append (tabbed fs) (tabbed (f ∷ gs)) in
      put_room p.put (length (tab ∷ f)) (omega (arith, line_length_lem letter (fs ++ (f ∷ gs)), tabbed_length f gs))

  pub room_last : at + length (line_text letter fs) ≤ length out → m < length mid
  room_last h = omega (arith, put_room p.put 1 (omega (arith, line_length_lem letter fs)))

-- ---- lines_text: the last line last
lines_last : (k i : ℕ) (line : ℕ → List ℕ) → lines_text (suc k) i line ≡ lines_text k i line ++ line (i + k)
unfolding lines_text
lines_last zero i line = append-nil (line i) ∙ ap line (sym (add-zero i))
lines_last (suc k) i line =
    let e : i + 1 + k ≡ i + suc k = omega arith in
    ap (λ (l : List ℕ). line i ++ l) (lines_last k (i + 1) line ∙ ap (λ (j : ℕ). lines_text k (i + 1) line ++ line j) e)
    ∙ sym (append_assoc (line i) (lines_text k (i + 1) line) (line (i + suc k)))

module _ (line : ℕ → List ℕ) where
  pub lines_snoc : (k : ℕ) → lines_text (k + 1) 0 line ≡ lines_text k 0 line ++ line k
  lines_snoc k = rw (add-one k) (lines_last k 0 line ∙ ap (λ (j : ℕ). lines_text k 0 line ++ line j) (zero-add k))

  pub lines_none : (at : ℕ) (out : List ℕ) → Put (lines_text 0 0 line) at out at out
  unfolding lines_text
  lines_none at out = put_none at out

  pub lines_more : {k at m n : ℕ} {out mid out' : List ℕ} → at ≤ length out → Put (lines_text k 0 line) at out m mid → Put (line k) m mid n out'
      → Put (lines_text (k + 1) 0 line) at out n out'
  lines_more {k} h p q = rw (lines_snoc k) (put_more p h q)

  pub lines_all_lem : {k n at m : ℕ} {out mid : List ℕ} → k ≤ n → n ≤ k → Put (lines_text k 0 line) at out m mid → Put (lines_text n 0 line) at out m mid
  lines_all_lem {k} {n} {at} {m} {out} {mid} h l p = subst (λ (j : ℕ). Put (lines_text j 0 line) at out m mid) (omega arith) p

  pub lines_length : (k : ℕ) → length (lines_text k 0 line) ≡ sum k (λ i. length (line i))
  unfolding lines_text sum
  lines_length zero = refl
  lines_length (suc k) =
      ap length (sym (ap (λ (j : ℕ). lines_text j 0 line) (add-one k)) ∙ lines_snoc k)
      ∙ length-append (lines_text k 0 line) (line k)
      ∙ ap (λ (j : ℕ). j + length (line k)) (lines_length k)

  -- lines of at most q bytes
  pub lines_most_lem : (n : ℕ) {q : ℕ} → ((i : ℕ) → i < n → length (line i) ≤ q) → length (lines_text n 0 line) ≤ n * q
  lines_most_lem n h = omega (arith, lines_length n, sum_most n (λ i. length (line i)) h)

  lines-on : (k j : ℕ) → length (lines_text k 0 line) ≤ length (lines_text (k + j) 0 line)
  lines-on k zero = rw (add-zero k) (omega arith)
  lines-on k (suc j) =
      let e : k + suc j ≡ k + j + 1 = omega arith in
      rw e (omega (arith, lines-on k j, ap length (lines_snoc (k + j)), length-append (lines_text (k + j) 0 line) (line (k + j))))

  -- fewer lines are no longer
  pub lines_le : (k n : ℕ) → k ≤ n → length (lines_text k 0 line) ≤ length (lines_text n 0 line)
  lines_le k n h =
      let e : k + (n - k) ≡ n = omega arith in
      rw e at (lines-on k (n - k))

  -- the room for n lines is room for each of them
  pub lines_room : (k n : ℕ) {at m : ℕ} {out mid : List ℕ} → k < n → at + length (lines_text n 0 line) ≤ length out → Put (lines_text k 0 line) at out m mid → m + length (line k) ≤ length mid
  lines_room k n l h p =
      let le : length (lines_text (k + 1) 0 line) ≤ length (lines_text n 0 line) = lines_le (k + 1) n (omega arith) in
      put_room p (length (line k)) (omega (arith, ap length (lines_snoc k), length-append (lines_text k 0 line) (line k)))

-- lines that are alike
pub lines_cong : (k i : ℕ) (line line' : ℕ → List ℕ) → ((j : ℕ) → j < i + k → line j ≡ line' j) → lines_text k i line ≡ lines_text k i line'
unfolding lines_text
lines_cong zero i line line' h = refl
lines_cong (suc k) i line line' h = rw (h i (omega arith), lines_cong k (i + 1) line line' (λ j l. h j (omega arith)))
