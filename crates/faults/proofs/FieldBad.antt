-- Which bytes make a field bad (02, E5): its bytes up to the bad place make it bad whatever follows (`field-no`), and the bytes before that place can be continued to
-- a good field (`field-could`). No contract cites this file.
-- In order: a number after a minus; "-" in R; a field of each kind is bad whatever follows; the bytes before its bad place. Numbers with a point are in `PointBad.antt`.
use lib.IntN.{ℤ}
use mathlib.Core.Path.{◌≡◌, refl, sym, ap, subst, ◌∙◌}
use mathlib.Core.Bool.{Bool, true, false, cond, or-true}
use mathlib.Core.Logic.{⊎_elim}
use mathlib.Core.List.{List, [], ◌∷◌, ◌++◌}
use Prim.Native.Nat.{ℕ, ◌+◌, ◌^◌, ◌≤◌, ◌<◌}
use native.Mathlib.Omega.{arith}
use lib.Dec.{eqb, lit<}
use lib.ListN.{length, get_or, take, drop, get_or-append}
use lib.Seq.{take-append-le}
use borrow.Author.Tests.{eqb-true, eqb-false, eq-eqb, ne_eqb}
use Rattle.numbers.specs.Ints.{minus}
use Rattle.numbers.proofs.BelowLaws.{le_or_lt}
use Rattle.types.specs.LineColumns.{Column, number, signed, share, power, flow, factor}
use Rattle.text.specs.Fields.{Parsed, feed, number_at, positive, negative, signed_at, share_at}
use Rattle.text.specs.Point.{point_at, signed_point_at}
use Rattle.text.specs.Written.{decimal}
use Rattle.text.proofs.NumberTrip.{number_read, signed_plus, signed_minus, no_value, first_digit, first_at, decimal_some, decimal_ten, text_first, plain_parts}
use Rattle.text.proofs.DigitLaws.{decimal_one}
use Rattle.text.proofs.FieldLaws.{dash_within, share_plus}
use Rattle.text.proofs.PointLaws.{signed_point_plus, signed_point_minus}
use Rattle.columns.specs.Columns.{field_at}
use Rattle.blame.specs.Blame.{good_at}
use Rattle.faults.specs.FirstBad.{Could}
use Rattle.faults.proofs.NumberBad.{num, off, whole_number, place_number, number_no, num_of, Grown, grown, grown_none}
use Rattle.faults.proofs.PointBad.{positive_bad, negated_bad, negated_whole, point_low, point_no, point_could, value_first}
use Rattle.faults.proofs.AgreeLaws.{agree_at, built_drop, built_take, built_at}
use Rattle.std.specs.Prelude.{Ok, Err, is_ok}

-- ---- a number after a minus: 0 is seen from its first byte
module _ (l : List ℕ) (p stop : ℕ) where
  first_of : (v next : ℕ) → number_at l p stop ≡ Ok (v, next) → get_or l p 0 ≡ get_or (decimal v) 0 0
  first_of v next e = first_at l p _ (number_read l p stop v next (sym e)).here ∙ get_or-append (decimal v) _ 0 0 (decimal_some v)

  zero-value : (v next : ℕ) → number_at l p stop ≡ Ok (v, next) → get_or l p 0 ≡ 48 → v ≡ 0
  zero-value v next e f =
      ⊎_elim
      (λ (q : v ≤ 0). omega arith)
      (λ (q : 0 < v).
      let small : v < 10 ^ 10 = (number_read l p stop v next (sym e)).small in
      absurd (text_first 10 v q small (ap (λ (s : List ℕ). get_or s 0 0) (sym (decimal_ten v small)) ∙ sym (first_of v next e) ∙ f)))
      (le_or_lt v 0)

  value-zero : (next : ℕ) → number_at l p stop ≡ Ok (0, next) → get_or l p 0 ≡ 48
  value-zero next e = first_of 0 next e ∙ ap (λ (s : List ℕ). get_or s 0 0) (decimal_one 0 (omega arith))

  module _ (f : get_or l p 0 ≡ 48) where
    minus_zero : is_ok (negative (get_or l p 0) p (number_at l p stop)) ≡ false
    minus_zero = go (number_at l p stop) refl
      where
        go : (n : Parsed ℕ) → number_at l p stop ≡ n → is_ok (negative (get_or l p 0) p n) ≡ false
        go (Ok (v, next)) e = rw (eq-eqb v 0 (zero-value v next e f))
        go (Err q) e = refl

    minus-zero-place : (place : ℕ) → negative (get_or l p 0) p (number_at l p stop) ≡ Err place → place ≡ p
    minus-zero-place place e = go (number_at l p stop) refl e
      where
        go : (n : Parsed ℕ) → number_at l p stop ≡ n → negative (get_or l p 0) p n ≡ Err place → place ≡ p
        go (Ok (v, next)) q e = let x : Err p ≡ Err place = rw (eq-eqb v 0 (zero-value v next q f)) at e in cc
        go (Err y) q e = let x : Err p ≡ Err place = rw (eq-eqb (get_or l p 0) 48 f) at e in cc

  module _ (f : get_or l p 0 ≡ 48 → ⊥) where
    above : (v next : ℕ) → number_at l p stop ≡ Ok (v, next) → eqb v 0 ≡ false
    above v next q = ne_eqb v 0 (λ z. f (value-zero next (q ∙ ap (λ (y : ℕ). Ok (y, next)) z)))

    minus-other : is_ok (negative (get_or l p 0) p (number_at l p stop)) ≡ num (drop p l) stop
    minus-other = go (number_at l p stop) refl ∙ whole_number l p stop
      where
        go : (n : Parsed ℕ) → number_at l p stop ≡ n → is_ok (negative (get_or l p 0) p n) ≡ is_ok (positive n)
        go (Ok (v, next)) q = rw (above v next q)
        go (Err y) q = refl

    minus-other-place : (place : ℕ) → negative (get_or l p 0) p (number_at l p stop) ≡ Err place → place ≡ p + off (drop p l)
    minus-other-place place e = go (number_at l p stop) refl e
      where
        go : (n : Parsed ℕ) → number_at l p stop ≡ n → negative (get_or l p 0) p n ≡ Err place → place ≡ p + off (drop p l)
        go (Ok (v, next)) q e = absurd (no_value place _ _ (sym (rw (above v next q) at e)))
        go (Err y) q e =
            let x : Err y ≡ Err place = rw (ne_eqb (get_or l p 0) 48 f) at e in
            place_number l p stop place (ap positive q ∙ x)

-- ---- "-" in R: what follows it decides
pub share_dash : (line : List ℕ) (at stop : ℕ) → get_or line at 0 ≡ 45 → cond {A = Parsed ℤ} (eqb (get_or line (at + 1) 0) stop) (Ok (minus 1, at + 2)) (Err (at + 1)) ≡ share_at line at stop
unfolding share_at
share_dash line at stop e = rw (eq-eqb (get_or line at 0) 45 e)

lone_place : (at place : ℕ) (t : Bool) → ◌≡◌ {A = Parsed ℤ} (cond t (Ok (minus 1, at + 2)) (Err (at + 1))) (Err place) → place ≡ at + 1
lone_place at place true e = absurd (no_value place _ _ (sym e))
lone_place at place false e = cc

-- ---- a field of each kind is bad by its bytes up to its bad place, whatever follows
module _ (line other : List ℕ) (at first stop place : ℕ) (in-line : at ≤ length line) (within : place < length line) (a : take (place + 1) other ≡ take (place + 1) line) where
  positive-no : positive (number_at line at first) ≡ Err place → is_ok (positive (number_at line at stop)) ≡ false → is_ok (positive (number_at other at stop)) ≡ false
  positive-no e n = whole_number other at stop ∙ number_no line other stop place within a at in-line (place_number line at first place e) (sym (whole_number line at stop) ∙ n)

  same_first : at ≤ place → get_or other at 0 ≡ get_or line at 0
  same_first h = agree_at line other (place + 1) a at (omega arith)

  signed_no : signed_at line at first ≡ Err place → is_ok (signed_at line at stop) ≡ false → is_ok (signed_at other at stop) ≡ false
  signed_no e n = go (eqb (get_or line at 0) 45) refl
    where
      go : (t : Bool) → eqb (get_or line at 0) 45 ≡ t → is_ok (signed_at other at stop) ≡ false
      go false d =
          let q = signed_plus line at first d ∙ e in
          let g : eqb (get_or other at 0) 45 ≡ false = ap (λ (b : ℕ). eqb b 45) (same_first (omega (arith, place_number line at first place q))) ∙ d in
          ap is_ok (sym (signed_plus other at stop g)) ∙ positive-no q (ap is_ok (signed_plus line at stop d) ∙ n)
      go true d = by (eqb (get_or line (at + 1) 0) 48) refl
        where
          q : negative (get_or line (at + 1) 0) (at + 1) (number_at line (at + 1) first) ≡ Err place
          q = signed_minus line at first d ∙ e

          inside : at + 1 ≤ length line
          inside = omega (arith, dash_within line at d)

          close : at + 1 ≤ place → is_ok (negative (get_or other (at + 1) 0) (at + 1) (number_at other (at + 1) stop)) ≡ false → is_ok (signed_at other at stop) ≡ false
          close h r =
              let g : eqb (get_or other at 0) 45 ≡ true = ap (λ (b : ℕ). eqb b 45) (same_first (omega arith)) ∙ d in
              ap is_ok (sym (signed_minus other at stop g)) ∙ r

          by : (t : Bool) → eqb (get_or line (at + 1) 0) 48 ≡ t → is_ok (signed_at other at stop) ≡ false
          by true z =
              let f : get_or line (at + 1) 0 ≡ 48 = eqb-true _ _ z in
              let h : place ≡ at + 1 = minus-zero-place line (at + 1) first f place q in
              close (omega arith) (minus_zero other (at + 1) stop (agree_at line other (place + 1) a (at + 1) (omega arith) ∙ f))
          by false z =
              let f : get_or line (at + 1) 0 ≡ 48 → ⊥ = eqb-false _ _ z in
              let h : place ≡ at + 1 + off (drop (at + 1) line) = minus-other-place line (at + 1) first f place q in
              let m : num (drop (at + 1) line) stop ≡ false = sym (minus-other line (at + 1) stop f) ∙ ap is_ok (signed_minus line at stop d) ∙ n in
              let k : get_or other (at + 1) 0 ≡ get_or line (at + 1) 0 = agree_at line other (place + 1) a (at + 1) (omega arith) in
              close (omega arith) (minus-other other (at + 1) stop (λ x. f (sym k ∙ x)) ∙ number_no line other stop place within a (at + 1) inside h m)

  share-no : share_at line at first ≡ Err place → is_ok (share_at line at stop) ≡ false → is_ok (share_at other at stop) ≡ false
  share-no e n = go (eqb (get_or line at 0) 45) refl
    where
      go : (t : Bool) → eqb (get_or line at 0) 45 ≡ t → is_ok (share_at other at stop) ≡ false
      go false d =
          let q = share_plus line at first d ∙ e in
          let g : eqb (get_or other at 0) 45 ≡ false = ap (λ (b : ℕ). eqb b 45) (same_first (omega (arith, place_number line at first place q))) ∙ d in
          ap is_ok (sym (share_plus other at stop g)) ∙ positive-no q (ap is_ok (share_plus line at stop d) ∙ n)
      go true d =
          let f : get_or line at 0 ≡ 45 = eqb-true _ _ d in
          let h : place ≡ at + 1 = lone_place at place (eqb (get_or line (at + 1) 0) first) (share_dash line at first f ∙ e) in
          let k : get_or other (at + 1) 0 ≡ get_or line (at + 1) 0 = agree_at line other (place + 1) a (at + 1) (omega arith) in
          let g : get_or other at 0 ≡ 45 = same_first (omega arith) ∙ f in
          ap is_ok (sym (share_dash other at stop g)) ∙ ap (λ (b : ℕ). is_ok (cond {A = Parsed ℤ} (eqb b stop) (Ok (minus 1, at + 2)) (Err (at + 1)))) k ∙ ap is_ok (share_dash line at stop f) ∙ n

  -- a number with a point, and a signed one
  module _ (k : ℕ) (few : k < 10) (some : 0 < k) where
    point-plus-no : positive (point_at false k line at first) ≡ Err place → is_ok (positive (point_at false k line at stop)) ≡ false → is_ok (positive (point_at false k other at stop)) ≡ false
    point-plus-no e n = point_no false k few some line other at first stop place in-line within a (positive_bad place (point_at false k line at first) e) n

    signed-point-no : signed_point_at k line at first ≡ Err place → is_ok (signed_point_at k line at stop) ≡ false → is_ok (signed_point_at k other at stop) ≡ false
    signed-point-no e n = go (eqb (get_or line at 0) 45) refl
      where
        go : (t : Bool) → eqb (get_or line at 0) 45 ≡ t → is_ok (signed_point_at k other at stop) ≡ false
        go false d =
            let q = signed_point_plus k line at first d ∙ e in
            let low : at ≤ place = point_low false k line at first place (positive_bad place (point_at false k line at first) q) in
            let g : eqb (get_or other at 0) 45 ≡ false = ap (λ (b : ℕ). eqb b 45) (same_first low) ∙ d in
            ap is_ok (sym (signed_point_plus k other at stop g)) ∙ point-plus-no q (ap is_ok (signed_point_plus k line at stop d) ∙ n)
        go true d =
            let q = negated_bad place (point_at true k line (at + 1) first) (signed_point_minus k line at first d ∙ e) in
            let low : at + 1 ≤ place = point_low true k line (at + 1) first place q in
            let inside : at + 1 ≤ length line = omega (arith, dash_within line at d) in
            let g : eqb (get_or other at 0) 45 ≡ true = ap (λ (b : ℕ). eqb b 45) (same_first (omega arith)) ∙ d in
            let m = sym (negated_whole (point_at true k line (at + 1) stop)) ∙ ap is_ok (signed_point_minus k line at stop d) ∙ n in
            ap is_ok (sym (signed_point_minus k other at stop g)) ∙ negated_whole (point_at true k other (at + 1) stop)
            ∙ point_no true k few some line other (at + 1) first stop place inside within a q m

  pub field_no : (c : Column) → field_at c line at first ≡ Err place → is_ok (field_at c line at stop) ≡ false → is_ok (field_at c other at stop) ≡ false
  unfolding field_at
  field_no number e n = positive-no e n
  field_no signed e n = signed_no e n
  field_no share e n = share-no e n
  field_no power e n = point-plus-no 3 (lit< tt) (lit< tt) e n
  field_no flow e n = signed-point-no 3 (lit< tt) (lit< tt) e n
  field_no factor e n = signed-point-no 5 (lit< tt) (lit< tt) e n

-- ---- the bytes before the bad place could stand in a good field, one that an LF ends
good_either : (sep : ℕ) (c : Column) (line : List ℕ) (at : ℕ) → is_ok (field_at c line at feed) ≡ true → good_at sep c line at ≡ true
unfolding good_at
good_either sep c line at w = rw w (or-true (is_ok (field_at c line at sep)))

module _ (sep : ℕ) (line : List ℕ) (at first place : ℕ) (in-line : at ≤ length line) where
  -- the line up to place p, and then a number that begins as the line does there, and its LF
  abbrev gone : (p : ℕ) → (text : List ℕ) → List ℕ
  gone p text = take p line ++ (text ++ (feed ∷ []))

  module _ (p k : ℕ) (l : p ≤ length line) (g : Grown (drop p line) k) where
    gone-num : num (drop p (gone p g.text)) feed ≡ true
    gone-num = ap (λ (s : List ℕ). num s feed) (built_drop line p l (g.text ++ (feed ∷ []))) ∙ num_of g.text [] feed refl g.all g.is_plain

    gone-take : place ≡ p + k → take place (gone p g.text) ≡ take place line
    gone-take e =
        subst (λ (j : ℕ). take j (gone p g.text) ≡ take j line) (sym e)
        (built_take line p l (g.text ++ (feed ∷ [])) k (take-append-le k g.text (feed ∷ []) g.high ∙ g.front))

    gone-first : get_or (gone p g.text) p 0 ≡ get_or g.text 0 0
    gone-first = first_at (gone p g.text) p _ (built_drop line p l (g.text ++ (feed ∷ []))) ∙ get_or-append g.text (feed ∷ []) 0 0 (plain_parts g.text g.is_plain).0

    gone-plus : eqb (get_or (gone p g.text) p 0) 45 ≡ false
    gone-plus =
        ap (λ (b : ℕ). eqb b 45) (first_at (gone p g.text) p _ (built_drop line p l (g.text ++ (feed ∷ []))))
        ∙ first_digit g.text (feed ∷ []) g.all (plain_parts g.text g.is_plain).0

  could : (c : Column) (o : List ℕ) → take place o ≡ take place line → is_ok (field_at c o at feed) ≡ true → Could sep c line at place
  could c o a w = record { other = o; agrees = a; good = good_either sep c o at w }

  positive-could : place ≡ at + off (drop at line) → (c : Column) → ((o : List ℕ) → eqb (get_or o at 0) 45 ≡ false → positive (number_at o at feed) ≡ field_at c o at feed) → Could sep c line at place
  positive-could e c q =
      let k = off (drop at line) in
      let g = grown (drop at line) in
      let o = gone at g.text in
      could c o (gone-take at k in-line g e) (ap is_ok (sym (q o (gone-plus at k in-line g))) ∙ whole_number o at feed ∙ gone-num at k in-line g)

  -- a number after a minus
  minus-could : get_or line at 0 ≡ 45 → (l : at + 1 ≤ length line) → (k : ℕ) (g : Grown (drop (at + 1) line) k) → place ≡ at + 1 + k → (get_or g.text 0 0 ≡ 48 → ⊥) → Could sep signed line at place
  unfolding field_at
  minus-could d l k g e f =
      let o = gone (at + 1) g.text in
      let b : eqb (get_or (gone (at + 1) g.text) at 0) 45 ≡ true = eq-eqb _ _ (built_at line (at + 1) l (g.text ++ (feed ∷ [])) at (omega arith) ∙ d) in
      could signed o (gone-take (at + 1) k l g e)
      (ap is_ok (sym (signed_minus o at feed b)) ∙ minus-other o (at + 1) feed (λ x. f (sym (gone-first (at + 1) k l g) ∙ x)) ∙ gone-num (at + 1) k l g)

  signed-could : signed_at line at first ≡ Err place → Could sep signed line at place
  unfolding field_at
  signed-could e = go (eqb (get_or line at 0) 45) refl
    where
      go : (t : Bool) → eqb (get_or line at 0) 45 ≡ t → Could sep signed line at place
      go false d = positive-could (place_number line at first place (signed_plus line at first d ∙ e)) signed (λ o d. signed_plus o at feed d)
      go true d =
          let l : at + 1 ≤ length line = omega (arith, dash_within line at d) in
          by l (signed_minus line at first d ∙ e) (eqb (get_or line (at + 1) 0) 48) refl
        where
          by : at + 1 ≤ length line → negative (get_or line (at + 1) 0) (at + 1) (number_at line (at + 1) first) ≡ Err place → (t : Bool) → eqb (get_or line (at + 1) 0) 48 ≡ t → Could sep signed line at place
          by l q true z =
              let h : place ≡ at + 1 = minus-zero-place line (at + 1) first (eqb-true _ _ z) place q in
              minus-could (eqb-true _ _ d) l 0 (grown_none (drop (at + 1) line)) (omega arith) (λ x. omega arith)
          by l q false z =
              let f : get_or line (at + 1) 0 ≡ 48 → ⊥ = eqb-false _ _ z in
              let g = grown (drop (at + 1) line) in
              minus-could (eqb-true _ _ d) l (off (drop (at + 1) line)) g (minus-other-place line (at + 1) first f place q)
              (g.not_zero (λ x. f (first_at line (at + 1) _ refl ∙ x)))

  share-could : share_at line at first ≡ Err place → Could sep share line at place
  unfolding field_at
  share-could e = go (eqb (get_or line at 0) 45) refl
    where
      go : (t : Bool) → eqb (get_or line at 0) 45 ≡ t → Could sep share line at place
      go false d = positive-could (place_number line at first place (share_plus line at first d ∙ e)) share (λ o d. share_plus o at feed d)
      go true d =
          let f : get_or line at 0 ≡ 45 = eqb-true _ _ d in
          let l : at + 1 ≤ length line = omega (arith, dash_within line at d) in
          let h : place ≡ at + 1 = lone_place at place (eqb (get_or line (at + 1) 0) first) (share_dash line at first f ∙ e) in
          let m : at + 1 + 0 ≡ place = omega arith in
          let o = take (at + 1) line ++ (feed ∷ []) in
          let a : take place o ≡ take place line = subst (λ (j : ℕ). take j o ≡ take j line) m (built_take line (at + 1) l (feed ∷ []) 0 refl) in
          let g : get_or o at 0 ≡ 45 = built_at line (at + 1) l (feed ∷ []) at (omega arith) ∙ f in
          let s : get_or o (at + 1) 0 ≡ feed = first_at o (at + 1) _ (built_drop line (at + 1) l (feed ∷ [])) in
          could share o a (ap is_ok (sym (share_dash o at feed g)) ∙ rw (eq-eqb (get_or o (at + 1) 0) feed s))

  power-could : positive (point_at false 3 line at first) ≡ Err place → Could sep power line at place
  unfolding field_at
  power-could e =
      let g = point_could false 3 (lit< tt) (lit< tt) line at first place in-line (positive_bad place (point_at false 3 line at first) e) in
      could power g.other g.agrees g.good

  signed-point-could : (k : ℕ) → k < 10 → 0 < k → (c : Column) → ((o : List ℕ) → signed_point_at k o at feed ≡ field_at c o at feed) → signed_point_at k line at first ≡ Err place → Could sep c line at place
  signed-point-could k few some c is e = go (eqb (get_or line at 0) 45) refl
    where
      go : (t : Bool) → eqb (get_or line at 0) 45 ≡ t → Could sep c line at place
      go false d =
          let g = point_could false k few some line at first place in-line (positive_bad place (point_at false k line at first) (signed_point_plus k line at first d ∙ e)) in
          let o = g.other in
          could c o g.agrees (ap is_ok (sym (is o) ∙ sym (signed_point_plus k o at feed (value_first false k few o at feed (lit< tt) g.good))) ∙ g.good)
      go true d =
          let l : at + 1 ≤ length line = omega (arith, dash_within line at d) in
          let q = negated_bad place (point_at true k line (at + 1) first) (signed_point_minus k line at first d ∙ e) in
          let low : at + 1 ≤ place = point_low true k line (at + 1) first place q in
          let g = point_could true k few some line (at + 1) first place l q in
          let o = g.other in
          let b : eqb (get_or g.other at 0) 45 ≡ true = ap (λ (b : ℕ). eqb b 45) (agree_at line g.other place g.agrees at (omega arith)) ∙ d in
          could c o g.agrees (ap is_ok (sym (is o) ∙ sym (signed_point_minus k o at feed b)) ∙ negated_whole (point_at true k o (at + 1) feed) ∙ g.good)

  pub field_could : (c : Column) → field_at c line at first ≡ Err place → Could sep c line at place
  unfolding field_at
  field_could number e = positive-could (place_number line at first place e) number (λ o d. refl)
  field_could signed e = signed-could e
  field_could share e = share-could e
  field_could power e = power-could e
  field_could flow e = signed-point-could 3 (lit< tt) (lit< tt) flow (λ o. refl) e
  field_could factor e = signed-point-could 5 (lit< tt) (lit< tt) factor (λ o. refl) e
