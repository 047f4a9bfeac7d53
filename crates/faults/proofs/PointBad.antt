-- Which bytes make a number with a point bad (02, E11): its bytes up to the bad place make it bad whatever follows (`point-no`), and the bytes before that place can be
-- continued to a good one that an LF ends (`point-could`). No contract cites this file.
-- In order: answers; the digits before the point; decimals, and a number with a point, that are bad whatever follows; decimals continued; a number continued.
use mathlib.Core.Path.{◌≡◌, refl, sym, ap, subst, ◌∙◌}
use mathlib.Core.Bool.{Bool, true, false, cond, ◌&&◌, and-false, false≢true}
use mathlib.Core.Logic.{◌⊎◌, inl, inr, ⊎_elim}
use mathlib.Core.List.{List, [], ◌∷◌, ◌++◌, append_assoc}
use Prim.Native.Nat.{ℕ, zero, suc, ◌+◌, ◌*◌, ◌-◌, ◌^◌, ◌≤◌, ◌<◌, min}
use native.Mathlib.Nat.{lt_of_lt_of_le, pow-le-pow_right}
use native.Mathlib.Numerals.{add-one}
use native.Mathlib.Omega.{arith}
use lib.Dec.{leb, eqb, lit<}
use lib.IntN.{pos, neg_ℤ}
use lib.ListN.{length, get_or, take, drop, length-append, length-take, take-append-drop}
use lib.Seq.{drop-cons, drop-drop, take-append-le, take_at}
use borrow.Author.Tests.{leb-true, leb-false, lt-leb, ne_eqb}
use Rattle.numbers.proofs.BelowLaws.{le_or_lt}
use Rattle.text.specs.Fields.{Parsed, feed, is_digit, digits, value, plain, number_at, positive}
use Rattle.text.specs.Written.{decimal}
use Rattle.text.specs.Point.{point, decimals_at, whole_most, after_whole, point_at, negated}
use Rattle.text.proofs.NumberTrip.{zero_one, digit_range, number_read, number_written, number_rest, value_is, no_value, first_at, decimal_value, plain_parts, value_small}
use Rattle.text.proofs.FieldLaws.{some_within}
use Rattle.text.proofs.PointLaws.{bad_after, decimals_digit, decimals_none, decimals_stop, point_goes, whole_after}
use Rattle.text.proofs.PointTrip.{point_read, pointed_first}
use Rattle.faults.proofs.NumberBad.{num, off, Ends, lead, long, few, ends, digits_take, whole_number, place_number, number_no, Grown, grown, grown_some}
use Rattle.faults.proofs.AgreeLaws.{agree_at, agree_less, agree_drop, built_drop, built_take}
use Rattle.std.specs.Prelude.{Ok, Err, is_ok}

-- ---- answers
pub positive_bad : (place : ℕ) (n : Parsed ℕ) → positive n ≡ Err place → n ≡ Err place
positive_bad place (Ok (v, next)) e = absurd (no_value place (pos v) next (sym e))
positive_bad place (Err p) e = let q : p ≡ place = cc in ap Err q

pub negated_bad : (place : ℕ) (n : Parsed ℕ) → negated n ≡ Err place → n ≡ Err place
negated_bad place (Ok (v, next)) e = absurd (no_value place (neg_ℤ (pos v)) next (sym e))
negated_bad place (Err p) e = let q : p ≡ place = cc in ap Err q

pub negated_whole : (n : Parsed ℕ) → is_ok (negated n) ≡ is_ok (positive n)
negated_whole (Ok (v, next)) = refl
negated_whole (Err p) = refl

bad_is : (p q : ℕ) → ◌≡◌ {A = Parsed ℕ} (Err p) (Err q) → p ≡ q
bad_is p q e = cc

-- ---- the digits before the point
number_digits : (line : List ℕ) (at stop v next : ℕ) → number_at line at stop ≡ Ok (v, next) → next ≡ at + length (digits (drop at line)) + 1
unfolding number_at
number_digits line at stop v next e = let d = digits (drop at line) in go (num (drop at line) stop) (value 0 d) (at + length d + 1) _ e
  where
    go : (t : Bool) (w m p : ℕ) → ◌≡◌ {A = Parsed ℕ} (cond t (Ok (w, m)) (Err p)) (Ok (v, next)) → next ≡ m
    go true w m p e = sym (value_is w v m next e).1
    go false w m p e = absurd (zero_one cc)

off_le : (s : List ℕ) → off s ≤ length (digits s)
off_le s = go (off s) (ends s)
  where
    go : (k : ℕ) → Ends (digits s) k → k ≤ length (digits s)
    go k (lead l z q) = omega arith
    go k (long l z q) = omega arith
    go k (few l z q) = omega arith

-- a number that is no number before the point, and one with too many digits
module _ (minus : Bool) (k : ℕ) (line : List ℕ) (at stop : ℕ) where
  by-none : is_ok (positive (number_at line at point)) ≡ false → is_ok (positive (point_at minus k line at stop)) ≡ false
  unfolding point_at
  by-none e = go (number_at line at point) e
    where
      go : (n : Parsed ℕ) → is_ok (positive n) ≡ false → is_ok (positive (after_whole minus k line at stop n)) ≡ false
      go (Ok (v, next)) e = absurd (false≢true (sym e))
      go (Err p) e = refl

  by-many : whole_most k < length (digits (drop at line)) → is_ok (positive (point_at minus k line at stop)) ≡ false
  unfolding point_at
  by-many h = go (number_at line at point) refl
    where
      go : (n : Parsed ℕ) → number_at line at point ≡ n → is_ok (positive (after_whole minus k line at stop n)) ≡ false
      go (Err p) q = refl
      go (Ok (v, next)) q =
          let long : whole_most k + 1 < next - at = omega (arith, number_digits line at point v next q) in
          rw (lt-leb (next - at) (whole_most k + 1) long)

-- lines with the same first bytes have as many digits there
many_same : (line other : List ℕ) (at m : ℕ) → at ≤ length line → take (at + m) other ≡ take (at + m) line → m ≤ length (digits (drop at line)) → m ≤ length (digits (drop at other))
many_same line other at m l a h =
    let s = drop at line in
    let o = drop at other in
    let front : take m (digits o) ≡ take m (digits s) = sym (digits_take m o) ∙ ap digits (agree_drop line other at m l a) ∙ digits_take m s in
    omega (arith, sym (length-take m (digits o)) ∙ ap length front ∙ length-take m (digits s))

-- the number before the point is the same where its bytes are
number_same : (line other : List ℕ) (at v next : ℕ) → at ≤ length line → take next other ≡ take next line → number_at line at point ≡ Ok (v, next) → number_at other at point ≡ Ok (v, next)
number_same line other at v next l a q =
    let r = number_read line at point v next (sym q) in
    let d = decimal v in
    let m = length (decimal v) + 1 in
    let n : next ≡ at + m = omega (arith, r.after) in
    let same : take m (drop at other) ≡ take m (drop at line) = agree_drop line other at m l (subst (λ (j : ℕ). take j other ≡ take j line) n a) in
    let text : drop at line ≡ (d ++ (point ∷ [])) ++ drop next line = r.here ∙ sym (append_assoc d (point ∷ []) (drop next line)) in
    let front : take m (drop at line) ≡ d ++ (point ∷ []) = ap (take m) text ∙ take_at (d ++ (point ∷ [])) (drop next line) m (length-append d (point ∷ [])) in
    let here : drop at other ≡ d ++ (point ∷ drop m (drop at other)) = sym (take-append-drop m (drop at other)) ∙ ap (λ (s : List ℕ). s ++ drop m (drop at other)) (same ∙ front) ∙ append_assoc d (point ∷ []) (drop m (drop at other)) in
    number_written other at point v (drop m (drop at other)) here r.small refl ∙ ap (λ (next : ℕ). Ok (v, next)) (sym r.after)

-- ---- decimals
module _ (minus : Bool) (line : List ℕ) (stop : ℕ) where
  decimals-low : (k p v place : ℕ) → decimals_at minus k line p v stop ≡ Err place → p ≤ place + 1
  unfolding decimals_at
  decimals-low zero p v place e = go (minus && eqb v 0) (eqb (get_or line p 0) stop) e
    where
      go : (t u : Bool) → ◌≡◌ {A = Parsed ℕ} (cond t (Err (p - 1)) (cond u (Ok (v, p + 1)) (Err p))) (Err place) → p ≤ place + 1
      go true u e = omega (arith, bad_is (p - 1) place e)
      go false true e = absurd (no_value place v (p + 1) (sym e))
      go false false e = omega (arith, bad_is p place e)
  decimals-low (suc k) p v place e = go (decimals-low k (p + 1) (v * 10 + (get_or line p 0 - 48)) place) (is_digit (get_or line p 0)) e
    where
      go : (decimals_at minus k line (p + 1) (v * 10 + (get_or line p 0 - 48)) stop ≡ Err place → p + 1 ≤ place + 1)
          → (t : Bool) → ◌≡◌ {A = Parsed ℕ} (cond t (decimals_at minus k line (p + 1) (v * 10 + (get_or line p 0 - 48)) stop) (Err p)) (Err place) → p ≤ place + 1
      go ih true e = omega (arith, ih e)
      go ih false e = omega (arith, bad_is p place e)

  -- one decimal or more: the bad place is not before them
  decimals-from : (k p v place : ℕ) → 0 < k → decimals_at minus k line p v stop ≡ Err place → p ≤ place
  decimals-from zero p v place some e = absurd (zero_one (omega arith))
  decimals-from (suc k) p v place some e = go (is_digit (get_or line p 0)) refl
    where
      go : (t : Bool) → is_digit (get_or line p 0) ≡ t → p ≤ place
      go true d = omega (arith, decimals-low k (p + 1) _ place (sym (decimals_digit minus line stop p v k d) ∙ e))
      go false d = omega (arith, bad_is p place (sym (decimals_none minus line stop p v k d) ∙ e))

module _ (minus : Bool) (line other : List ℕ) (first stop place : ℕ) (same : (i : ℕ) → i ≤ place → get_or other i 0 ≡ get_or line i 0) where
  decimals-no : (k p v : ℕ) → decimals_at minus k line p v first ≡ Err place → is_ok (positive (decimals_at minus k line p v stop)) ≡ false → is_ok (positive (decimals_at minus k other p v stop)) ≡ false
  unfolding decimals_at
  decimals-no zero p v e n = go (minus && eqb v 0) (eqb (get_or line p 0) first) e n
    where
      go : (t u : Bool) → ◌≡◌ {A = Parsed ℕ} (cond t (Err (p - 1)) (cond u (Ok (v, p + 1)) (Err p))) (Err place)
          → is_ok (positive (cond t (Err (p - 1)) (cond (eqb (get_or line p 0) stop) (Ok (v, p + 1)) (Err p)))) ≡ false
          → is_ok (positive (cond t (Err (p - 1)) (cond (eqb (get_or other p 0) stop) (Ok (v, p + 1)) (Err p)))) ≡ false
      go true u e n = refl
      go false true e n = absurd (no_value place v (p + 1) (sym e))
      go false false e n =
          let b : get_or other p 0 ≡ get_or line p 0 = same p (omega (arith, bad_is p place e)) in
          ap (λ (x : ℕ). is_ok (positive (cond (eqb x stop) (Ok (v, p + 1)) (Err p)))) b ∙ n
  decimals-no (suc k) p v e n = go (decimals-no k (p + 1) (v * 10 + (get_or line p 0 - 48))) (is_digit (get_or line p 0)) refl
    where
      go : (decimals_at minus k line (p + 1) (v * 10 + (get_or line p 0 - 48)) first ≡ Err place → is_ok (positive (decimals_at minus k line (p + 1) (v * 10 + (get_or line p 0 - 48)) stop)) ≡ false
          → is_ok (positive (decimals_at minus k other (p + 1) (v * 10 + (get_or line p 0 - 48)) stop)) ≡ false)
          → (t : Bool) → is_digit (get_or line p 0) ≡ t → is_ok (positive (decimals_at minus (suc k) other p v stop)) ≡ false
      go ih t d = by t d (same p (decimals-from minus line first (suc k) p v place (omega arith) e))
        where
          by : (t : Bool) → is_digit (get_or line p 0) ≡ t → get_or other p 0 ≡ get_or line p 0 → is_ok (positive (decimals_at minus (suc k) other p v stop)) ≡ false
          by false d b = ap (λ (x : Parsed ℕ). is_ok (positive x)) (decimals_none minus other stop p v k (ap is_digit b ∙ d))
          by true d b =
              ap (λ (x : Parsed ℕ). is_ok (positive x))
              (decimals_digit minus other stop p v k (ap is_digit b ∙ d) ∙ ap (λ (x : ℕ). decimals_at minus k other (p + 1) (v * 10 + (x - 48)) stop) b)
              ∙ ih (sym (decimals_digit minus line first p v k d) ∙ e) (ap (λ (x : Parsed ℕ). is_ok (positive x)) (sym (decimals_digit minus line stop p v k d)) ∙ n)

-- ---- a number with a point
-- why it is bad: no number before the point, too many digits, or its decimals
data Why (minus : Bool) (k : ℕ) (line : List ℕ) (at stop place : ℕ) : Type 0 where
  none : positive (number_at line at point) ≡ Err place → place ≤ at + whole_most k → Why minus k line at stop place
  many : whole_most k < length (digits (drop at line)) → (get_or (digits (drop at line)) 0 0 ≡ 48 → whole_most k ≤ 1) → place ≡ at + whole_most k → Why minus k line at stop place
  after : (v next : ℕ) → number_at line at point ≡ Ok (v, next) → next - at ≤ whole_most k + 1 → decimals_at minus k line next v stop ≡ Err place → Why minus k line at stop place

module _ (minus : Bool) (k : ℕ) (line : List ℕ) (at stop place : ℕ) where
  why : point_at minus k line at stop ≡ Err place → Why minus k line at stop place
  unfolding point_at
  why e = go (number_at line at point) refl e
    where
      led : (m : ℕ) → m < off (drop at line) → get_or (digits (drop at line)) 0 0 ≡ 48 → m ≤ 1
      led m h z = by (off (drop at line)) h (ends (drop at line))
        where
          by : (j : ℕ) → m < j → Ends (digits (drop at line)) j → m ≤ 1
          by j h (lead l x q) = omega arith
          by j h (long l x q) = absurd (x z)
          by j h (few l x q) = ⊎_elim (λ (y : length (digits (drop at line)) ≤ 1). omega arith) (λ (y : get_or (digits (drop at line)) 0 0 ≡ 48 → ⊥). absurd (y z)) x

      valued : (v next : ℕ) → number_at line at point ≡ Ok (v, next) → (t : Bool) → leb (next - at) (whole_most k + 1) ≡ t → ◌≡◌ {A = Parsed ℕ} (cond t (decimals_at minus k line next v stop) (Err (at + whole_most k))) (Err place) → Why minus k line at stop place
      valued v next q true h e = after v next q (leb-true _ _ h) e
      valued v next q false h e =
          let d = digits (drop at line) in
          let n = number_digits line at point v next q in
          let l : whole_most k < length d = omega (arith, leb-false (next - at) (whole_most k + 1) h) in
          many l (λ z. plain-led z) (sym (bad_is (at + whole_most k) place e))
        where
          plain-led : get_or (digits (drop at line)) 0 0 ≡ 48 → whole_most k ≤ 1
          plain-led z =
              let n = number_digits line at point v next q in
              let w : num (drop at line) point ≡ true = sym (whole_number line at point) ∙ ap (λ (x : Parsed ℕ). is_ok (positive x)) q in
              let p = plain_parts (digits (drop at line)) (and_first (plain (digits (drop at line))) _ w) in
              ⊎_elim (λ (y : length (digits (drop at line)) ≤ 1). omega (arith, leb-false (next - at) (whole_most k + 1) h)) (λ (y : get_or (digits (drop at line)) 0 0 ≡ 48 → ⊥). absurd (y z)) p.2
            where
              and_first : (t u : Bool) → (t && u) ≡ true → t ≡ true
              and_first true u e = refl
              and_first false u e = e

      go : (n : Parsed ℕ) → number_at line at point ≡ n → after_whole minus k line at stop n ≡ Err place → Why minus k line at stop place
      go (Ok (v, next)) q e = valued v next q (leb (next - at) (whole_most k + 1)) refl e
      go (Err p) q e =
          let m : min p (at + whole_most k) ≡ place = bad_is _ place e in
          let o : p ≡ at + off (drop at line) = place_number line at point p (ap positive q) in
          ⊎_elim
          (λ (h : p ≤ at + whole_most k). let same : p ≡ place = omega arith in none (ap positive q ∙ ap Err same) (omega arith))
          (λ (h : at + whole_most k < p). many (omega (arith, off_le (drop at line))) (led (whole_most k) (omega arith)) (omega arith))
          (le_or_lt p (at + whole_most k))

  pub point_low : point_at minus k line at stop ≡ Err place → at ≤ place
  point_low e = go (why e)
    where
      go : Why minus k line at stop place → at ≤ place
      go (none q h) = bad_after line at point place (positive_bad place (number_at line at point) q)
      go (many l z q) = omega arith
      go (after v next q h d) = omega (arith, (whole_after minus k line at stop v next q).0, decimals-low minus line stop k next v place d)

module _ (minus : Bool) (k : ℕ) (small : k < 10) (some : 0 < k) (line other : List ℕ) (at first stop place : ℕ) (in-line : at ≤ length line) (within : place < length line) (a : take (place + 1) other ≡ take (place + 1) line) where
  pub point_no : point_at minus k line at first ≡ Err place → is_ok (positive (point_at minus k line at stop)) ≡ false → is_ok (positive (point_at minus k other at stop)) ≡ false
  point_no e n = go (why minus k line at first place e)
    where
      go : Why minus k line at first place → is_ok (positive (point_at minus k other at stop)) ≡ false
      go (none q h) =
          let p : place ≡ at + off (drop at line) = place_number line at point place q in
          let bad : num (drop at line) point ≡ false = sym (whole_number line at point) ∙ ap is_ok q in
          by-none minus k other at stop (whole_number other at point ∙ number_no line other point place within a at in-line p bad)
      go (many l z q) =
          let m : place + 1 ≡ at + (whole_most k + 1) = omega arith in
          let enough : whole_most k + 1 ≤ length (digits (drop at line)) = omega arith in
          by-many minus k other at stop (omega (arith, many_same line other at (whole_most k + 1) in-line (subst (λ (j : ℕ). take j other ≡ take j line) m a) enough))
      go (after v next q h d) =
          let low : next ≤ place = decimals-from minus line first k next v place some d in
          let r : number_at other at point ≡ Ok (v, next) = number_same line other at v next in-line (agree_less line other (place + 1) a next (omega arith)) q in
          ap (λ (x : Parsed ℕ). is_ok (positive x)) (sym (point_goes minus k other at stop v next r h))
          ∙ decimals-no minus line other first stop place (λ i l. agree_at line other (place + 1) a i (omega arith)) k next v d
          (ap (λ (x : Parsed ℕ). is_ok (positive x)) (point_goes minus k line at stop v next q h) ∙ n)

-- ---- decimals continued to good ones
decimals_last : (minus : Bool) (line : List ℕ) (p v stop : ℕ) → decimals_at minus 0 line p v stop ≡ cond (minus && eqb v 0) (Err (p - 1)) (cond (eqb (get_or line p 0) stop) (Ok (v, p + 1)) (Err p))
unfolding decimals_at
decimals_last minus line p v stop = refl

abbrev ones : ℕ → List ℕ
ones zero = []
ones (suc k) = 49 ∷ ones k

decimals_ones : (minus : Bool) (o r : List ℕ) (k p v : ℕ) → (k ≡ 0 → (minus && eqb v 0) ≡ false) → drop p o ≡ ones k ++ (feed ∷ r) → is_ok (positive (decimals_at minus k o p v feed)) ≡ true
decimals_ones minus o r zero p v sure here =
    ap (λ (x : Parsed ℕ). is_ok (positive x)) (sym (decimals_stop minus o feed p v (sure refl) (first_at o p _ here)))
decimals_ones minus o r (suc k) p v sure here =
    let b : get_or o p 0 ≡ 49 = first_at o p _ here in
    let rest : drop (p + 1) o ≡ ones k ++ (feed ∷ r) = sym (drop-drop 1 p o) ∙ ap (drop 1) here in
    let w : v * 10 + (get_or o p 0 - 48) ≡ 0 → ⊥ = λ (e : v * 10 + (get_or o p 0 - 48) ≡ 0). omega arith in
    ap (λ (x : Parsed ℕ). is_ok (positive x)) (decimals_digit minus o feed p v k (ap is_digit b))
    ∙ decimals_ones minus o r k (p + 1) (v * 10 + (get_or o p 0 - 48)) (λ e. ap (λ (t : Bool). minus && t) (ne_eqb _ 0 w) ∙ and-false minus) rest

record DecimalsGrown (minus : Bool) (line : List ℕ) (k p v place : ℕ) : Type 0 where
  text : List ℕ
  front : take (place - p) text ≡ take (place - p) (drop p line)
  good : (o : List ℕ) → drop p o ≡ text → is_ok (positive (decimals_at minus k o p v feed)) ≡ true

module _ (minus : Bool) (line : List ℕ) (first place : ℕ) where
  -- bad at its first byte
  grown-here : (k p v : ℕ) → place ≡ p → DecimalsGrown minus line (suc k) p v place
  grown-here k p v e =
      let none : 0 ≡ place - p = omega arith in
      record {
        text = ones (suc k) ++ (feed ∷ []);
        front = subst (λ (j : ℕ). take j (ones (suc k) ++ (feed ∷ [])) ≡ take j (drop p line)) none refl;
        good = λ o h. decimals_ones minus o [] (suc k) p v (λ z. absurd (zero_one (omega arith))) h;
      }

  -- one decimal is good, and what follows it can be continued
  grown-later : (k p v : ℕ) → is_digit (get_or line p 0) ≡ true → p + 1 ≤ place → DecimalsGrown minus line k (p + 1) (v * 10 + (get_or line p 0 - 48)) place → DecimalsGrown minus line (suc k) p v place
  grown-later k p v d low g =
      let b = get_or line p 0 in
      let n : suc (place - (p + 1)) ≡ place - p = omega arith in
      let l : p < length line = some_within line p (omega (arith, digit_range (get_or line p 0) d)) in
      let cut : drop p line ≡ b ∷ drop (p + 1) line = drop-cons line p 0 l ∙ ap (λ (j : ℕ). b ∷ drop j line) (sym (add-one p)) in
      record {
        text = b ∷ g.text;
        front = subst (λ (j : ℕ). take j (b ∷ g.text) ≡ take j (drop p line)) n (ap (λ (s : List ℕ). b ∷ s) g.front ∙ sym (ap (take (suc (place - (p + 1)))) cut));
        good = λ o h.
            let x : get_or o p 0 ≡ b = first_at o p _ h in
            ap (λ (y : Parsed ℕ). is_ok (positive y)) (decimals_digit minus o feed p v k (ap is_digit x ∙ d) ∙ ap (λ (y : ℕ). decimals_at minus k o (p + 1) (v * 10 + (y - 48)) feed) x)
            ∙ g.good o (sym (drop-drop 1 p o) ∙ ap (drop 1) h);
      }

  decimals-grown : (k p v : ℕ) → decimals_at minus (suc k) line p v first ≡ Err place → DecimalsGrown minus line (suc k) p v place
  decimals-grown zero p v e = go (is_digit (get_or line p 0)) refl
    where
      w : ℕ
      w = v * 10 + (get_or line p 0 - 48)

      ended : is_digit (get_or line p 0) ≡ true → (t : Bool) → (minus && eqb w 0) ≡ t → (u : Bool) → ◌≡◌ {A = Parsed ℕ} (cond t (Err (p + 1 - 1)) (cond u (Ok (w, p + 1 + 1)) (Err (p + 1)))) (Err place) → DecimalsGrown minus line 1 p v place
      ended d true z u e = grown-here 0 p v (omega (arith, bad_is (p + 1 - 1) place e))
      ended d false z true e = absurd (no_value place w (p + 1 + 1) (sym e))
      ended d false z false e =
          let q : p + 1 ≡ place = bad_is (p + 1) place e in
          let none : 0 ≡ place - (p + 1) = omega arith in
          grown-later 0 p v d (omega arith)
          (record {
            text = feed ∷ [];
            front = subst (λ (j : ℕ). take j (feed ∷ []) ≡ take j (drop (p + 1) line)) none refl;
            good = λ o h. decimals_ones minus o [] 0 (p + 1) w (λ x. z) h;
          })

      go : (t : Bool) → is_digit (get_or line p 0) ≡ t → DecimalsGrown minus line 1 p v place
      go false d = grown-here 0 p v (sym (bad_is p place (sym (decimals_none minus line first p v 0 d) ∙ e)))
      go true d = ended d (minus && eqb w 0) refl (eqb (get_or line (p + 1) 0) first) (unfolded (sym (decimals_digit minus line first p v 0 d) ∙ e))
        where
          unfolded : decimals_at minus 0 line (p + 1) w first ≡ Err place → ◌≡◌ {A = Parsed ℕ} (cond (minus && eqb w 0) (Err (p + 1 - 1)) (cond (eqb (get_or line (p + 1) 0) first) (Ok (w, p + 1 + 1)) (Err (p + 1)))) (Err place)
          unfolded e = sym (decimals_last minus line (p + 1) w first) ∙ e
  decimals-grown (suc k) p v e = go (decimals-grown k (p + 1) (v * 10 + (get_or line p 0 - 48))) (is_digit (get_or line p 0)) refl
    where
      go : (decimals_at minus (suc k) line (p + 1) (v * 10 + (get_or line p 0 - 48)) first ≡ Err place → DecimalsGrown minus line (suc k) (p + 1) (v * 10 + (get_or line p 0 - 48)) place)
          → (t : Bool) → is_digit (get_or line p 0) ≡ t → DecimalsGrown minus line (suc (suc k)) p v place
      go ih false d = grown-here (suc k) p v (sym (bad_is p place (sym (decimals_none minus line first p v (suc k) d) ∙ e)))
      go ih true d =
          let q = sym (decimals_digit minus line first p v (suc k) d) ∙ e in
          grown-later (suc k) p v d (decimals-from minus line first (suc k) (p + 1) (v * 10 + (get_or line p 0 - 48)) place (omega arith) q) (ih q)

-- ---- a number with a point continued to a good one
pub record PointCould (minus : Bool) (k : ℕ) (line : List ℕ) (at place : ℕ) : Type 0 where
  pub other : List ℕ
  pub agrees : take place other ≡ take place line
  pub good : is_ok (positive (point_at minus k other at feed)) ≡ true

module _ (minus : Bool) (k : ℕ) (small : k < 10) (some : 0 < k) (line : List ℕ) (at first place : ℕ) (in-line : at ≤ length line) where
  -- a number continued within its digits before the point
  whole-could : (n : ℕ) → n ≤ whole_most k → place ≡ at + n → Grown (drop at line) n → PointCould minus k line at place
  whole-could n h e g =
      let rest = ones k ++ (feed ∷ []) in
      let t = g.text ++ (point ∷ rest) in
      let o = take at line ++ t in
      let v = value 0 g.text in
      let d : decimal v ≡ g.text = decimal_value g.text g.is_plain g.all in
      let ten : 0 + length g.text ≤ 10 = omega (arith, (plain_parts g.text g.is_plain).1) in
      let lt : value 0 g.text < 10 ^ 10 = lt_of_lt_of_le (value_small 0 0 g.text g.all (lit< tt)) (pow-le-pow_right {n = 10} (lit< tt) ten) in
      let here : drop at o ≡ decimal v ++ (point ∷ rest) = built_drop line at in-line t ∙ ap (λ (s : List ℕ). s ++ (point ∷ rest)) (sym d) in
      let q : number_at o at point ≡ Ok (v, at + length (decimal v) + 1) = number_written o at point v rest here lt refl in
      let fits : at + length (decimal v) + 1 - at ≤ whole_most k + 1 = omega (arith, ap length d, g.few (whole_most k) (omega arith) h) in
      record {
        other = o;
        agrees = subst (λ (j : ℕ). take j o ≡ take j line) (sym e) (built_take line at in-line t n (take-append-le n g.text (point ∷ rest) g.high ∙ g.front));
        good = ap (λ (x : Parsed ℕ). is_ok (positive x)) (sym (point_goes minus k o at feed v (at + length (decimal v) + 1) q fits))
            ∙ decimals_ones minus o [] k (at + length (decimal v) + 1) v (λ z. absurd (zero_one (omega arith))) (number_rest o at point v rest here);
      }

  pub point_could : point_at minus k line at first ≡ Err place → PointCould minus k line at place
  point_could e = go (why minus k line at first place e)
    where
      decimals : (j : ℕ) → suc j ≡ k → (v next : ℕ) → number_at line at point ≡ Ok (v, next) → next - at ≤ whole_most k + 1 → next ≤ length line → next ≤ place → decimals_at minus (suc j) line next v first ≡ Err place → PointCould minus k line at place
      decimals j is v next q h l low d =
          let g = decimals-grown minus line first place j next v d in
          let o = take next line ++ g.text in
          let n : next + (place - next) ≡ place = omega arith in
          let m : next + 0 ≡ next = omega arith in
          let r : number_at o at point ≡ Ok (v, next) = number_same line o at v next in-line (subst (λ (i : ℕ). take i o ≡ take i line) m (built_take line next l g.text 0 refl)) q in
          record {
            other = o;
            agrees = subst (λ (i : ℕ). take i o ≡ take i line) n (built_take line next l g.text (place - next) g.front);
            good = ap (λ (x : Parsed ℕ). is_ok (positive x)) (sym (point_goes minus k o at feed v next r h))
                ∙ subst (λ (i : ℕ). is_ok (positive (decimals_at minus i o next v feed)) ≡ true) is (g.good o (built_drop line next l g.text));
          }

      go : Why minus k line at first place → PointCould minus k line at place
      go (none q h) =
          let p : place ≡ at + off (drop at line) = place_number line at point place q in
          whole-could (off (drop at line)) (omega arith) p (grown (drop at line))
      go (many l z q) =
          let s = drop at line in
          let lead-ok : (whole_most k ≤ 1) ⊎ (get_or (digits s) 0 0 ≡ 48 → ⊥) = ⊎_elim (λ (x : whole_most k ≤ 1). inl x) (λ (x : 1 < whole_most k). inr (λ y. omega (arith, z y))) (le_or_lt (whole_most k) 1) in
          whole-could (whole_most k) (omega arith) q (grown_some s (whole_most k) (omega arith) (omega arith) (omega arith) lead-ok)
      go (after v next q h d) =
          let j : suc (k - 1) ≡ k = omega arith in
          decimals (k - 1) j v next q h (whole_after minus k line at first v next q).1 (decimals-from minus line first k next v place some d)
          (subst (λ (i : ℕ). decimals_at minus i line next v first ≡ Err place) (sym j) d)

-- the first byte of a good number is no minus
pub value_first : (minus : Bool) (k : ℕ) → k < 10 → (line : List ℕ) (at stop : ℕ) → 0 < stop → is_ok (positive (point_at minus k line at stop)) ≡ true → eqb (get_or line at 0) 45 ≡ false
value_first minus k small line at stop some e = go (point_at minus k line at stop) refl e
  where
    go : (n : Parsed ℕ) → point_at minus k line at stop ≡ n → is_ok (positive n) ≡ true → eqb (get_or line at 0) 45 ≡ false
    go (Err p) q e = absurd (false≢true e)
    go (Ok (v, next)) q e = ap (λ (b : ℕ). eqb b 45) (first_at line at _ (point_read minus k small line at stop some v next q).here) ∙ pointed_first k v (stop ∷ drop next line)
