-- A number with its point, read and written: what is read is written as itself, and what is written reads as itself. No contract cites this file.
-- In order: the decimals; the whole number; a signed one; it holds no LF; it is not empty.
use mathlib.Core.Path.{◌≡◌, refl, sym, ap, ap₂, subst, ◌∙◌}
use mathlib.Core.Bool.{Bool, true, false, cond, ◌&&◌, false≢true}
use mathlib.Core.List.{List, [], ◌∷◌, ◌++◌, append_assoc}
use Prim.Native.Nat.{ℕ, zero, suc, ◌+◌, ◌*◌, ◌-◌, ◌/◌, ◌%◌, ◌^◌, ◌≤◌, ◌<◌}
use native.Mathlib.Nat.{add_assoc, lt_of_lt_of_le, pow-le-pow_right, div-lt_iff_lt-mul, div-le_self}
use native.Mathlib.Numerals.{add-one}
use native.Mathlib.Omega.{arith}
use lib.Dec.{leb, eqb, lit<}
use lib.Pow.{pow-add}
use lib.IntN.{ℤ, pos, negsuc, nat_abs}
use lib.ListN.{length, get_or, drop}
use lib.Seq.{drop-cons, drop-drop, drop-append-add}
use borrow.Author.Tests.{leb-true, eqb-true, eqb-false, eq-eqb, ne_eqb}
use Rattle.text.specs.Fields.{Parsed, is_digit, number_at, positive}
use Rattle.text.specs.Written.{decimal}
use Rattle.text.specs.Point.{point, decimals_at, whole_most, after_whole, point_at, negated, signed_point_at, last_digits, pointed, pointed_ℤ}
use Rattle.text.proofs.NumberTrip.{zero_one, digit_range, number_read, number_written, number_rest, value_is, no_value, first_digit, first_at, decimal_digits, decimal_some, is_digit_lem}
use Rattle.text.proofs.FieldLaws.{some_within}
use Rattle.text.proofs.LineLaws.{HasNoFeed}
use Rattle.text.proofs.WrittenLaws.{decimal_no_feed, decimal_long}
use Rattle.text.proofs.PointLaws.{decimals_lt, whole_small, point_goes, signed_point_plus, signed_point_minus, shift_none, shift_one, pointed_long}
use Rattle.std.specs.Prelude.{Ok, Err}

-- ---- the decimals
-- k decimals that were read after digits worth w
pub record DecimalsRead (minus : Bool) (k : ℕ) (line : List ℕ) (at w stop v next : ℕ) : Type 0 where
  pub here : drop at line ≡ last_digits k v ++ (stop ∷ drop next line)
  pub front : v / 10 ^ k ≡ w
  pub above : minus ≡ true → 0 < v
  pub within : next ≤ length line
  pub after : next ≡ at + k + 1

module _ (minus : Bool) (line : List ℕ) (stop : ℕ) (some : 0 < stop) where
  pub decimals_read : (k at w v next : ℕ) → decimals_at minus k line at w stop ≡ Ok (v, next) → DecimalsRead minus k line at w stop v next
  unfolding decimals_at last_digits
  decimals_read zero at w v next e = go (minus && eqb w 0) refl (eqb (get_or line at 0) stop) refl e
    where
      go : (t : Bool) → (minus && eqb w 0) ≡ t → (u : Bool) → eqb (get_or line at 0) stop ≡ u → ◌≡◌ {A = Parsed ℕ} (cond t (Err (at - 1)) (cond u (Ok (w, at + 1)) (Err at))) (Ok (v, next)) → DecimalsRead minus zero line at w stop v next
      go true q u r e = absurd (no_value (at - 1) v next e)
      go false q false r e = absurd (no_value at v next e)
      go false q true r e =
          let x = value_is w v (at + 1) next e in
          let b : get_or line at 0 ≡ stop = eqb-true _ _ r in
          let l : at < length line = some_within line at (omega arith) in
          let n : suc at ≡ next = omega (arith, x.1) in
          record {
            here = drop-cons line at 0 l ∙ ap₂ (λ (y : ℕ) (s : List ℕ). y ∷ s) b (ap (λ (j : ℕ). drop j line) n);
            front = sym (shift_none v) ∙ sym x.0;
            above = λ m. not_zero m;
            within = omega arith;
            after = omega arith;
          }
        where
          not_zero : minus ≡ true → 0 < v
          not_zero m =
              let z : eqb w 0 ≡ false = rw m at q in
              let n : w ≡ 0 → ⊥ = eqb-false w 0 z in
              let y : w ≡ v = (value_is w v (at + 1) next e).0 in
              positive_of v (λ p. n (y ∙ p))
            where
              positive_of : (x : ℕ) → (x ≡ 0 → ⊥) → 0 < x
              positive_of zero n = absurd (n refl)
              positive_of (suc x) n = omega arith
  decimals_read (suc k) at w v next e = go (decimals_read k (at + 1) (w * 10 + (get_or line at 0 - 48)) v next) (is_digit (get_or line at 0)) refl e
    where
      go : (decimals_at minus k line (at + 1) (w * 10 + (get_or line at 0 - 48)) stop ≡ Ok (v, next) → DecimalsRead minus k line (at + 1) (w * 10 + (get_or line at 0 - 48)) stop v next)
          → (t : Bool) → is_digit (get_or line at 0) ≡ t → cond t (decimals_at minus k line (at + 1) (w * 10 + (get_or line at 0 - 48)) stop) (Err at) ≡ Ok (v, next) → DecimalsRead minus (suc k) line at w stop v next
      go ih false q e = absurd (no_value at v next e)
      go ih true q e =
          let r = ih e in
          let b = get_or line at 0 in
          let g = digit_range b q in
          let f : v / 10 ^ k ≡ w * 10 + (b - 48) = r.front in
          let d : 48 + v / 10 ^ k % 10 ≡ b = ap (λ (x : ℕ). 48 + x % 10) f ∙ omega arith in
          let l : at < length line = some_within line at (omega arith) in
          record {
            here = drop-cons line at 0 l ∙ ap₂ (λ (x : ℕ) (s : List ℕ). x ∷ s) (sym d) (ap (λ (j : ℕ). drop j line) (sym (add-one at)) ∙ r.here);
            front = sym (shift_one v k) ∙ ap (λ (x : ℕ). x / 10) f ∙ omega arith;
            above = r.above;
            within = r.within;
            after = omega (arith, r.after);
          }

-- what is written reads as itself
module _ (minus : Bool) (line : List ℕ) (stop n : ℕ) (above : minus ≡ true → 0 < n) (r : List ℕ) where
  sure : (minus && eqb n 0) ≡ false
  sure = go minus above
    where
      go : (t : Bool) → (t ≡ true → 0 < n) → (t && eqb n 0) ≡ false
      go true h = ne_eqb n 0 (λ e. omega (arith, h refl))
      go false h = refl

  pub decimals_written : (k at : ℕ) → drop at line ≡ last_digits k n ++ (stop ∷ r) → decimals_at minus k line at (n / 10 ^ k) stop ≡ Ok (n, at + k + 1)
  unfolding decimals_at last_digits
  decimals_written zero at here =
      let w = sym (shift_none n) in
      let b : get_or line at 0 ≡ stop = first_at line at _ here in
      let m : at + 1 ≡ at + 0 + 1 = omega arith in
      rw (w, sure, eq-eqb (get_or line at 0) stop b) (ap (λ (next : ℕ). Ok (n, next)) m)
  decimals_written (suc k) at here =
      let d = n / 10 ^ k % 10 in
      let small : n / 10 ^ k % 10 < 10 = omega arith in
      let b : get_or line at 0 ≡ 48 + d = first_at line at _ here in
      let digit : is_digit (get_or line at 0) ≡ true = ap is_digit b ∙ is_digit_lem d small in
      let rest : drop (at + 1) line ≡ last_digits k n ++ (stop ∷ r) = sym (drop-drop 1 at line) ∙ ap (drop 1) here in
      let w : n / 10 ^ suc k * 10 + (get_or line at 0 - 48) ≡ n / 10 ^ k = ap₂ (λ (x y : ℕ). x * 10 + (y - 48)) (sym (shift_one n k)) b ∙ omega arith in
      let m : at + 1 + k + 1 ≡ at + suc k + 1 = omega arith in
      rw (digit, w) (decimals_written k (at + 1) rest ∙ ap (λ (next : ℕ). Ok (n, next)) m)

-- ---- the whole number
pub record PointRead (minus : Bool) (k : ℕ) (line : List ℕ) (at stop v next : ℕ) : Type 0 where
  pub here : drop at line ≡ pointed k v ++ (stop ∷ drop next line)
  pub small : v < 10 ^ 10
  pub above : minus ≡ true → 0 < v
  pub within : next ≤ length line

module _ (minus : Bool) (k : ℕ) (few : k < 10) (line : List ℕ) (at stop : ℕ) (some : 0 < stop) (v next : ℕ) where
  pub point_read : point_at minus k line at stop ≡ Ok (v, next) → PointRead minus k line at stop v next
  unfolding point_at pointed
  point_read e = go (number_at line at point) refl e
    where
      by : (w m : ℕ) → number_at line at point ≡ Ok (w, m) → (t : Bool) → leb (m - at) (whole_most k + 1) ≡ t → cond t (decimals_at minus k line m w stop) (Err (at + whole_most k)) ≡ Ok (v, next) → PointRead minus k line at stop v next
      by w m q false h e = absurd (no_value (at + whole_most k) v next e)
      by w m q true h e =
          let fits = whole_small minus k line at stop w m q (leb-true _ _ h) in
          let a = number_read line at point w m (sym q) in
          let d = decimals_read minus line stop some k m w v next e in
          let lt = decimals_lt minus line stop k m w (omega arith) fits in
          record {
            here = a.here ∙ ap₂ (λ (x : ℕ) (s : List ℕ). decimal x ++ (point ∷ s)) (sym d.front) d.here ∙ sym (append_assoc (decimal (v / 10 ^ k)) (point ∷ last_digits k v) (stop ∷ drop next line));
            small = rw e at lt;
            above = d.above;
            within = d.within;
          }

      go : (n : Parsed ℕ) → number_at line at point ≡ n → after_whole minus k line at stop n ≡ Ok (v, next) → PointRead minus k line at stop v next
      go (Err place) q e = absurd (no_value _ v next e)
      go (Ok (w, m)) q e = by w m q (leb (m - at) (whole_most k + 1)) refl e

-- a number has no more digits before the point than there may be
whole_few : (k n : ℕ) → k < 10 → n < 10 ^ 10 → length (decimal (n / 10 ^ k)) ≤ whole_most k
whole_few k n few small =
    let ten : 10 ^ 10 ≡ 10 ^ whole_most k * 10 ^ k = ap (λ (j : ℕ). 10 ^ j) split ∙ pow-add 10 (whole_most k) k in
    let s : n / 10 ^ k < 10 ^ whole_most k = (div-lt_iff_lt-mul {k = 10 ^ k} {x = n} {y = 10 ^ whole_most k} (lt_of_lt_of_le (lit< tt) (pow-le-pow_right {n = 10} (lit< tt) {i = 0} {j = k} (omega arith)))).1 (subst (λ (x : ℕ). n < x) ten small) in
    let f : suc (whole_most k - 1) ≡ whole_most k = omega arith in
    subst (λ (j : ℕ). length (decimal (n / 10 ^ k)) ≤ j) f (decimal_long (whole_most k - 1) (n / 10 ^ k) (subst (λ (j : ℕ). n / 10 ^ k < 10 ^ j) (sym f) s))
  where
    split : 10 ≡ whole_most k + k
    split = omega arith

module _ (minus : Bool) (k : ℕ) (few : k < 10) (line : List ℕ) (at stop n : ℕ) (r : List ℕ) (here : drop at line ≡ pointed k n ++ (stop ∷ r)) where
  apart : drop at line ≡ decimal (n / 10 ^ k) ++ (point ∷ (last_digits k n ++ (stop ∷ r)))
  unfolding pointed
  apart = here ∙ append_assoc (decimal (n / 10 ^ k)) (point ∷ last_digits k n) (stop ∷ r)

  pub point_written : n < 10 ^ 10 → (minus ≡ true → 0 < n) → point_at minus k line at stop ≡ Ok (n, at + length (pointed k n) + 1)
  point_written small above =
      let w = n / 10 ^ k in
      let le : w ≤ n = div-le_self n (10 ^ k) in
      let m = at + length (decimal w) + 1 in
      let q : number_at line at point ≡ Ok (w, m) = number_written line at point w (last_digits k n ++ (stop ∷ r)) apart (omega arith) refl in
      let rest : drop m line ≡ last_digits k n ++ (stop ∷ r) = number_rest line at point w (last_digits k n ++ (stop ∷ r)) apart in
      let long : m - at ≤ whole_most k + 1 = omega (arith, whole_few k n few small) in
      let end : m + k + 1 ≡ at + length (pointed k n) + 1 = omega (arith, pointed_long k n) in
      sym (point_goes minus k line at stop w m q long) ∙ decimals_written minus line stop n above r k m rest ∙ ap (λ (next : ℕ). Ok (n, next)) end

  pub point_rest : drop (at + length (pointed k n) + 1) line ≡ r
  point_rest = rw (add_assoc at (length (pointed k n)) 1, ← drop-drop (length (pointed k n) + 1) at line, here) (drop-append-add (pointed k n) (stop ∷ r) 1)

-- ---- a signed one
pub record PointReadZ (k : ℕ) (line : List ℕ) (at stop : ℕ) (z : ℤ) (next : ℕ) : Type 0 where
  pub here : drop at line ≡ pointed_ℤ k z ++ (stop ∷ drop next line)
  pub small : nat_abs z < 10 ^ 10
  pub within : next ≤ length line

module _ (k : ℕ) (few : k < 10) (line : List ℕ) (at stop : ℕ) (some : 0 < stop) (z : ℤ) (next : ℕ) where
  pub plus_read : (n : Parsed ℕ) → point_at false k line at stop ≡ n → positive n ≡ Ok (z, next) → PointReadZ k line at stop z next
  unfolding pointed_ℤ
  plus_read (Err place) q e = absurd (no_value place z next e)
  plus_read (Ok (v, m)) q e =
      let w = value_is (pos v) z m next e in
      let r = point_read false k few line at stop some v m q in
      subst (λ (y : ℤ). PointReadZ k line at stop y next) w.0
      (record { here = r.here ∙ ap (λ (y : ℕ). pointed k v ++ (stop ∷ drop y line)) w.1; small = r.small; within = omega (arith, r.within, w.1) })

  minus-read : get_or line at 0 ≡ 45 → (n : Parsed ℕ) → point_at true k line (at + 1) stop ≡ n → negated n ≡ Ok (z, next) → PointReadZ k line at stop z next
  unfolding pointed_ℤ
  minus-read h (Err place) q e = absurd (no_value place z next e)
  minus-read h (Ok (zero, m)) q e = absurd (zero_one (omega (arith, (point_read true k few line (at + 1) stop some zero m q).above refl)))
  minus-read h (Ok (suc v, m)) q e =
      let w = value_is (negsuc v) z m next e in
      let r = point_read true k few line (at + 1) stop some (suc v) m q in
      let l : at < length line = some_within line at (omega arith) in
      subst (λ (y : ℤ). PointReadZ k line at stop y next) w.0
      (record {
        here = drop-cons line at 0 l ∙ ap₂ (λ (x : ℕ) (y : List ℕ). x ∷ y) h (ap (λ (j : ℕ). drop j line) (sym (add-one at)) ∙ r.here ∙ ap (λ (y : ℕ). pointed k (suc v) ++ (stop ∷ drop y line)) w.1);
        small = r.small;
        within = omega (arith, r.within, w.1);
      })

  pub signed_point_read : signed_point_at k line at stop ≡ Ok (z, next) → PointReadZ k line at stop z next
  signed_point_read e = go (eqb (get_or line at 0) 45) refl
    where
      go : (t : Bool) → eqb (get_or line at 0) 45 ≡ t → PointReadZ k line at stop z next
      go true h = minus-read (eqb-true _ _ h) (point_at true k line (at + 1) stop) refl (signed_point_minus k line at stop h ∙ e)
      go false h = plus_read (point_at false k line at stop) refl (signed_point_plus k line at stop h ∙ e)

-- the first byte of what is written is a digit
pub pointed_first : (k n : ℕ) (r : List ℕ) → eqb (get_or (pointed k n ++ r) 0 0) 45 ≡ false
unfolding pointed
pointed_first k n r =
    ap (λ (l : List ℕ). eqb (get_or l 0 0) 45) (append_assoc (decimal (n / 10 ^ k)) (point ∷ last_digits k n) r)
    ∙ first_digit (decimal (n / 10 ^ k)) (point ∷ (last_digits k n ++ r)) (decimal_digits (n / 10 ^ k)) (decimal_some (n / 10 ^ k))

pub signed_point_written : (k : ℕ) → k < 10 → (line : List ℕ) (at stop : ℕ) (z : ℤ) (r : List ℕ) → drop at line ≡ pointed_ℤ k z ++ (stop ∷ r) → nat_abs z < 10 ^ 10
    → signed_point_at k line at stop ≡ Ok (z, at + length (pointed_ℤ k z) + 1)
unfolding pointed_ℤ
signed_point_written k few line at stop (pos n) r here h =
    let g : eqb (get_or line at 0) 45 ≡ false = ap (λ (b : ℕ). eqb b 45) (first_at line at _ here) ∙ pointed_first k n (stop ∷ r) in
    sym (signed_point_plus k line at stop g) ∙ ap positive (point_written false k few line at stop n r here h (λ e. absurd (false≢true e)))
signed_point_written k few line at stop (negsuc n) r here h =
    let f : get_or line at 0 ≡ 45 = first_at line at _ here in
    let t : drop (at + 1) line ≡ pointed k (suc n) ++ (stop ∷ r) = sym (drop-drop 1 at line) ∙ ap (drop 1) here in
    let m : at + 1 + length (pointed k (suc n)) + 1 ≡ at + suc (length (pointed k (suc n))) + 1 = omega arith in
    sym (signed_point_minus k line at stop (eq-eqb _ _ f)) ∙ ap negated (point_written true k few line (at + 1) stop (suc n) r t h (λ e. omega arith)) ∙ ap (λ (next : ℕ). Ok (negsuc n, next)) m

pub signed_point_rest : (k : ℕ) (line : List ℕ) (at stop : ℕ) (z : ℤ) (r : List ℕ) → drop at line ≡ pointed_ℤ k z ++ (stop ∷ r) → drop (at + length (pointed_ℤ k z) + 1) line ≡ r
signed_point_rest k line at stop z r here = rw (add_assoc at (length (pointed_ℤ k z)) 1, ← drop-drop (length (pointed_ℤ k z) + 1) at line, here) (drop-append-add (pointed_ℤ k z) (stop ∷ r) 1)

-- ---- no LF
last_no_feed : (k n : ℕ) → HasNoFeed (last_digits k n)
unfolding last_digits
last_no_feed zero n = tt
last_no_feed (suc k) n = (ne_eqb (48 + n / 10 ^ k % 10) 10 (λ e. omega arith), last_no_feed k n)

no_feed_append : (x y : List ℕ) → HasNoFeed x → HasNoFeed y → HasNoFeed (x ++ y)
no_feed_append [] y a b = b
no_feed_append (c ∷ x) y a b = (a.0, no_feed_append x y a.1 b)

pointed_no_feed : (k n : ℕ) → HasNoFeed (pointed k n)
unfolding pointed
pointed_no_feed k n = no_feed_append (decimal (n / 10 ^ k)) (point ∷ last_digits k n) (decimal_no_feed (n / 10 ^ k)) (refl, last_no_feed k n)

pub pointed_ℤ_no_feed : (k : ℕ) (z : ℤ) → HasNoFeed (pointed_ℤ k z)
unfolding pointed_ℤ
pointed_ℤ_no_feed k (pos n) = pointed_no_feed k n
pointed_ℤ_no_feed k (negsuc n) = (refl, pointed_no_feed k (suc n))
