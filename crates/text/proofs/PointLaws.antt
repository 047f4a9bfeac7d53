-- The laws of `specs/Point.antt` that its readers and writers cite. No contract cites this file.
-- In order: decimals one by one, `Decimals`; the number before the point; a whole number with its point; the digits that are written; lengths.
use mathlib.Core.Path.{◌≡◌, refl, sym, ap, subst, ◌∙◌}
use mathlib.Core.Bool.{Bool, true, false, cond, ◌&&◌, false≢true}
use mathlib.Core.List.{List, [], ◌∷◌, ◌++◌, append_assoc, append-nil}
use Prim.Native.Nat.{ℕ, zero, suc, ◌+◌, ◌*◌, ◌-◌, ◌/◌, ◌%◌, ◌^◌, ◌≤◌, ◌<◌, min}
use native.Mathlib.Nat.{lt_of_lt_of_le, pow-le-pow_right, pow-suc, pow-zero, div-one, div-div-eq-div-mul, not-suc-le-zero}
use native.Mathlib.Numerals.{add-one}
use native.Mathlib.Omega.{arith}
use lib.Dec.{leb, ltb, eqb, lit<}
use lib.IntN.{ℤ, pos, negsuc, nat_abs}
use lib.ListN.{length, get_or, drop, length-append}
use lib.Signed.{lt_z}
use borrow.Author.Tests.{leb-true, ltb-true, le-leb, lt-leb, eq-eqb, ne_eqb}
use Rattle.text.specs.Fields.{Parsed, dash, is_digit, digits, value, plain, digits_most, number_at, positive, with_number}
use Rattle.text.specs.Written.{decimal}
use Rattle.text.specs.Point.{point, decimals_at, whole_most, after_whole, point_at, negated, signed_point_at, last_digits, pointed, pointed_ℤ}
use Rattle.text.specs.Put.{Put}
use Rattle.text.proofs.NumberTrip.{zero_one, digit_range, more_digits, number_read, decimal_ten, decimal_digits, text_value, value_small}
use Rattle.text.proofs.FieldLaws.{some_within}
use Rattle.text.proofs.PutLaws.{put_none, put_more, put_room}
use Rattle.std.specs.Prelude.{Ok, Err}

-- ---- decimals, one by one
module _ (minus : Bool) (line : List ℕ) (stop : ℕ) where
  module _ (at v : ℕ) where
    pub decimals_zero : (minus && eqb v 0) ≡ true → Err (at - 1) ≡ decimals_at minus 0 line at v stop
    unfolding decimals_at
    decimals_zero e = rw e

    module _ (e : (minus && eqb v 0) ≡ false) where
      pub decimals_stop : get_or line at 0 ≡ stop → Ok (v, at + 1) ≡ decimals_at minus 0 line at v stop
      unfolding decimals_at
      decimals_stop q = rw (e, eq-eqb (get_or line at 0) stop q)

      pub decimals_other : (get_or line at 0 ≡ stop → ⊥) → Err at ≡ decimals_at minus 0 line at v stop
      unfolding decimals_at
      decimals_other q = rw (e, ne_eqb (get_or line at 0) stop q)

    pub decimals_digit : (k : ℕ) → is_digit (get_or line at 0) ≡ true → decimals_at minus (suc k) line at v stop ≡ decimals_at minus k line (at + 1) (v * 10 + (get_or line at 0 - 48)) stop
    unfolding decimals_at
    decimals_digit k e = rw e

    pub decimals_none : (k : ℕ) → is_digit (get_or line at 0) ≡ false → decimals_at minus (suc k) line at v stop ≡ Err at
    unfolding decimals_at
    decimals_none k e = rw e

  -- what a reader has after it has passed decimals up to place p: `left` more follow
  module _ (k at v : ℕ) where
    pub record Decimals (p worth left : ℕ) : Type 0 where
      pub rest : decimals_at minus left line p worth stop ≡ decimals_at minus k line at v stop
      pub some : 0 < p
      pub within : p ≤ length line
      pub few : left < 10
      pub small : worth < 10 ^ (10 - left)

    pub decimals_start : 0 < at → at ≤ length line → k < 10 → v < 10 ^ (10 - k) → Decimals at v k
    decimals_start s w f h = record { rest = refl; some = s; within = w; few = f; small = h }

    module _ (p worth left : ℕ) (u : Decimals p worth left) where
      pub decimals_all : left ≤ 0 → decimals_at minus 0 line p worth stop ≡ decimals_at minus k line at v stop
      decimals_all h = subst (λ (j : ℕ). decimals_at minus j line p worth stop ≡ decimals_at minus k line at v stop) (omega arith) u.rest

      module _ (h : 0 < left) where
        again : decimals_at minus (suc (left - 1)) line p worth stop ≡ decimals_at minus k line at v stop
        again = subst (λ (j : ℕ). decimals_at minus j line p worth stop ≡ decimals_at minus k line at v stop) (omega arith) u.rest

        pub decimals_bad : is_digit (get_or line p 0) ≡ false → Err p ≡ decimals_at minus k line at v stop
        decimals_bad e = sym (decimals_none p worth (left - 1) e) ∙ again

        -- what was read before fits nine digits
        pub decimals_small : worth < 10 ^ 9
        decimals_small =
            let nine : 10 - left ≤ 9 = omega arith in
            lt_of_lt_of_le u.small (pow-le-pow_right {n = 10} (lit< tt) nine)

        module _ (e : is_digit (get_or line p 0) ≡ true) where
          pub decimals_within : p < length line
          decimals_within = some_within line p (omega (arith, digit_range (get_or line p 0) e))

          pub decimals_more : (d : ℕ) → d ≡ get_or line p 0 - 48 → Decimals (p + 1) (worth * 10 + d) (left - 1)
          decimals_more d q =
              let r = digit_range (get_or line p 0) e in
              let m : 10 - (left - 1) ≡ suc (10 - left) = omega (arith, u.few) in
              let g : d < 10 = omega arith in
              record {
                rest = ap (λ (x : ℕ). decimals_at minus (left - 1) line (p + 1) (worth * 10 + x) stop) q ∙ sym (decimals_digit p worth (left - 1) e) ∙ again;
                some = omega arith;
                within = omega (arith, decimals_within);
                few = omega (arith, u.few);
                small = rw m (more_digits worth d (10 - left) u.small g);
              }

  -- a number that was read is below 10^10
  pub decimals_lt : (k at v : ℕ) → k ≤ 10 → v < 10 ^ (10 - k) → with_number (decimals_at minus k line at v stop) 0 (λ w next. w) < 10 ^ 10
  unfolding decimals_at
  decimals_lt zero at v h s = go (minus && eqb v 0) (eqb (get_or line at 0) stop)
    where
      go : (t u : Bool) → with_number (cond t (Err (at - 1)) (cond u (Ok (v, at + 1)) (Err at))) 0 (λ w next. w) < 10 ^ 10
      go true u = lit< tt
      go false true = s
      go false false = lit< tt
  decimals_lt (suc k) at v h s = go (decimals_lt k (at + 1) (v * 10 + (get_or line at 0 - 48))) (is_digit (get_or line at 0)) refl
    where
      go : (k ≤ 10 → v * 10 + (get_or line at 0 - 48) < 10 ^ (10 - k) → with_number (decimals_at minus k line (at + 1) (v * 10 + (get_or line at 0 - 48)) stop) 0 (λ w next. w) < 10 ^ 10)
          → (t : Bool) → is_digit (get_or line at 0) ≡ t → with_number (cond t (decimals_at minus k line (at + 1) (v * 10 + (get_or line at 0 - 48)) stop) (Err at)) 0 (λ w next. w) < 10 ^ 10
      go ih false e = lit< tt
      go ih true e =
          let r = digit_range (get_or line at 0) e in
          let m : 10 - k ≡ suc (10 - suc k) = omega arith in
          let g : get_or line at 0 - 48 < 10 = omega arith in
          ih (omega arith) (rw m (more_digits v (get_or line at 0 - 48) (10 - suc k) s g))

-- ---- the number before the point
-- what a number is worth has no more digits than were read
pub decimal_under : (v : ℕ) → v < 10 ^ 10 → v < 10 ^ length (decimal v)
decimal_under v h =
    let w : value 0 (decimal v) ≡ v = ap (value 0) (decimal_ten v h) ∙ text_value 10 v h in
    let s : value 0 (decimal v) < 10 ^ (0 + length (decimal v)) = value_small 0 0 (decimal v) (decimal_digits v) (lit< tt) in
    let n : 0 + length (decimal v) ≡ length (decimal v) = omega arith in
    subst (λ (x : ℕ). x < 10 ^ length (decimal v)) w (subst (λ (x : ℕ). value 0 (decimal v) < 10 ^ x) n s)

pub bad_after : (line : List ℕ) (at stop place : ℕ) → number_at line at stop ≡ Err place → at ≤ place
unfolding number_at
bad_after line at stop place e = let d = digits (drop at line) in go (plain d && (ltb (length d) (length (drop at line)) && eqb (get_or (drop at line) (length d) 0) stop)) (value 0 d) (at + length d + 1) (cond (ltb 1 (length d) && eqb (get_or d 0 0) 48) 1 (min (length d) digits_most)) e
  where
    go : (t : Bool) (v n m : ℕ) → ◌≡◌ {A = Parsed ℕ} (cond t (Ok (v, n)) (Err (at + m))) (Err place) → at ≤ place
    go true v n m e = absurd (zero_one cc)
    go false v n m e = let q : at + m ≡ place = cc in omega arith

module _ (minus : Bool) (k : ℕ) (line : List ℕ) (at stop : ℕ) where
  pub point_bad : (place : ℕ) → number_at line at point ≡ Err place → Err (min place (at + whole_most k)) ≡ point_at minus k line at stop
  unfolding point_at
  point_bad place q = rw q

  module _ (v next : ℕ) (q : number_at line at point ≡ Ok (v, next)) where
    pub whole_after : (at < next) × (next ≤ length line)
    whole_after = let r = number_read line at point v next (sym q) in (omega (arith, r.after), r.within)

    pub point_long : whole_most k + 1 < next - at → Err (at + whole_most k) ≡ point_at minus k line at stop
    unfolding point_at
    point_long h = rw (q, lt-leb (next - at) (whole_most k + 1) h)

    module _ (h : next - at ≤ whole_most k + 1) where
      pub point_goes : decimals_at minus k line next v stop ≡ point_at minus k line at stop
      unfolding point_at
      point_goes = rw (q, le-leb (next - at) (whole_most k + 1) h)

      pub whole_small : v < 10 ^ whole_most k
      whole_small =
          let r = number_read line at point v next (sym q) in
          let few : length (decimal v) ≤ whole_most k = omega (arith, r.after) in
          lt_of_lt_of_le (decimal_under v r.small) (pow-le-pow_right {n = 10} (lit< tt) few)

  -- ---- a whole number with its point
  pub point_lt : k < 10 → with_number (point_at minus k line at stop) 0 (λ v next. v) < 10 ^ 10
  unfolding point_at
  point_lt h = go (number_at line at point) refl
    where
      by : (v next : ℕ) → number_at line at point ≡ Ok (v, next) → (t : Bool) → leb (next - at) (whole_most k + 1) ≡ t
          → with_number (cond t (decimals_at minus k line next v stop) (Err (at + whole_most k))) 0 (λ v next. v) < 10 ^ 10
      by v next q false e = lit< tt
      by v next q true e = decimals_lt minus line stop k next v (omega arith) (whole_small v next q (leb-true (next - at) (whole_most k + 1) e))

      go : (n : Parsed ℕ) → number_at line at point ≡ n → with_number (after_whole minus k line at stop n) 0 (λ v next. v) < 10 ^ 10
      go (Err place) q = lit< tt
      go (Ok (v, next)) q = by v next q (leb (next - at) (whole_most k + 1)) refl

module _ (k : ℕ) (line : List ℕ) (at stop : ℕ) where
  pub signed_point_plus : eqb (get_or line at 0) 45 ≡ false → positive (point_at false k line at stop) ≡ signed_point_at k line at stop
  unfolding signed_point_at
  signed_point_plus e = rw e

  pub signed_point_minus : eqb (get_or line at 0) 45 ≡ true → negated (point_at true k line (at + 1) stop) ≡ signed_point_at k line at stop
  unfolding signed_point_at
  signed_point_minus e = rw e

-- ---- digits that are dropped one by one
pub shift_none : (n : ℕ) → n ≡ n / 10 ^ 0
shift_none n = rw (pow-zero 10) (sym (div-one n))

pub shift_one : (n k : ℕ) → n / 10 ^ k / 10 ≡ n / 10 ^ suc k
shift_one n k = div-div-eq-div-mul n (10 ^ k) 10 ∙ ap (λ (m : ℕ). n / m) (sym (pow-suc 10 k))

pub shift_more : (n k rest : ℕ) → rest ≡ n / 10 ^ k → rest / 10 ≡ n / 10 ^ (k + 1)
shift_more n k rest e = ap (λ (m : ℕ). m / 10) e ∙ shift_one n k ∙ ap (λ (j : ℕ). n / 10 ^ j) (sym (add-one k))

-- ---- the digits that are written
pub last_long : (k n : ℕ) → length (last_digits k n) ≡ k
unfolding last_digits
last_long zero n = refl
last_long (suc k) n = ap suc (last_long k n)

-- what a writer has when `left` decimals are left
pub record DecimalsPut (k n at : ℕ) (out₀ out : List ℕ) (next left : ℕ) : Type 0 where
  pub done : List ℕ
  pub put : Put done at out₀ next out
  pub rest : done ++ last_digits left n ≡ last_digits k n

pub decimals_put_none : (k n at : ℕ) (out : List ℕ) → DecimalsPut k n at out out at k
decimals_put_none k n at out = record { done = []; put = put_none at out; rest = refl }

module _ {k n at : ℕ} {out₀ out : List ℕ} {next left : ℕ} (u : DecimalsPut k n at out₀ out next left) where
  pub decimals_put_all : left ≤ 0 → Put (last_digits k n) at out₀ next out
  unfolding last_digits
  decimals_put_all h =
      let none : left ≡ 0 = omega arith in
      let e : u.done ++ last_digits 0 n ≡ last_digits k n = subst (λ (j : ℕ). u.done ++ last_digits j n ≡ last_digits k n) none u.rest in
      subst (λ (l : List ℕ). Put l at out₀ next out) (sym (append-nil u.done) ∙ e) u.put

  module _ (h : 0 < left) (room : at + length (last_digits k n) ≤ length out₀) where
    split : u.done ++ ((48 + n / 10 ^ (left - 1) % 10) ∷ last_digits (left - 1) n) ≡ last_digits k n
    unfolding last_digits
    split =
        let one : left ≡ suc (left - 1) = omega arith in
        subst (λ (j : ℕ). u.done ++ last_digits j n ≡ last_digits k n) one u.rest

    pub decimals_put_room : next < length out
    decimals_put_room =
        let d = 48 + n / 10 ^ (left - 1) % 10 in
        omega (arith, put_room u.put 1 (omega (arith, room, ap length split, length-append u.done (d ∷ last_digits (left - 1) n))))

    pub decimals_put_more : {b next' : ℕ} {out' : List ℕ} → b ≡ 48 + n / 10 ^ (left - 1) % 10 → Put (b ∷ []) next out next' out' → DecimalsPut k n at out₀ out' next' (left - 1)
    decimals_put_more {b} e p = record {
      done = u.done ++ (b ∷ []);
      put = put_more u.put (omega (arith, room)) p;
      rest = append_assoc u.done (b ∷ []) (last_digits (left - 1) n) ∙ ap (λ (x : ℕ). u.done ++ (x ∷ last_digits (left - 1) n)) e ∙ split;
    }

-- ---- the whole text
pub pointed_long : (k n : ℕ) → length (pointed k n) ≡ length (decimal (n / 10 ^ k)) + 1 + k
unfolding pointed
pointed_long k n = omega (arith, length-append (decimal (n / 10 ^ k)) (point ∷ last_digits k n), last_long k n)

module _ (k n : ℕ) {w at m p next : ℕ} {out one two out' : List ℕ} (e : w ≡ n / 10 ^ k) where
  pub pointed_put : at ≤ length out → Put (decimal w) at out m one → Put (point ∷ []) m one p two → Put (last_digits k n) p two next out' → Put (pointed k n) at out next out'
  unfolding pointed
  pointed_put h a b c =
      subst (λ (l : List ℕ). Put l at out next out')
      (append_assoc (decimal w) (point ∷ []) (last_digits k n) ∙ ap (λ (x : ℕ). decimal x ++ (point ∷ last_digits k n)) e)
      (put_more (put_more a h b) h c)

module _ (k : ℕ) (z : ℤ) where
  below_text : lt_z z (pos 0) ≡ true → pointed_ℤ k z ≡ dash ∷ pointed k (nat_abs z)
  unfolding pointed_ℤ
  below_text e = go z e
    where
      go : (z : ℤ) → lt_z z (pos 0) ≡ true → pointed_ℤ k z ≡ dash ∷ pointed k (nat_abs z)
      go (pos n) e = absurd (not-suc-le-zero (ltb-true n 0 e))
      go (negsuc n) e = refl

  above_text : lt_z z (pos 0) ≡ false → pointed_ℤ k z ≡ pointed k (nat_abs z)
  unfolding pointed_ℤ
  above_text e = go z e
    where
      go : (z : ℤ) → lt_z z (pos 0) ≡ false → pointed_ℤ k z ≡ pointed k (nat_abs z)
      go (pos n) e = refl
      go (negsuc n) e = absurd (false≢true (sym e))

  module _ {d : ℕ} (q : d ≡ nat_abs z) where
    below : lt_z z (pos 0) ≡ true → (dash ∷ []) ++ pointed k d ≡ pointed_ℤ k z
    below e = ap (λ (x : ℕ). dash ∷ pointed k x) q ∙ sym (below_text e)

    above : lt_z z (pos 0) ≡ false → pointed k d ≡ pointed_ℤ k z
    above e = ap (pointed k) q ∙ sym (above_text e)

    pub below_point_length : lt_z z (pos 0) ≡ true → length (pointed k d) + 1 ≡ length (pointed_ℤ k z)
    below_point_length e = omega (arith, ap length (below e))

    pub above_point_length : lt_z z (pos 0) ≡ false → length (pointed k d) ≡ length (pointed_ℤ k z)
    above_point_length e = ap length (above e)

    module _ {at n : ℕ} {out out' : List ℕ} where
      pub below_point_put : {m : ℕ} {mid : List ℕ} → lt_z z (pos 0) ≡ true → at ≤ length out → Put (dash ∷ []) at out m mid → Put (pointed k d) m mid n out' → Put (pointed_ℤ k z) at out n out'
      below_point_put e h p r = subst (λ (l : List ℕ). Put l at out n out') (below e) (put_more p h r)

      pub above_point_put : lt_z z (pos 0) ≡ false → Put (pointed k d) at out n out' → Put (pointed_ℤ k z) at out n out'
      above_point_put e r = subst (λ (l : List ℕ). Put l at out n out') (above e) r
