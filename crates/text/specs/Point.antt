-- A number with a point and exactly k decimals, as the planners' sheet has it (02, E11): one digit or more, no leading zero except "0" itself, the point,
-- the decimals; at most ten digits in all; a minus only before a signed one that is not 0. It is worth its digits without the point, so that MW with three
-- decimals are kW: nothing is computed.
-- `point_at`, `signed_point_at`, `pointed` and `pointed_ℤ` are what contracts cite. Places and bad places are those of `Fields.antt`.
use Rattle.std.specs.Prelude.{Bool, true, false, cond, ◌&&◌, List, [], ◌∷◌, ◌++◌, ℕ, zero, suc, ◌+◌, ◌*◌, ◌-◌, ◌/◌, ◌%◌, ◌^◌, min, leb, eqb, ℤ, pos, negsuc, neg_ℤ, get_or, Ok, Err}
use Rattle.text.specs.Fields.{Parsed, dash, is_digit, digits_most, number_at, positive}
use Rattle.text.specs.Written.{decimal}

abbrev pub point : ℕ
point = 46

-- ---- read
-- k more decimals from a place on, after digits worth v, and then `stop`. After a minus the number is not 0: its last decimal is bad then
unfoldable pub decimals_at : (minus : Bool) → (k : ℕ) → (line : List ℕ) → (at v stop : ℕ) → Parsed ℕ
decimals_at minus zero line at v stop = cond (minus && eqb v 0) (Err (at - 1)) (cond (eqb (get_or line at 0) stop) (Ok (v, at + 1)) (Err at))
decimals_at minus (suc k) line at v stop = cond (is_digit (get_or line at 0)) (decimals_at minus k line (at + 1) (v * 10 + (get_or line at 0 - 48)) stop) (Err at)

-- how many digits may stand before the point
abbrev pub whole_most : (k : ℕ) → ℕ
whole_most k = digits_most - k

-- the rest of a number, by its part before the point, which begins at place `at`: the first digit too many is bad
abbrev pub after_whole : (minus : Bool) → (k : ℕ) → (line : List ℕ) → (at stop : ℕ) → Parsed ℕ → Parsed ℕ
after_whole minus k line at stop (Ok (v, next)) = cond (leb (next - at) (whole_most k + 1)) (decimals_at minus k line next v stop) (Err (at + whole_most k))
after_whole minus k line at stop (Err place) = Err (min place (at + whole_most k))

unfoldable pub point_at : (minus : Bool) → (k : ℕ) → (line : List ℕ) → (at stop : ℕ) → Parsed ℕ
point_at minus k line at stop = after_whole minus k line at stop (number_at line at point)

abbrev pub negated : Parsed ℕ → Parsed ℤ
negated (Ok (v, next)) = Ok (neg_ℤ (pos v), next)
negated (Err place) = Err place

-- a signed one
unfoldable pub signed_point_at : (k : ℕ) → (line : List ℕ) → (at stop : ℕ) → Parsed ℤ
signed_point_at k line at stop = cond (eqb (get_or line at 0) dash) (negated (point_at true k line (at + 1) stop)) (positive (point_at false k line at stop))

-- ---- written
-- the last k digits of n, the zeros before them too
unfoldable pub last_digits : (k n : ℕ) → List ℕ
last_digits zero n = []
last_digits (suc k) n = (48 + n / 10 ^ k % 10) ∷ last_digits k n

unfoldable pub pointed : (k n : ℕ) → List ℕ
pointed k n = decimal (n / 10 ^ k) ++ (point ∷ last_digits k n)

-- a minus only before what is below 0
unfoldable pub pointed_ℤ : (k : ℕ) → ℤ → List ℕ
pointed_ℤ k (pos n) = pointed k n
pointed_ℤ k (negsuc n) = dash ∷ pointed k (suc n)
