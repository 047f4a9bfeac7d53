-- A field at a place of a line (01, "The table as text"): decimal, 1 to 10 digits, no leading zero except "0" itself,
-- a minus only before a nonzero signed field, and then the byte that ends the field.
-- `number_at`, `signed_at` and `share_at` are what contracts cite. A place counts bytes from the line's start, from 0.
-- A field of wrong form tells the first place that no good field could have; what is above asks only whether there is one.
use Rattle.std.specs.Prelude.{Bool, cond, not, ◌&&◌, ◌||◌, List, [], ◌∷◌, ℕ, ◌+◌, ◌*◌, ◌-◌, min, leb, ltb, eqb, ℤ, pos, neg_ℤ, length, get_or, drop, Result, Ok, Err}
use Rattle.numbers.specs.Ints.{minus}

-- what was read at a place and the place after it, or the first place that no good field could have
abbrev pub Parsed : Type 0 → Type 0
Parsed A = Result (A × ℕ) ℕ

-- the bytes that part fields and end lines, and the minus
abbrev pub tab : ℕ
tab = 9

abbrev pub feed : ℕ
feed = 10

abbrev pub dash : ℕ
dash = 45

abbrev pub is_digit : ℕ → Bool
is_digit b = leb 48 b && ltb b 58

-- the digits that s begins with
abbrev pub digits : List ℕ → List ℕ
digits [] = []
digits (b ∷ s) = cond (is_digit b) (b ∷ digits s) []

-- what digits are worth, after v
abbrev pub value : ℕ → List ℕ → ℕ
value v [] = v
value v (b ∷ s) = value (v * 10 + (b - 48)) s

-- a number has at most ten digits
abbrev pub digits_most : ℕ
digits_most = 10

-- 1 to 10 digits, no leading zero except "0" itself
abbrev pub plain : List ℕ → Bool
plain ds = ltb 0 (length ds) && (leb (length ds) digits_most && (leb (length ds) 1 || not (eqb (get_or ds 0 0) 48)))

-- the first place that no good number could have: the second digit after a leading zero, the eleventh digit, or what follows the digits
abbrev pub first_bad : (ds : List ℕ) → (at : ℕ) → ℕ
first_bad ds at = at + cond (ltb 1 (length ds) && eqb (get_or ds 0 0) 48) 1 (min (length ds) digits_most)

-- s begins with the digits ds, and the byte after them is `stop`
abbrev pub number_of : (ds s : List ℕ) → (at stop : ℕ) → Parsed ℕ
number_of ds s at stop =
    cond (plain ds && (ltb (length ds) (length s) && eqb (get_or s (length ds) 0) stop)) (Ok (value 0 ds, at + length ds + 1)) (Err (first_bad ds at))

-- a number at a place of a line, ended by `stop`: its value and the place after
unfoldable pub number_at : (line : List ℕ) → (at stop : ℕ) → Parsed ℕ
number_at line at stop = number_of (digits (drop at line)) (drop at line) at stop

abbrev pub positive : Parsed ℕ → Parsed ℤ
positive (Ok (v, next)) = Ok (pos v, next)
positive (Err place) = Err place

-- after a minus, from place `at` on: a number that is not 0. A zero there is itself the bad byte, whatever follows it
abbrev pub negative : (first at : ℕ) → Parsed ℕ → Parsed ℤ
negative first at (Ok (v, next)) = cond (eqb v 0) (Err at) (Ok (neg_ℤ (pos v), next))
negative first at (Err place) = Err (cond (eqb first 48) at place)

-- a signed number: a number, or a minus before a number that is not 0
unfoldable pub signed_at : (line : List ℕ) → (at stop : ℕ) → Parsed ℤ
signed_at line at stop =
    cond (eqb (get_or line at 0) dash) (negative (get_or line (at + 1) 0) (at + 1) (number_at line (at + 1) stop)) (positive (number_at line at stop))

-- R: a number, or "-" alone, which is kept as -1
unfoldable pub share_at : (line : List ℕ) → (at stop : ℕ) → Parsed ℤ
share_at line at stop =
    cond (eqb (get_or line at 0) dash)
    (cond (eqb (get_or line (at + 1) 0) stop) (Ok (minus 1, at + 2)) (Err (at + 1)))
    (positive (number_at line at stop))

-- a number's value and the place after it, or what is said where there is none
abbrev pub with_number : {A : Type 0} → Parsed ℕ → A → (ℕ → ℕ → A) → A
with_number (Ok (v, next)) bad f = f v next
with_number (Err place) bad f = bad
