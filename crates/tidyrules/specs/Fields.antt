-- One field, repaired: blanks at its ends and quotes around it go, decimals that were trimmed come back. What is not certain stays as it is.
-- `repaired` is what lines are defined by.
use Rattle.std.specs.Prelude.{Bool, true, false, cond, ◌&&◌, ◌||◌, List, [], ◌∷◌, ◌++◌, ℕ, ◌-◌, leb, ltb, eqb, length, replicate}
use Rattle.text.specs.Fields.{dash, is_digit}
use Rattle.text.specs.Point.{point}

abbrev pub blank : ℕ
blank = 32

abbrev pub return : ℕ
return = 13

abbrev pub quote : ℕ
quote = 34

abbrev pub empty : List ℕ → Bool
empty [] = true
empty (b ∷ s) = false

-- ---- ends
-- a byte that goes where it stands at a field's end: a blank, and in a line's last field a CR too
abbrev pub edge : (last : Bool) → (b : ℕ) → Bool
edge last b = eqb b blank || (last && eqb b return)

-- s without the blanks that it begins with
abbrev pub unled : List ℕ → List ℕ
unled [] = []
unled (b ∷ s) = cond (eqb b blank) (unled s) (b ∷ s)

-- s without the bytes at its end that go there
abbrev pub untrailed : (last : Bool) → List ℕ → List ℕ
untrailed last [] = []
untrailed last (b ∷ s) = let rest = untrailed last s in cond (edge last b && empty rest) [] (b ∷ rest)

abbrev pub trimmed : (last : Bool) → List ℕ → List ℕ
trimmed last f = unled (untrailed last f)

-- ---- quotes
-- s ends at its first quote, and before that has only bytes 32..126
abbrev pub closes : List ℕ → Bool
closes [] = false
closes (b ∷ s) = cond (eqb b quote) (empty s) (leb 32 b && (ltb b 127 && closes s))

-- s up to its first quote
abbrev pub within : List ℕ → List ℕ
within [] = []
within (b ∷ s) = cond (eqb b quote) [] (b ∷ within s)

-- the whole field stands between two quotes
abbrev pub quoted : List ℕ → Bool
quoted [] = false
quoted (b ∷ s) = eqb b quote && closes s

-- what stands between the quotes of a field that has them, its ends trimmed again; any other field stays
abbrev pub unquoted : (last : Bool) → List ℕ → List ℕ
unquoted last [] = []
unquoted last (b ∷ s) = cond (eqb b quote && closes s) (trimmed last (within s)) (b ∷ s)

-- ---- decimals
abbrev pub digits_only : List ℕ → Bool
digits_only [] = true
digits_only (b ∷ s) = is_digit b && digits_only s

-- how many digits follow the point, in digits, a point and digits; 0 in what has another form. `some`: a digit stood before
abbrev pub decimals_past : (some : Bool) → List ℕ → ℕ
decimals_past some [] = 0
decimals_past some (b ∷ s) = cond (is_digit b) (decimals_past true s) (cond (some && (eqb b point && digits_only s)) (length s) 0)

-- how many decimals a number with a point has, a minus before it or not; 0 in what is none
abbrev pub decimals_of : List ℕ → ℕ
decimals_of [] = 0
decimals_of (b ∷ s) = cond (eqb b dash) (decimals_past false s) (decimals_past false (b ∷ s))

-- how many zeros a number with so many decimals lacks
abbrev pub short : (wanted has : ℕ) → ℕ
short wanted has = cond (eqb has 0) 0 (wanted - has)

abbrev pub lacking : (wanted : ℕ) → List ℕ → ℕ
lacking wanted f = short wanted (decimals_of f)

abbrev pub filled : (wanted : ℕ) → List ℕ → List ℕ
filled wanted f = f ++ replicate (lacking wanted f) 48

-- ---- a field, of which `wanted` decimals are wanted where it is a number with a point (0: as many as it has)
unfoldable pub bared : (last : Bool) → List ℕ → List ℕ
bared last f = unquoted last (trimmed last f)

unfoldable pub repaired : (last : Bool) → (wanted : ℕ) → List ℕ → List ℕ
repaired last wanted f = filled wanted (bared last f)
