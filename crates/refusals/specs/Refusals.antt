-- A refusal carries number and place (01, "When the table is turned away") and the byte of the line that is to blame (02, E5); what a judgement comes to,
-- and how judgements follow one another.
use Rattle.std.specs.Prelude.{Bool, cond, ℕ, ltb, None, Option, Some, Result, Ok, Err}
use Rattle.numbers.specs.Below.{first_from}
use Rattle.refusals.specs.declared.Refusal.{Refusal}
use Rattle.refusals.specs.declared.Refusal.TheVariants as why

-- the number in 01's table
abbrev pub number_of : Refusal → ℕ
number_of why.TooLong = 1
number_of (why.WrongForm line byte) = 2
number_of (why.OutOfRange line byte) = 3
number_of (why.GivenTwice border) = 4
number_of why.NoRow = 5
number_of (why.Unlimited border) = 6
number_of (why.BelowZero row) = 7
number_of (why.TooShort needed) = 8
number_of (why.NoCorners place) = 9
number_of (why.WrongCorrection line byte) = 10
number_of (why.MalformedClaim claim) = 11
number_of (why.NotBorneOut claim) = 12
number_of (why.BadMark position) = 13
number_of (why.NoBorder borders) = 14

-- the place that 01's table names, 0 where there is none
abbrev pub place_of : Refusal → ℕ
place_of why.TooLong = 0
place_of (why.WrongForm line byte) = line
place_of (why.OutOfRange line byte) = line
place_of (why.GivenTwice border) = border
place_of why.NoRow = 0
place_of (why.Unlimited border) = border
place_of (why.BelowZero row) = row
place_of (why.TooShort needed) = needed
place_of (why.NoCorners place) = place
place_of (why.WrongCorrection line byte) = line
place_of (why.MalformedClaim claim) = claim
place_of (why.NotBorneOut claim) = claim
place_of (why.BadMark position) = position
place_of (why.NoBorder borders) = borders

-- the byte of that line that is to blame, counted from 1, and 0 where no byte is to blame
abbrev pub byte_of : Refusal → ℕ
byte_of (why.WrongForm line byte) = byte
byte_of (why.OutOfRange line byte) = byte
byte_of (why.WrongCorrection line byte) = byte
byte_of why.TooLong = 0
byte_of (why.GivenTwice border) = 0
byte_of why.NoRow = 0
byte_of (why.Unlimited border) = 0
byte_of (why.BelowZero row) = 0
byte_of (why.TooShort needed) = 0
byte_of (why.NoCorners place) = 0
byte_of (why.MalformedClaim claim) = 0
byte_of (why.NotBorneOut claim) = 0
byte_of (why.BadMark position) = 0
byte_of (why.NoBorder borders) = 0

-- 1 (01's table, a line each): more than 65,536 bytes
abbrev pub too_long : Refusal
too_long = why.TooLong

-- 2 the first faulty line has the wrong form, kind, index or field count, is missing, has no LF, or is extra
abbrev pub wrong_form_at : (line byte : ℕ) → Refusal
wrong_form_at line byte = why.WrongForm line byte

-- 2 where no byte is to blame
abbrev pub wrong_form : (line : ℕ) → Refusal
wrong_form line = wrong_form_at line 0

-- 3 the first faulty line has right form, a value outside its range
abbrev pub out_of_range_at : (line byte : ℕ) → Refusal
out_of_range_at line byte = why.OutOfRange line byte

-- 3 where no byte is to blame: a lent record has no bytes
abbrev pub out_of_range : (line : ℕ) → Refusal
out_of_range line = out_of_range_at line 0

-- 4 same from and to, and the same hubs (02, E3), as an earlier border
abbrev pub given_twice : (border : ℕ) → Refusal
given_twice border = why.GivenTwice border

-- 5 no row of state 0
abbrev pub no_row : Refusal
no_row = why.NoRow

-- 6 a border with p > 0 on no kept row
abbrev pub unlimited : (border : ℕ) → Refusal
unlimited border = why.Unlimited border

-- 7 a kept row's starting margin is below 0
abbrev pub below_zero : (row : ℕ) → Refusal
below_zero row = why.BelowZero row

-- 8 a lent buffer is too short
abbrev pub too_short : (needed : ℕ) → Refusal
too_short needed = why.TooShort needed

-- 9 (02, E1) no corner sheet: more than 12 borders, or else no such row
abbrev pub no_corners : (place : ℕ) → Refusal
no_corners place = why.NoCorners place

-- 10 (02, E2) a correction line of wrong form or value, or with an index not above the one before or not in the table
abbrev pub wrong_correction : (line byte : ℕ) → Refusal
wrong_correction line byte = why.WrongCorrection line byte

-- 11 (02, E10) a claim is malformed or out of range
abbrev pub malformed_claim : (claim : ℕ) → Refusal
malformed_claim claim = why.MalformedClaim claim

-- 12 (02, E10) a claim is not borne out
abbrev pub not_borne_out : (claim : ℕ) → Refusal
not_borne_out claim = why.NotBorneOut claim

-- 13 (02, E13) no mark, or the first position in the list, from 1, whose mark is no border or was given before
abbrev pub bad_mark : (position : ℕ) → Refusal
bad_mark position = why.BadMark position

-- what was judged, such as a table or a result, or the refusal
abbrev pub Judged : Type 0 → Type 0
Judged A = Result A Refusal

-- a judgement alone, as the code answers it
abbrev pub Ruling : Type 0
Ruling = Result (Unit {0}) Refusal

-- one judgement and then another, on what passed: the first refusal decides
unfoldable pub then : {A B : Type 0} → Judged A → (A → Judged B) → Judged B
then (Ok a) next = next a
then (Err w) next = Err w

-- what is made of a judgement, whether it passed or was refused
unfoldable pub either : {A B : Type 0} → Judged A → (A → B) → (Refusal → B) → B
either (Ok a) yes_of no_of = yes_of a
either (Err w) yes_of no_of = no_of w

-- the refusal where a test fails, else what comes next
unfoldable pub unless : {A : Type 0} → Bool → Refusal → Judged A → Judged A
unless ok w next = cond ok next (Err w)

-- the refusal at the first of the indices below n that is faulty, else what comes next
unfoldable pub refuse_at : {A : Type 0} → Option ℕ → (ℕ → Refusal) → Judged A → Judged A
refuse_at None w next = next
refuse_at (Some i) w next = Err (w i)

unfoldable pub refuse_first : {A : Type 0} → (n : ℕ) → (faulty : ℕ → Bool) → (w : ℕ → Refusal) → Judged A → Judged A
refuse_first n faulty w next = refuse_at (first_from n 0 faulty) w next

-- 8: a lent buffer of `has` items where n are needed
unfoldable pub need : {A : Type 0} → (n has : ℕ) → Judged A → Judged A
need n has next = cond (ltb has n) (Err (too_short n)) next
