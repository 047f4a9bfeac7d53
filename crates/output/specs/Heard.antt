-- What a printed text says of itself: only a refusal's line begins with E (01, "Result text"), and it has the number, the place and the byte (02, E5).
-- `heard_of` is what contracts cite. That it hears every refusal, and no answer as one, is proved in printing (proofs/HeardTexts).
use Rattle.std.specs.Prelude.{cond, List, ℕ, eqb, get_or}
use Rattle.text.specs.Fields.{number_at, with_number}
use Rattle.output.specs.declared.Ended.{Ended}
use Rattle.output.specs.declared.Ended.TheVariants.{Answered, Refused}

-- the code of the letter E
abbrev pub letter_e : ℕ
letter_e = 69

-- an E line that could not be read would still be a refusal: number 0, which no table of refusals has
abbrev pub unread : Ended
unread = Refused 0 0 0

-- number, tab, place, tab, byte, LF, after the letter and its tab
unfoldable pub refusal_in : (line : List ℕ) → Ended
refusal_in line =
    with_number (number_at line 2 9) unread (λ number at.
    with_number (number_at line at 9) unread (λ place next.
    with_number (number_at line next 10) unread (λ byte end. Refused number place byte)))

unfoldable pub heard_of : (printed : List ℕ) → Ended
heard_of printed = cond (eqb (get_or printed 0 0) letter_e) (refusal_in printed) Answered
