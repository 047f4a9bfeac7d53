-- A section of lines of one kind (01, "The table as text": each kind by index from 0): what they hold, or the first refusal.
-- 01, "When the table is turned away": lines are judged one by one, form before range, and the first faulty line decides.
use Rattle.std.specs.Prelude.{List, [], ◌∷◌, ℕ, zero, suc, ◌+◌, Ok, Err}
use Rattle.refusals.specs.declared.Refusal.{Refusal}
use Rattle.refusals.specs.Refusals.{Judged}
use Rattle.text.specs.Line.{line_at, after, Line, refusal_of}

-- what a section of lines comes to: what they hold and the place after them; or the refusal
pub data Section (A : Type 0) : Type 0 where
  read : List A → ℕ → Section A
  fault : Refusal → Section A

abbrev pub more : {A : Type 0} → A → Section A → Section A
more a (read rest next) = read (a ∷ rest) next
more a (fault w) = fault w

-- a line by its number in the text: a good one goes on
abbrev pub on_line : {A : Type 0} → Line A → (number : ℕ) → Section A → Section A
on_line (Ok a) number rest = more a rest
on_line (Err bad) number rest = fault (refusal_of bad number)

-- `left` lines from `place` on, the first with index i; the line of index 0 is line `first` of the text
unfoldable pub lines_at : {A : Type 0} → (judge : List ℕ → ℕ → Line A) → (first : ℕ) → (left : ℕ) → (text : List ℕ) → (place i : ℕ) → Section A
lines_at judge first zero text place i = read [] place
lines_at judge first (suc left) text place i =
    let rest = lines_at judge first left text (after text place) (i + 1) in
    on_line (judge (line_at text place) i) (first + i) rest

-- what follows a section of lines
abbrev pub with_lines : {A B : Type 0} → Section A → (List A → ℕ → Judged B) → Judged B
with_lines (read xs next) f = f xs next
with_lines (fault w) f = Err w
