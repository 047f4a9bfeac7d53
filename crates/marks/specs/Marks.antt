-- Marked borders (02, E13): a lent list of the borders that may rise, and when it is turned away (13).
-- A call with no list asks for every border: `all` tells so, and the marks are then not looked at.
use Rattle.std.specs.Prelude.{Bool, true, false, cond, not, ◌||◌, Option, Some, None, List, [], ℕ, ◌+◌, ltb, eqb, length}
use denote.Ref.{Bor}
use Rattle.numbers.specs.Below.{at, table, some_below}
use Rattle.refusals.specs.Refusals.{Judged, unless, refuse_first, bad_mark}

-- a call's marks: none where every border may rise, and then the list that it is lent
abbrev pub every : Option (Bor (List ℕ)) → Bool
every None = true
every (Some marks) = false

abbrev pub listed : Option (Bor (List ℕ)) → List ℕ
listed None = []
listed (Some marks) = marks.now

-- some mark is border b
unfoldable pub marked_by : (marks : List ℕ) → (b : ℕ) → Bool
marked_by marks b = some_below (length marks) (λ k. eqb (at marks k) b)

-- mark k is no border, or was given before
unfoldable pub faulty_mark : (borders : ℕ) → (marks : List ℕ) → (k : ℕ) → Bool
faulty_mark borders marks k = not (ltb (at marks k) borders) || some_below k (λ e. eqb (at marks e) (at marks k))

-- 13: no mark at all has place 0; else the first faulty position in the list, from 1
unfoldable pub judge_marks : {A : Type 0} → (borders : ℕ) → (marks : List ℕ) → Judged A → Judged A
judge_marks borders marks next =
    unless (ltb 0 (length marks)) (bad_mark 0)
    (refuse_first (length marks) (faulty_mark borders marks) (λ k. bad_mark (k + 1))
    next)

-- 13 is judged only where marks were asked for; and which borders may rise
abbrev pub judge_asked : {A : Type 0} → (all : Bool) → (borders : ℕ) → (marks : List ℕ) → Judged A → Judged A
judge_asked all borders marks next = cond all next (judge_marks borders marks next)

abbrev pub may_rise : (all : Bool) → (marks : List ℕ) → (b : ℕ) → Bool
may_rise all marks b = all || marked_by marks b

-- a flag for each border, 1 where it may rise and else 0, and what a list of flags says of a border
abbrev pub flag_of : (all : Bool) → (marks : List ℕ) → (b : ℕ) → ℕ
flag_of all marks b = cond (may_rise all marks b) 1 0

abbrev pub flags_of : (borders : ℕ) → (all : Bool) → (marks : List ℕ) → List ℕ
flags_of borders all marks = table borders (flag_of all marks)

unfoldable pub flagged : (flags : List ℕ) → (b : ℕ) → Bool
flagged flags b = not (eqb (at flags b) 0)
