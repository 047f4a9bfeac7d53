-- Small lists of marks. Nobody cites them: they refuse a definition that slipped, by the number that comes out.
use Rattle.std.specs.Prelude.{Err, Ok}
use mathlib.Core.Path.{refl}
use mathlib.Core.Bool.{true, false}
use mathlib.Core.List.{List, [], ◌∷◌}
use Prim.Native.Nat.{ℕ}
use Rattle.numbers.specs.Below.{table, first_from, given}
use Rattle.numbers.specs.Computed.{◌is◌, Hold}
use Rattle.refusals.specs.Refusals.{Judged, unless, refuse_at, refuse_first, bad_mark}
use Rattle.marks.specs.Marks.{marked_by, faulty_mark, judge_marks, judge_asked, may_rise, flags_of, flagged}

-- a list of marks judged for three borders
abbrev judged : (marks : List ℕ) → Judged ℕ
judged marks = judge_marks 3 marks (Ok 7)

pub anchors : Hold (
    -- 13: no mark; the second of two equal marks, and not the first; a mark beyond the borders
    judged [] is Err (bad_mark 0)  -- none-given
    ∷ judged (0 ∷ 0 ∷ []) is Err (bad_mark 2)  -- twice
    ∷ judged (2 ∷ 0 ∷ 1 ∷ 2 ∷ []) is Err (bad_mark 4)  -- twice-apart
    ∷ judged (5 ∷ []) is Err (bad_mark 1)  -- beyond
    ∷ judged (2 ∷ 3 ∷ 2 ∷ []) is Err (bad_mark 2)  -- just-beyond
    -- any order is good, and all three or one
    ∷ judged (2 ∷ 0 ∷ 1 ∷ []) is Ok 7  -- all-three
    ∷ judged (2 ∷ []) is Ok 7  -- last-alone
    -- which borders may rise
    ∷ marked_by (2 ∷ 0 ∷ []) 0 is true  -- marked
    ∷ marked_by (2 ∷ 0 ∷ []) 1 is false  -- not-marked
    ∷ flags_of 3 false (2 ∷ 0 ∷ []) is (1 ∷ 0 ∷ 1 ∷ [])  -- flags
    ∷ flagged (1 ∷ 0 ∷ 1 ∷ []) 1 is false  -- told
    -- with none asked for, every border, and no 13
    ∷ flags_of 3 true [] is (1 ∷ 1 ∷ 1 ∷ [])  -- every-flag
    ∷ may_rise true [] 2 is true  -- every-border
    ∷ judge_asked {A = ℕ} true 3 [] (Ok 7) is Ok 7  -- not-asked
    ∷ [])
unfolding table first_from given unless refuse_at refuse_first marked_by faulty_mark judge_marks flagged
anchors = refl
