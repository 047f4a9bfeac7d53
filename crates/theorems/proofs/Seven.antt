-- 01: if CVA and IVA are 0 in every row, refusal 7 isn't given; 02, E12: nor of any intraday table. Of the judgement of a table, of its outcome, and of what the calls
-- on lent tables answer, of every border or with marks.
use Rattle.std.specs.Prelude.{Err, None, Ok, Option, Some}
use mathlib.Core.Path.{◌≡◌, refl, sym, ap, subst, ◌∙◌}
use mathlib.Core.Bool.{Bool, true, false, ◌&&◌, not}
use mathlib.Core.List.{List, []}
use Prim.Native.Nat.{ℕ, ◌<◌}
use native.Mathlib.Omega.{arith}
use lib.IntN.{ℤ, pos}
use lib.ListN.{length, get_or, take}
use lib.Seq.{get_or-take}
use lib.Signed.{lt_z}
use Rattle.numbers.specs.Below.{first_from, some_below}
use Rattle.numbers.proofs.BelowLaws.{first_nothing, table_get}
use Rattle.refusals.specs.Refusals.{Judged, then, either, unless, refuse_at, refuse_first, no_row, unlimited, below_zero}
use Rattle.types.specs.Ranges.{is_intraday, default_of, row_of}
use Rattle.marks.specs.Marks.{judge_marks, judge_asked, may_rise}
use Rattle.tablerules.specs.Table.{Table, row_at, factors_at, front, room_for, in_range, not_twice, judge_shape, judge_records, judge_for, judge_lent}
use Rattle.tablerules.proofs.GoodLaws.{judged_front}
use Rattle.marginrules.specs.Margin.{s_at, ram_at, start_by, margin_of}
use Rattle.marginrules.proofs.MarginLaws.{start_not_negative}
use Rattle.setup.specs.Setup.{Setup, free_by, low_by, judge_by}
use Rattle.staterules.specs.States.{kept}
use Rattle.extractrules.specs.Start.{judge_marked, setup_of, setup_with}
use Rattle.extractrules.specs.Extraction.{Result, outcome_marked, outcome_for, judge_extract, leaves, result_room, result_stored, extract_for}
use Rattle.extractrules.proofs.LentLaws.{judged_lent}
use Rattle.promises.specs.Seven.{NotSeven, NoReductions}
use Rattle.promises.specs.Taking.{outcome_in, result_in}
use Rattle.theorems.proofs.ToldLaws.{Told, told_passed, told_then, told_unless, told_first, told_need}

-- a refusal of another number
abbrev pub Other : ℕ → Type 0
Other n = n ≡ 7 → ⊥

told_other : {A : Type 0} (j : Judged A) → NotSeven j → Told Other j
told_other (Ok a) n = record { says = tt }
told_other (Err w) n = record { says = n }

pub not_seven : {A : Type 0} (j : Judged A) → Told Other j → NotSeven j
not_seven (Ok a) n = tt
not_seven (Err w) n = n.says

-- ---- a setup in which no row that takes part starts below 0, or where that is not refused
none_low : {A : Type 0} (s : Setup) (a : A) → ((i : ℕ) → i < s.rows → (s.strict && lt_z (s.margin i) (pos 0)) ≡ false) → NotSeven (judge_by s a)
unfolding judge_by refuse_first unless refuse_at
none_low {A} s a h =
    subst (λ (o : Option ℕ). NotSeven (unless (some_below s.rows s.takes) no_row (refuse_at (first_from s.borders 0 (free_by s)) unlimited (refuse_at o below_zero (Ok a)))))
    (sym (first_nothing s.rows (low_by s) (λ i l. and_right (s.takes i) _ (h i l))))
    (go (some_below s.rows s.takes) (first_from s.borders 0 (free_by s)))
  where
    and_right : (c d : Bool) → d ≡ false → (c && d) ≡ false
    and_right true d e = e
    and_right false d e = refl

    go : (k : Bool) (o : Option ℕ) → NotSeven (unless k no_row (refuse_at o unlimited (refuse_at None below_zero (Ok a))))
    go true None = tt
    go true (Some b) = λ e. omega arith
    go false o = λ e. omega arith

-- a table in which no row starts below 0, or whose profile allows that, whichever rows take part and whichever borders are marked
table_none_low : {A : Type 0} (takes : List ℕ → ℕ → Bool) (marked : ℕ → Bool) (t : Table) (a : A)
    → ((i : ℕ) → i < t.header.rows → (not (is_intraday t.header) && lt_z (margin_of t i) (pos 0)) ≡ false) → NotSeven (judge_by (setup_of takes marked t) a)
unfolding setup_with
table_none_low takes marked t a h =
    none_low (setup_of takes marked t) a (λ i l. ap (λ (z : ℤ). not (is_intraday t.header) && lt_z z (pos 0)) (table_get t.header.rows (margin_of t) i (pos 0) l) ∙ h i l)

-- 7 isn't given of an intraday table
pub intraday_not_seven : (takes : List ℕ → ℕ → Bool) (marked : ℕ → Bool) (t : Table) → is_intraday t.header ≡ true → NotSeven (outcome_in takes marked t)
unfolding outcome_in
intraday_not_seven takes marked t late =
    table_none_low takes marked t (result_in takes marked t) (λ i h. ap (λ (v : Bool). not v && lt_z (margin_of t i) (pos 0)) late)

-- ---- CVA and IVA 0 in every row
module _ (t : Table) (none-taken : NoReductions t) (marked : ℕ → Bool) where
  margin-above : (i : ℕ) → i < t.header.rows → (not (is_intraday t.header) && lt_z (margin_of t i) (pos 0)) ≡ false
  unfolding ram_at
  margin-above i h = go (is_intraday t.header)
    where
      go : (k : Bool) → (not k && lt_z (start_by k (ram_at t i) (s_at t.header t.borders t.factors i) (factors_at t i) t.allocated) (pos 0)) ≡ false
      go true = refl
      go false = start_not_negative (default_of t.header) (row_at t i) _ _ (none-taken.cva i h) (none-taken.iva i h)

  pub judged_not_7 : Told Other (judge_marked marked t)
  judged_not_7 = told_other (judge_marked marked t) (table_none_low kept marked t _ margin-above)

  outcome_told : Told Other (outcome_marked marked t)
  unfolding outcome_marked
  outcome_told = told_then (judge_marked marked t) _ judged_not_7 (λ states e. told_passed _)

  pub no_refusal_7 : NotSeven (outcome_marked marked t)
  no_refusal_7 = not_seven (outcome_marked marked t) outcome_told

-- ---- what comes before it: 1 to 4, 8 and 13
-- judging marks gives 13 alone
pub asked_not_7 : {A : Type 0} (all : Bool) (borders : ℕ) (marks : List ℕ) (next : Judged A) → Told Other next → Told Other (judge_asked all borders marks next)
unfolding judge_marks
asked_not_7 true borders marks next n = n
asked_not_7 false borders marks next n = told_unless _ _ _ (λ e. omega arith) (told_first _ _ _ _ (λ k e. omega arith) n)

-- judging lent tables gives 3, 8 and 4 alone
shape_not_7 : (given : Table) → Told Other (judge_shape given)
unfolding judge_shape room_for
shape_not_7 given =
    told_unless _ _ _ (λ e. omega arith)
    (told_need _ _ _ (λ e. omega arith) (told_need _ _ _ (λ e. omega arith) (told_need _ _ _ (λ e. omega arith) (told_need _ _ _ (λ e. omega arith) (told_need _ _ _ (λ e. omega arith) (told_passed _))))))

records_not_7 : (t : Table) → Told Other (judge_records t)
records_not_7 t =
    told_then (in_range t) not_twice
    (told_first _ _ _ _ (λ i e. omega arith) (told_first _ _ _ _ (λ i e. omega arith) (told_unless _ _ _ (λ e. omega arith) (told_first _ _ _ _ (λ i e. omega arith) (told_first _ _ _ _ (λ i e. omega arith) (told_passed _))))))
    (λ u v. told_first _ _ _ _ (λ i e. omega arith) (told_passed _))

pub lent_not_7 : (given : Table) → Told Other (judge_lent given)
unfolding judge_for
lent_not_7 given = told_then (judge_shape given) judge_records (shape_not_7 given) (λ t e. records_not_7 t)

-- ---- the outcome as asked, and what `extract` and `extract_marked` answer
pub asked_outcome : (all : Bool) (marks : List ℕ) (t : Table) → NoReductions t → Told Other (outcome_for all marks t)
unfolding outcome_for
asked_outcome all marks t none-taken = asked_not_7 all t.header.borders marks _ (outcome_told t none-taken (may_rise all marks))

-- the front of lent tables has the same rows
pub front_reductions : (given : Table) → NoReductions given → NoReductions (front given)
front_reductions given none-taken =
    record {
      cva = λ i h. same_row i h (λ (x : List ℤ). (row_of x).cva) (none-taken.cva i h);
      iva = λ i h. same_row i h (λ (x : List ℤ). (row_of x).iva) (none-taken.iva i h);
    }
  where
    same_row : (i : ℕ) → i < given.header.rows → (f : List ℤ → ℤ) → f (get_or given.rows i []) ≡ pos 0 → f (get_or (take given.header.rows given.rows) i []) ≡ pos 0
    same_row i h f e = ap f (get_or-take given.header.rows given.rows i [] h) ∙ e

pub extract_not_7 : (all : Bool) (marks : List ℕ) (given : Table) (ps : List ℕ) (atcs lefts : List (List ℤ)) → NoReductions given → NotSeven (extract_for all marks given ps atcs lefts).answer
unfolding extract_for judge_for either
extract_not_7 all marks given ps atcs lefts none-taken =
    go (then (judge_extract given (length ps)) (λ t. then (outcome_for all marks t) (result_room atcs lefts)))
    (told_then (judge_extract given (length ps)) _
    (told_then (judge_shape given) _ (shape_not_7 given) (λ t e. told_need _ _ _ (λ q. omega arith) (records_not_7 t)))
    (λ t e.
    told_then (outcome_for all marks t) (result_room atcs lefts)
    (asked_outcome all marks t (subst NoReductions (sym (judged_front given t (judged_lent given t (length ps) e))) (front_reductions given none-taken)))
    (λ r q. told_need _ _ _ (λ e. omega arith) (told_need _ _ _ (λ e. omega arith) (told_passed r)))))
  where
    go : (j : Judged Result) → Told Other j → NotSeven (either j (result_stored ps atcs lefts) (λ w. leaves (Err w) ps atcs lefts)).answer
    go (Ok r) n = tt
    go (Err w) n = n.says
