-- The laws behind `why` and `why_marked`: which judgement decides, that what was laid out is the table's, and that flags say what marks do. No contract cites this file.
use Rattle.std.specs.Prelude.{Err, Ok, Some}
use mathlib.Core.Path.{◌≡◌, refl, sym, ap, ap₂, ◌∙◌}
use mathlib.Core.Bool.{Bool}
use mathlib.Core.List.{List, [], ◌++◌, append-nil}
use Prim.Native.Nat.{ℕ, ◌+◌, ◌*◌, ◌≤◌, ◌<◌}
use native.Mathlib.Omega.{arith}
use borrow.Author.Tests.{lt-ltb, le-ltb}
use lib.Dec.{ltb}
use lib.IntN.{ℤ}
use lib.ListN.{length, get_or, take, drop, take-append-drop, drop_of_length-le}
use Rattle.numbers.specs.Below.{at, table, over}
use Rattle.limits.specs.Limits.{borders_most}
use Rattle.refusals.specs.declared.Refusal.{Refusal}
use Rattle.refusals.specs.Answers.{said_judgement}
use Rattle.refusals.specs.Refusals.{Judged, then, either, unless, too_short, Ruling}
use Rattle.refusals.proofs.RefusalLaws.{passed_is, then_passed, then_next, then_refused, either_passed, either_refused, unless_ok, unless_refused, need_passed, need_enough, need_short}
use Rattle.types.specs.declared.Header.{Header}
use Rattle.types.specs.Ranges.{is_intraday, border_of}
use Rattle.marks.specs.Marks.{judge_asked, may_rise, flags_of, flagged}
use Rattle.marks.proofs.MarkLaws.{asked_then, flags_tell}
use Rattle.tablerules.specs.Table.{Table, front}
use Rattle.tablerules.specs.Good.{Good}
use Rattle.tablerules.proofs.GoodLaws.{told_judged}
use Rattle.rounds.specs.Rounds.{State}
use Rattle.rounds.specs.AllRounds.{flat}
use Rattle.staterules.specs.Standings.{Standings, standings_of}
use Rattle.setup.specs.Setup.{grid_by, begin_by}
use Rattle.staterules.specs.States.{kept}
use Rattle.extractrules.specs.Start.{every, from_by, grid_marked, table_grid, table_start, judge_marked, setup_of, setup_with}
use Rattle.extractrules.specs.Filled.{froms, cells}
use Rattle.extractrules.proofs.StartLaws.{cells_at, grid_long}
use Rattle.extractrules.proofs.SameMarks.{p_marks, judge_marks_lem}
use Rattle.extractrules.specs.Extraction.{judge_extract}
use Rattle.extractrules.specs.Inner.{grid_with, start_with}
use Rattle.extractrules.proofs.ExtractLaws.{over_taken}
use Rattle.holding.specs.declared.Reasons.{Reasons}
use Rattle.why.specs.Why.{Why, why_by, why_marked, end_record, row_record, reasons_of, no_border, reasons_marked, reasons_for, WhyLeft, leaves, why_room, why_stored, judged_left, why_for}
use Rattle.why.specs.Told.{told}
use Rattle.why.proofs.GridLaws.{same_why}

-- ---- a table whose p at the marked borders and whose margins are laid out
module _ (marked : ℕ → Bool) {t : Table} (good : Good t) {m : Standings} (rows_are : m ≡ standings_of t) {p margins : List ℕ} (p-is : p ≡ cells (grid_marked marked t)) (margins_are : margins ≡ (table_start t).margins) (b : ℕ) (hb : b < t.header.borders) where
  abbrev h : Header
  h = t.header

  froms-are : froms (is_intraday h) t.borders ≡ (table_start t).x
  unfolding begin_by setup_with
  froms-are = ap (λ (n : ℕ). table n (λ k. from_by (is_intraday h) (border_of (get_or t.borders k [])))) good.exact.borders_long

  -- the flat table of p agrees with the grid at every row and border
  p-at : (i c : ℕ) → i < h.rows → c < h.borders → (flat h.rows h.borders p).p i c ≡ (grid_marked marked t).p i c
  unfolding grid_by setup_with
  p-at i c l k = ap (λ (ps : List ℕ). at ps (i * h.borders + c)) p-is ∙ cells_at (grid_marked marked t) i c l k

  -- the reasons, but for their p, which is that of the marked borders
  why-is : why_by h m.states p (grid_with h p) (start_with h t.borders margins) b ≡ why_by h (standings_of t).states p (grid_marked marked t) (table_start t) b
  unfolding grid_by setup_with
  why-is =
      ap {B = Why} (λ (n : Standings). why_by h n.states p (grid_with h p) (start_with h t.borders margins) b) rows_are
      ∙ ap {B = Why} (λ (s : State). why_by h (standings_of t).states p (grid_with h p) s b) (ap₂ {C = State} (λ (ms xs : List ℕ). record { margins = ms; x = xs }) margins_are froms-are)
      ∙ same_why h _ _ p-at b hb (standings_of t).states p (table_start t)

  -- with p of every border they are the table's; a lent table of p of just that length is filled
  pub stored_is : (ps : List ℕ) → length ps ≡ h.rows * h.borders → (ends rows : List (List ℤ)) {ends' rows' : List (List ℤ)} (r : Reasons)
      → leaves (Ok r) p ends' rows' ≡ told ends rows (why_by h m.states p (grid_with h p) (start_with h t.borders margins) b)
      → {whole : List ℕ} → whole ≡ cells (table_grid t) → leaves (Ok r) whole ends' rows' ≡ why_stored ps ends rows (why_marked marked t b)
  unfolding why_marked end_record row_record reasons_of
  stored_is ps long ends rows r e {whole} whole_is =
      let stored : Why → List ℕ → WhyLeft =
      λ w v. leaves (Ok (reasons_of w)) v (over (table w.header.borders (end_record w)) ends) (over (table w.header.rows (row_record w)) rows) in
      ap (λ (l : WhyLeft). leaves l.answer whole l.ends l.rows) e
      ∙ ap (λ (w : Why). stored w whole) why-is
      ∙ ap (stored (why_marked marked t b)) (whole_is ∙ sym (ap (λ (old : List ℕ). cells (table_grid t) ++ old) (drop_of_length-le ps {i = length (cells (table_grid t))} (omega (arith, long, whole_long))) ∙ append-nil _))
    where
      whole_long : length (cells (table_grid t)) ≡ h.rows * h.borders
      whole_long = grid_long every t refl

-- ---- which judgement decides, of what was judged
module _ (ps : List ℕ) (ends rows : List (List ℤ)) where
  pub left_refused : {j : Judged Why} {w : Refusal} → j ≡ Err w → leaves (Err w) ps ends rows ≡ judged_left j ps ends rows
  unfolding judged_left
  left_refused e = sym (either_refused _ _ (then_refused _ e))

  module _ {j : Judged Why} {w : Why} (e : j ≡ Ok w) where
    pub left_short_ends : length ends < w.header.borders → leaves (Err (too_short w.header.borders)) ps ends rows ≡ judged_left j ps ends rows
    unfolding judged_left
    left_short_ends l = sym (either_refused _ _ (then_next _ e ∙ need_short _ _ _ l))

    pub left_short_rows : w.header.borders ≤ length ends → length rows < w.header.rows → leaves (Err (too_short w.header.rows)) ps ends rows ≡ judged_left j ps ends rows
    unfolding judged_left
    left_short_rows k l = sym (either_refused _ _ (then_next _ e ∙ need_enough _ _ _ k ∙ need_short _ _ _ l))

    pub left_stored : w.header.borders ≤ length ends → w.header.rows ≤ length rows → why_stored ps ends rows w ≡ judged_left j ps ends rows
    unfolding judged_left
    left_stored k l = sym (either_passed _ _ (then_next _ e ∙ need_enough _ _ _ k ∙ need_enough _ _ _ l))

-- what is left of a judged table
module _ (marked : ℕ → Bool) (t : Table) (b : ℕ) where
  pub start_refused : {w : Refusal} → judge_marked marked t ≡ Err w → reasons_marked marked t b ≡ Err w
  unfolding reasons_marked
  start_refused e = then_refused _ e

  pub start_passed : {states : List ℕ} → judge_marked marked t ≡ Ok states → reasons_marked marked t b ≡ Ok (why_marked marked t b)
  unfolding reasons_marked
  start_passed e = then_next _ e

  module _ (ps : List ℕ) (ends rows : List (List ℤ)) {states : List ℕ} (e : judge_marked marked t ≡ Ok states) where
    pub short_ends : length ends < t.header.borders → leaves (Err (too_short t.header.borders)) ps ends rows ≡ judged_left (reasons_marked marked t b) ps ends rows
    unfolding why_marked
    short_ends l = left_short_ends ps ends rows (start_passed e) l

    pub short_rows : t.header.borders ≤ length ends → length rows < t.header.rows → leaves (Err (too_short t.header.rows)) ps ends rows ≡ judged_left (reasons_marked marked t b) ps ends rows
    unfolding why_marked
    short_rows k l = left_short_rows ps ends rows (start_passed e) k l

    pub all_stored : t.header.borders ≤ length ends → t.header.rows ≤ length rows → why_stored ps ends rows (why_marked marked t b) ≡ judged_left (reasons_marked marked t b) ps ends rows
    unfolding why_marked
    all_stored k l = left_stored ps ends rows (start_passed e) k l

-- what is left where the lent table of p is longer than the front that was worked on
module _ (marked : ℕ → Bool) (t : Table) (b : ℕ) (n : ℕ) (is : n ≡ t.header.rows * t.header.borders) (ps : List ℕ) (enough : n ≤ length ps) (ends rows : List (List ℤ)) where
  abbrev longer : WhyLeft → WhyLeft
  longer l = leaves l.answer (l.p ++ drop n ps) l.ends l.rows

  longer-is : (j : Judged Why) → then (reasons_marked marked t b) (why_room ends rows) ≡ j
      → longer (either j (why_stored (take n ps) ends rows) (λ w. leaves (Err w) (take n ps) ends rows)) ≡ either j (why_stored ps ends rows) (λ w. leaves (Err w) ps ends rows)
  unfolding either why_marked reasons_marked
  longer-is (Err w) e = ap (λ (v : List ℕ). leaves (Err w) v ends rows) (take-append-drop n ps)
  longer-is (Ok r) e =
      let o = then_passed (reasons_marked marked t b) (why_room ends rows) r e in
      let c = need_passed r _ _ _ (need_passed r _ _ _ o.second).1 in
      let k : why_marked marked t b ≡ r = passed_is _ _ (then_passed (judge_marked marked t) (λ states. Ok (why_marked marked t b)) o.it o.first).second ∙ passed_is _ _ c.1 in
      ap (λ (v : List ℕ). leaves (Ok (reasons_of r)) v (why_stored ps ends rows r).ends (why_stored ps ends rows r).rows)
      (over_taken n ps enough r.p (sym (ap (λ (v : Why). length v.p) k) ∙ grid_long every t refl ∙ sym is))

  pub front_left : {l : WhyLeft} → l ≡ judged_left (reasons_marked marked t b) (take n ps) ends rows → longer l ≡ judged_left (reasons_marked marked t b) ps ends rows
  unfolding judged_left
  front_left e = ap longer e ∙ longer-is (then (reasons_marked marked t b) (why_room ends rows)) refl

-- ---- marks that agree on the borders
module _ (m m' : ℕ → Bool) (t : Table) (e : (b : ℕ) → b < t.header.borders → m b ≡ m' b) (b : ℕ) (hb : b < t.header.borders) where
  judge-agree : judge_marked m t ≡ judge_marked m' t
  unfolding setup_with
  judge-agree = judge_marks_lem (setup_of kept m' t) m e (standings_of t).states

  p-agree : (i c : ℕ) → i < t.header.rows → c < t.header.borders → (grid_marked m t).p i c ≡ (grid_marked m' t).p i c
  unfolding setup_with
  p-agree i c hi hc = p_marks (setup_of kept m' t) m e i c hc

  why-agree : why_marked m t b ≡ why_marked m' t b
  unfolding why_marked grid_by setup_with
  why-agree = same_why t.header _ _ p-agree b hb (standings_of t).states (cells (table_grid t)) (table_start t)

  pub reasons_agree : reasons_marked m t b ≡ reasons_marked m' t b
  unfolding reasons_marked
  reasons_agree = ap₂ (λ (j : Judged (List ℕ)) (w : Why). then j (λ states. Ok w)) judge-agree why-agree

-- ---- reasons that were asked for: the marks, then the border, then those of the borders that the flags tell
module _ (all : Bool) (marks : List ℕ) (t : Table) (b : ℕ) (j : Ruling) (told : said_judgement j marks ≡ judge_asked all t.header.borders marks (Ok marks)) where
  pub for_refused : {w : Refusal} → j ≡ Err w → reasons_for all marks t b ≡ Err w
  unfolding reasons_for
  for_refused e = sym (asked_then all t.header.borders marks marks _) ∙ then_refused _ (sym told ∙ ap (λ (v : Ruling). said_judgement v marks) e)

  module _ (e : j ≡ (Ok tt)) where
    past-marks : reasons_for all marks t b ≡ unless (ltb b t.header.borders) (no_border t.header.borders) (reasons_marked (may_rise all marks) t b)
    unfolding reasons_for
    past-marks = sym (asked_then all t.header.borders marks marks _) ∙ then_next _ (sym told ∙ ap (λ (v : Ruling). said_judgement v marks) e)

    pub for_no_border : t.header.borders ≤ b → reasons_for all marks t b ≡ Err (no_border t.header.borders)
    for_no_border l = past-marks ∙ unless_refused _ _ (le-ltb b t.header.borders l)

    pub for_passed : b < t.header.borders → t.header.borders ≤ borders_most → {flags : List ℕ} → flags ≡ flags_of borders_most all marks
        → reasons_marked (flagged (take t.header.borders flags)) t b ≡ reasons_for all marks t b
    for_passed l few {flags} f =
        reasons_agree (flagged (take t.header.borders flags)) (may_rise all marks) t (flags_tell all marks t.header.borders f few) b l
        ∙ sym (past-marks ∙ unless_ok _ _ (lt-ltb b t.header.borders l))

-- ---- lent tables
module _ (all : Bool) (marks : List ℕ) (given : Table) (b : ℕ) (ps : List ℕ) (ends rows : List (List ℤ)) (r : Ruling) (said : said_judgement r (front given) ≡ judge_extract given (length ps)) where
  pub lent_refused : (w : Refusal) → r ≡ Err w → leaves (Err w) ps ends rows ≡ why_for all marks given b ps ends rows
  unfolding why_for
  lent_refused w e = left_refused ps ends rows (then_refused _ (sym said ∙ ap (λ (j : Ruling). said_judgement j (front given)) e))

  pub lent_passed : r ≡ (Ok tt) → judged_left (reasons_for all marks (front given) b) ps ends rows ≡ why_for all marks given b ps ends rows
  unfolding why_for
  lent_passed e = ap (λ (j : Judged Why). judged_left j ps ends rows) (sym (then_next _ (told_judged (Some (length ps)) given r said e)))
