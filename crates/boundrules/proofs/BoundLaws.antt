-- The laws of `specs/Bound.antt`: which judgement decides, what was laid out is the table's, with small margins, and that flags say what marks do. No contract cites this file.
use Rattle.std.specs.Prelude.{Err, Ok, None}
use mathlib.Core.Path.{◌≡◌, refl, sym, ap, ap₂, ◌∙◌}
use mathlib.Core.Bool.{Bool, true}
use mathlib.Core.List.{List, []}
use Prim.Native.Nat.{ℕ, ◌+◌, ◌*◌, ◌≤◌, ◌<◌}
use native.Mathlib.Omega.{arith}
use lib.IntN.{ℤ}
use lib.ListN.{length, take}
use Rattle.numbers.specs.Below.{at}
use Rattle.numbers.proofs.BelowLaws.{table_long}
use Rattle.limits.specs.Limits.{borders_most}
use Rattle.refusals.specs.declared.Refusal.{Refusal}
use Rattle.refusals.specs.Answers.{said_judgement}
use Rattle.refusals.specs.Refusals.{Judged, then, Ruling}
use Rattle.refusals.proofs.RefusalLaws.{then_next, then_refused}
use Rattle.marks.specs.Marks.{judge_asked, may_rise, flags_of, flagged}
use Rattle.marks.proofs.MarkLaws.{asked_then, flags_tell}
use Rattle.tablerules.specs.Table.{Table, front, judge_lent}
use Rattle.tablerules.specs.Good.{Good}
use Rattle.tablerules.proofs.GoodLaws.{told_judged}
use Rattle.rounds.specs.AllRounds.{flat}
use Rattle.marginrules.specs.Magnitudes.{start_bits}
use Rattle.marginrules.proofs.Small.{named_values_small}
use Rattle.staterules.specs.Standings.{standings_of}
use Rattle.setup.specs.Setup.{grid_by, begin_by}
use Rattle.staterules.specs.States.{kept}
use Rattle.extractrules.specs.Start.{grid_marked, table_start, judge_marked, setup_of, setup_with}
use Rattle.extractrules.specs.Filled.{cells}
use Rattle.extractrules.proofs.StartLaws.{cells_at, PreparedAs}
use Rattle.extractrules.proofs.SameMarks.{p_marks, judge_marks_lem}
use Rattle.extractrules.proofs.AcceptedLaws.{small_start}
use Rattle.tightrules.specs.declared.RoundsMost.{RoundsMost}
use Rattle.tightrules.specs.Measure.{bound_by}
use Rattle.tightrules.specs.Pass.{Small}
use Rattle.tightrules.proofs.SameLaws.{same_bound}
use Rattle.boundrules.specs.Bound.{bound_of, bound_marked, bound_asked, bound_for}

-- ---- a judged table
module _ {marked : ℕ → Bool} {t : Table} {r : Ruling} {rams starts : List ℤ} {states : List ℕ} (said : PreparedAs marked t r rams starts states) where
  pub start_refused : (w : Refusal) → r ≡ Err w → Err w ≡ bound_marked marked t
  unfolding bound_marked
  start_refused w e = sym (then_refused _ (sym said.judged ∙ ap (λ (j : Ruling). said_judgement j states) e))

  pub start_passed : r ≡ (Ok tt) → Ok (bound_of marked t) ≡ bound_marked marked t
  unfolding bound_marked
  start_passed e = sym (then_next _ (sym said.judged ∙ ap (λ (j : Ruling). said_judgement j states) e))

-- a starting margin for each row
pub start_long : (t : Table) → length (table_start t).margins ≡ t.header.rows
unfolding begin_by setup_with
start_long t = table_long t.header.rows _

-- starting margins are under 2^49, so that sums with them fit
pub start_small : {t : Table} → Good t → {margins : List ℕ} → margins ≡ (table_start t).margins → Small margins
start_small {t} good {margins} e i h =
    let here : i < t.header.rows = omega (arith, ap length e, start_long t) in
    omega (arith, ap (λ (m : List ℕ). at m i) e, small_start t start_bits (λ j l. (named_values_small good j l).start) i here)

-- what was laid out gives the table's bound
pub laid_bound : (marked : ℕ → Bool) (t : Table) {p margins : List ℕ} → p ≡ cells (grid_marked marked t) → margins ≡ (table_start t).margins → bound_by (flat t.header.rows t.header.borders p) margins ≡ bound_of marked t
unfolding grid_by setup_with
laid_bound marked t {p} {margins} e d =
    ap (bound_by (flat t.header.rows t.header.borders p)) d
    ∙ same_bound t.header.rows t.header.borders _ (grid_marked marked t).p
    (λ i b hi hb. ap (λ (ps : List ℕ). at ps (i * t.header.borders + b)) e ∙ cells_at (grid_marked marked t) i b hi hb) (table_start t).margins

-- ---- marks that agree on the borders
module _ (m m' : ℕ → Bool) (t : Table) (e : (b : ℕ) → b < t.header.borders → m b ≡ m' b) where
  judge-agree : judge_marked m t ≡ judge_marked m' t
  unfolding setup_with
  judge-agree = judge_marks_lem (setup_of kept m' t) m e (standings_of t).states

  p-agree : (i b : ℕ) → b < t.header.borders → (grid_marked m t).p i b ≡ (grid_marked m' t).p i b
  unfolding setup_with
  p-agree i b hb = p_marks (setup_of kept m' t) m e i b hb

  bound-agree : bound_of m t ≡ bound_of m' t
  unfolding grid_by setup_with
  bound-agree = same_bound t.header.rows t.header.borders (grid_marked m t).p (grid_marked m' t).p (λ i b hi hb. p-agree i b hb) (table_start t).margins

  pub marked_agree : bound_marked m t ≡ bound_marked m' t
  unfolding bound_marked
  marked_agree = ap₂ (λ (j : Judged (List ℕ)) (b : RoundsMost). then j (λ states. Ok b)) judge-agree bound-agree

-- ---- which judgement decides, of lent tables
module _ (all : Bool) (marks : List ℕ) (given : Table) (r : Ruling) (said : said_judgement r (front given) ≡ judge_lent given) where
  pub lent_refused : (w : Refusal) → r ≡ Err w → Err w ≡ bound_for all marks given
  unfolding bound_for
  lent_refused w e = sym (then_refused _ (sym said ∙ ap (λ (j : Ruling). said_judgement j (front given)) e))

  pub lent_bound : r ≡ (Ok tt) → bound_asked all marks (front given) ≡ bound_for all marks given
  unfolding bound_for
  lent_bound e = sym (then_next _ (told_judged None given r said e))

-- ---- which judgement decides, of a table as it was asked for: the marks, and then the bound of the borders whose flags are set
module _ (all : Bool) (marks : List ℕ) (t : Table) (j : Ruling) (told : said_judgement j marks ≡ judge_asked all t.header.borders marks (Ok marks)) where
  pub marks_refused : (w : Refusal) → j ≡ Err w → Err w ≡ bound_asked all marks t
  marks_refused w e = sym (sym (asked_then all t.header.borders marks marks _) ∙ then_refused _ (sym told ∙ ap (λ (v : Ruling). said_judgement v marks) e))

  pub marks_passed : j ≡ (Ok tt) → t.header.borders ≤ borders_most → {flags : List ℕ} → flags ≡ flags_of borders_most all marks → bound_marked (flagged (take t.header.borders flags)) t ≡ bound_asked all marks t
  marks_passed e few {flags} f =
      marked_agree (flagged (take t.header.borders flags)) (may_rise all marks) t (flags_tell all marks t.header.borders f few)
      ∙ sym (sym (asked_then all t.header.borders marks marks _) ∙ then_next _ (sym told ∙ ap (λ (v : Ruling). said_judgement v marks) e))

-- with no list, no marks are looked at
pub none_looked_at : (marks : List ℕ) (given : Table) → bound_for true marks given ≡ bound_for true [] given
unfolding bound_for
none_looked_at marks given = refl
