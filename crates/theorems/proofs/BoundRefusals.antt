-- `bound` turns away what the extraction turns away, with the same number and place: a table, or marks, and nothing else. The extraction besides asks for room.
use Rattle.std.specs.Prelude.{Err, Ok}
use mathlib.Core.Path.{◌≡◌, refl, sym, ap, ◌∙◌}
use mathlib.Core.Bool.{Bool}
use mathlib.Core.List.{List}
use Prim.Native.Nat.{ℕ, ◌*◌, ◌≤◌}
use lib.IntN.{ℤ}
use lib.ListN.{length}
use Rattle.limits.specs.Limits.{borders_most, rows_most}
use Rattle.refusals.specs.declared.Refusal.{Refusal}
use Rattle.refusals.specs.Refusals.{Judged, then}
use Rattle.refusals.proofs.RefusalLaws.{refused_is, not_passed, either_passed, either_refused}
use Rattle.marks.specs.Marks.{judge_asked, may_rise}
use Rattle.marks.proofs.MarkLaws.{asked_then}
use Rattle.tablerules.specs.Table.{Table, judge_lent}
use Rattle.extractrules.specs.Start.{judge_marked}
use Rattle.extractrules.specs.Extraction.{Result, outcome_marked, outcome_for, ExtractLeft, extract_for}
use Rattle.extractrules.proofs.LentLaws.{extract_roomy}
use Rattle.boundrules.specs.Bound.{bound_marked, bound_for}

-- a judgement without what passed
forget : {A : Type 0} → Judged A → Judged (Unit {0})
forget (Ok a) = Ok tt
forget (Err w) = Err w

forget_refused : {A : Type 0} (j : Judged A) (w : Refusal) → forget j ≡ Err w → j ≡ Err w
unfolding forget
forget_refused (Ok a) w e = absurd (not_passed w (tt {0}) (sym e))
forget_refused (Err v) w e = ap Err (refused_is v w e)

-- what follows a judgement, and passes, does not matter
then_alike : {A B C : Type 0} (j : Judged A) (f : A → Judged B) (g : A → Judged C) → ((a : A) → forget (f a) ≡ forget (g a)) → forget (then j f) ≡ forget (then j g)
unfolding forget then
then_alike (Ok a) f g e = e a
then_alike (Err w) f g e = refl

module _ (all : Bool) (marks : List ℕ) where
  table-alike : (t : Table) → forget (judge_asked all t.header.borders marks (bound_marked (may_rise all marks) t)) ≡ forget (outcome_for all marks t)
  unfolding outcome_for outcome_marked bound_marked forget
  table-alike t =
      let asked : Judged (List ℕ) = judge_asked all t.header.borders marks (Ok marks) in
      ap forget (sym (asked_then all t.header.borders marks marks (bound_marked (may_rise all marks) t)))
      ∙ then_alike asked _ _ (λ a. then_alike (judge_marked (may_rise all marks) t) _ _ (λ states. refl))
      ∙ ap forget (asked_then all t.header.borders marks marks (outcome_marked (may_rise all marks) t))

  module _ (given : Table) where
    alike : forget (bound_for all marks given) ≡ forget (then (judge_lent given) (outcome_for all marks))
    unfolding bound_for
    alike = then_alike (judge_lent given) _ _ table-alike

    -- with room for the largest table
    module _ (ps : List ℕ) (atcs lefts : List (List ℤ)) (hp : rows_most * borders_most ≤ length ps) (hb : borders_most ≤ length atcs) (hr : rows_most ≤ length lefts) (w : Refusal) where
      pub refused_too : bound_for all marks given ≡ Err w → (extract_for all marks given ps atcs lefts).answer ≡ Err w
      unfolding forget
      refused_too e =
          let o : then (judge_lent given) (outcome_for all marks) ≡ Err w = forget_refused _ w (sym alike ∙ ap forget e) in
          ap (λ (l : ExtractLeft). l.answer) (extract_roomy all marks given ps atcs lefts hp hb hr ∙ either_refused _ _ o)

      pub refused_before : (extract_for all marks given ps atcs lefts).answer ≡ Err w → bound_for all marks given ≡ Err w
      unfolding forget
      refused_before e = go (then (judge_lent given) (outcome_for all marks)) refl
        where
          go : (j : Judged Result) → then (judge_lent given) (outcome_for all marks) ≡ j → bound_for all marks given ≡ Err w
          go (Ok r) q =
              absurd (not_passed w _ (sym e ∙ ap (λ (l : ExtractLeft). l.answer) (extract_roomy all marks given ps atcs lefts hp hb hr ∙ either_passed _ _ q)))
          go (Err v) q =
              let same : v ≡ w = refused_is v w (sym (ap (λ (l : ExtractLeft). l.answer) (extract_roomy all marks given ps atcs lefts hp hb hr ∙ either_refused _ _ q)) ∙ e) in
              forget_refused _ w (alike ∙ ap forget (q ∙ ap Err same))
