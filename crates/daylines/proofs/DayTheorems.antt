-- What a day's text is to whoever reads it. Nobody cites it: it is the product.
-- (1) its lines are the hours' lines in order, each a label, a tab, and a line of that hour's answer; (2) what stands under a label is that hour's answer, all of it
-- and nothing else, where labels differ: no figure can be taken for another hour's.
use Rattle.std.specs.Prelude.{None, Option, Some}
use mathlib.Core.Path.{◌≡◌, refl, ap, ap₂, ◌∙◌}
use mathlib.Core.Bool.{true}
use mathlib.Core.List.{List, [], ◌∷◌, ◌++◌, map, append-nil}
use Prim.Native.Nat.{ℕ}
use Rattle.text.specs.Fields.{tab}
use Rattle.text.proofs.LineLaws.{HasNoFeed}
use Rattle.corrections.specs.Corrections.{pieces}
use Rattle.daylines.specs.Labelled.{labelled, Ended, gathered, filed}
use Rattle.daylines.specs.Day.{Hour, hour_text, day_text, day_lines}
use Rattle.daylines.proofs.LabelledLaws.{labelled_ended, pieces_append, labelled_pieces}
use Rattle.daylines.proofs.FiledLaws.{NoTab, together, together_pieces, gathered_append, gathered_own, gathered_other}

-- no label has an LF or a tab
abbrev pub Plain : List Hour → Type 0
Plain [] = Unit {0}
Plain (h ∷ hours) = HasNoFeed h.label × NoTab h.label × Plain hours

-- none of the hours has the label
abbrev pub Others : (label : List ℕ) → List Hour → Type 0
Others label [] = Unit {0}
Others label (h ∷ hours) = (label ≡ h.label → ⊥) × Others label hours

module _ (answer : List ℕ → List ℕ) (ended : (text : List ℕ) → Ended true (answer text)) where
  said-ended : (came : Option (List ℕ)) → Ended true (hour_text answer came)
  said-ended None = refl
  said-ended (Some text) = ended text

  -- (1) every line of the day's text is a label, a tab, and a line of that hour's answer; the hours in order, each once
  pub day_lines_lem : (hours : List Hour) → Plain hours → pieces (day_text answer hours) ≡ day_lines answer hours
  day_lines_lem [] plain = refl
  day_lines_lem (h ∷ hours) plain =
      let text = hour_text answer h.came in
      pieces_append true (labelled h.label text) (day_text answer hours) (labelled_ended h.label true text (said-ended h.came))
      ∙ ap₂ (λ (x y : List (List ℕ)). x ++ y) (labelled_pieces h.label plain.0 text) (day_lines_lem hours plain.2)

  -- (2) the lines of the day that begin with an hour's label and a tab are, with these taken off, that hour's answer
  abbrev under : (label : List ℕ) → List (List ℕ) → List ℕ
  under label lines = gathered (label ++ (tab ∷ [])) lines

  module _ (label : List ℕ) (own : NoTab label) where
    others-none : (hours : List Hour) → Plain hours → Others label hours → under label (day_lines answer hours) ≡ []
    others-none [] plain apart = refl
    others-none (h ∷ hours) plain apart =
        let lines = map (λ line. h.label ++ (tab ∷ line)) (pieces (hour_text answer h.came)) in
        gathered_append label (label ++ (tab ∷ [])) lines (day_lines answer hours)
        ∙ ap₂ (λ (x y : List ℕ). x ++ y) (gathered_other h.label label plain.1 own apart.0 (pieces (hour_text answer h.came))) (others-none hours plain.2 apart.1)

  module _ (h : Hour) (after : List Hour) (apart : Others h.label after) where
    lines-filed : (before : List Hour) → Plain (before ++ (h ∷ after)) → Others h.label before → under h.label (day_lines answer (before ++ (h ∷ after))) ≡ hour_text answer h.came
    lines-filed [] plain earlier =
        let text = hour_text answer h.came in
        gathered_append h.label (h.label ++ (tab ∷ [])) (map (λ line. h.label ++ (tab ∷ line)) (pieces text)) (day_lines answer after)
        ∙ ap₂ (λ (x y : List ℕ). x ++ y) (gathered_own h.label (pieces text) ∙ together_pieces text) (others-none h.label plain.1 after plain.2 apart)
        ∙ append-nil text
    lines-filed (g ∷ before) plain earlier =
        let own : NoTab h.label = its_own before plain.2 in
        gathered_append g.label (h.label ++ (tab ∷ [])) (map (λ line. g.label ++ (tab ∷ line)) (pieces (hour_text answer g.came))) (day_lines answer (before ++ (h ∷ after)))
        ∙ ap₂ (λ (x y : List ℕ). x ++ y) (gathered_other g.label h.label plain.1 own earlier.0 (pieces (hour_text answer g.came))) (lines-filed before plain.2 earlier.1)
      where
        its_own : (before : List Hour) → Plain (before ++ (h ∷ after)) → NoTab h.label
        its_own [] plain = plain.1
        its_own (g ∷ before) plain = its_own before plain.2

    pub hour_filed : (before : List Hour) → Plain (before ++ (h ∷ after)) → Others h.label before → filed h.label (day_text answer (before ++ (h ∷ after))) ≡ hour_text answer h.came
    hour_filed before plain earlier = ap (under h.label) (day_lines_lem (before ++ (h ∷ after)) plain) ∙ lines-filed before plain earlier
