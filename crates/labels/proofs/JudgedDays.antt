-- What a day's text is to whoever reads it, of labels as they are judged. Nobody cites it: it is the product.
use mathlib.Core.Path.{◌≡◌, sym, ap, ◌∙◌}
use mathlib.Core.Bool.{Bool, true, false≢true, not}
use mathlib.Core.List.{List, [], ◌∷◌, ◌++◌}
use Prim.Native.Nat.{ℕ}
use lib.Dec.{leb, ltb}
use lib.ListN.{length}
use Rattle.arguments.specs.Same.{same_bytes}
use Rattle.arguments.proofs.SameLaws.{is_same}
use Rattle.daylines.specs.Room.{label_most}
use Rattle.daylines.specs.Labelled.{Ended, filed}
use Rattle.daylines.specs.Day.{Hour, hour_text, day_text}
use Rattle.daylines.proofs.DayTheorems.{Plain, Others, hour_filed}
use Rattle.labels.specs.Labels.{label_bytes, label_text, is_label, labels_good, none_same, labels_apart}
use Rattle.labels.proofs.LabelLaws.{both, plain_bytes}

-- ---- labels that are good have neither a tab nor an LF
good_plain : (sheet : Bool) (hours : List Hour) → labels_good sheet hours ≡ true → Plain hours
unfolding label_text
good_plain sheet [] e = tt
good_plain sheet (h ∷ hours) e =
    let p = both (is_label sheet h.label) (labels_good sheet hours) e in
    let text = both (label_text sheet h.label) (leb (length h.label) label_most) p.0 in
    let bytes = plain_bytes sheet h.label (both (ltb 0 (length h.label)) (label_bytes sheet h.label) text.0).1 in
    (bytes.0, bytes.1, good_plain sheet hours p.1)

-- ---- labels that are told apart differ
differ : (x y : List ℕ) → not (same_bytes x y) ≡ true → x ≡ y → ⊥
differ x y e q = false≢true (sym (ap not (is_same x y q)) ∙ e)

none_others : (label : List ℕ) (hours : List Hour) → none_same label hours ≡ true → Others label hours
none_others label [] e = tt
none_others label (h ∷ hours) e =
    let p = both (not (same_bytes label h.label)) (none_same label hours) e in
    (differ label h.label p.0, none_others label hours p.1)

module _ (h : Hour) (after : List Hour) where
  none-at : (label : List ℕ) (before : List Hour) → none_same label (before ++ (h ∷ after)) ≡ true → label ≡ h.label → ⊥
  none-at label [] e = differ label h.label (both (not (same_bytes label h.label)) (none_same label after) e).0
  none-at label (g ∷ before) e = none-at label before (both (not (same_bytes label g.label)) (none_same label (before ++ (h ∷ after))) e).1

  apart-after : (before : List Hour) → labels_apart (before ++ (h ∷ after)) ≡ true → Others h.label after
  apart-after [] e = none_others h.label after (both (none_same h.label after) (labels_apart after) e).0
  apart-after (g ∷ before) e = apart-after before (both (none_same g.label (before ++ (h ∷ after))) (labels_apart (before ++ (h ∷ after))) e).1

  apart-before : (before : List Hour) → labels_apart (before ++ (h ∷ after)) ≡ true → Others h.label before
  apart-before [] e = tt
  apart-before (g ∷ before) e =
      let p = both (none_same g.label (before ++ (h ∷ after))) (labels_apart (before ++ (h ∷ after))) e in
      ((λ q. none-at g.label before p.0 (sym q)), apart-before before p.1)

-- Where every label is judged good and none the same as another, the lines of a day that begin with an hour's label and a tab are, with these taken off, that hour's answer
pub judged_filed : (answer : List ℕ → List ℕ) → ((text : List ℕ) → Ended true (answer text)) → (sheet : Bool) (before : List Hour) (h : Hour) (after : List Hour)
    → labels_good sheet (before ++ (h ∷ after)) ≡ true → labels_apart (before ++ (h ∷ after)) ≡ true
    → filed h.label (day_text answer (before ++ (h ∷ after))) ≡ hour_text answer h.came
judged_filed answer ended sheet before h after good apart =
    hour_filed answer ended h after (apart-after h after before apart) before (good_plain sheet (before ++ (h ∷ after)) good) (apart-before h after before apart)
