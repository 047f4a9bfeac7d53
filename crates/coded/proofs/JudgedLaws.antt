-- A judgement is coded alike as it was made and as the code tells it (specs/Coded.antt). No contract cites this file.
use Rattle.std.specs.Prelude.{Err, Ok}
use mathlib.Core.Path.{◌≡◌, refl, ap, ◌∙◌}
use mathlib.Core.List.{List}
use lib.IntN.{ℤ}
use Rattle.refusals.specs.Answers.{said_judgement}
use Rattle.refusals.specs.Refusals.{Judged, Ruling}
use Rattle.rowsheet.specs.RowSheet.{RowsLeft, rows_said}
use Rattle.partrules.specs.Parts.{MarginsLeft, leaves}
use Rattle.coded.specs.declared.KeravnothJudged.{KeravnothJudged}
use Rattle.coded.specs.Coded.{coded_judged, coded_ruling, rows_found, rows_coded, margins_found, margins_coded}

coded_said : {A : Type 0} (r : Ruling) (a : A) → coded_ruling r ≡ coded_judged (said_judgement r a)
coded_said (Ok tt) a = refl
coded_said (Err w) a = refl

pub judged_coded : {A : Type 0} (r : Ruling) (a : A) (j : Judged A) → said_judgement r a ≡ j → coded_ruling r ≡ coded_judged j
judged_coded {A} r a j e = coded_said r a ∙ ap (λ (k : Judged A). coded_judged k) e

-- a judgement, with what a call leaves in lent buffers
pub rows_judged : (r : Ruling) (c : List (List ℤ)) (f : List ℤ) {l : RowsLeft} → rows_said r c f ≡ l → rows_found (coded_ruling r) c f ≡ rows_coded l
rows_judged r c f e = ap (λ (a : KeravnothJudged). rows_found a c f) (coded_said r tt) ∙ ap rows_coded e

pub margins_judged : (r : Ruling) (out : List (List ℤ)) {l : MarginsLeft} → leaves (said_judgement r tt) out ≡ l → margins_found (coded_ruling r) out ≡ margins_coded l
margins_judged r out e = ap (λ (a : KeravnothJudged). margins_found a out) (coded_said r tt) ∙ ap margins_coded e
