-- Each item of a day's tables is its own hour's, whatever the tables held before: `own-figures`. Nobody cites it: it is the product.
use Rattle.std.specs.Prelude.{Err, None, Ok, Option, Some}
use mathlib.Core.Path.{◌≡◌, refl, sym, ap, subst, ◌∙◌}
use mathlib.Core.Bool.{Bool}
use mathlib.Core.List.{List, [], ◌∷◌, ◌++◌, map, append_assoc}
use Prim.Native.Nat.{ℕ, zero, suc, ◌+◌, ◌*◌, ◌≤◌, ◌<◌}
use native.Mathlib.Nat.{not-suc-le-zero}
use native.Mathlib.Omega.{arith}
use lib.ListN.{length, get_or, take, drop, get_or-append}
use lib.Seq.{length-take-le, take-length, get_or-append-add, get_or-take, length-paste}
use Rattle.limits.specs.Limits.{borders_most}
use Rattle.numbers.specs.Below.{at}
use Rattle.numbers.proofs.BelowLaws.{table_long}
use Rattle.refusals.specs.Refusals.{Judged, then, either}
use Rattle.types.specs.declared.Header.{Header}
use Rattle.types.proofs.RangeLaws.{header_in_lem}
use Rattle.marks.specs.Marks.{may_rise}
use Rattle.tablerules.specs.Table.{Table}
use Rattle.extractrules.specs.Extraction.{Result, result_marked, outcome_for, atc_of}
use Rattle.extractrules.proofs.AcceptedLaws.{accepted}
use Rattle.extractrules.proofs.MarkedLaws.{for_is}
use Rattle.reading.specs.Reading.{read_text}
use Rattle.reading.proofs.EmptySheet.{empty_sheet}
use Rattle.reading.proofs.CorrectedLaws.{corrected_good}
use Rattle.daysheet.specs.Sheet.{place}
use Rattle.hourfigures.specs.Items.{pasted}
use Rattle.hourfigures.specs.Figures.{Figures, refused_hour, unread_hour, figures_by}
use Rattle.hourfigures.proofs.ItemLaws.{ways_long}
use Rattle.hourtables.specs.Hour.{found_of, hour_of}
use Rattle.hourtables.specs.Day.{came_of, filled_by}
use Rattle.hourtables.proofs.DayLaws.{map_long}

-- ---- items at a place: there they are, and before it all is as it was
module _ (from : ℕ) (items old : List ℕ) (room : from + length items ≤ length old) where
  pub pasted_long : length (pasted from items old) ≡ length old
  pasted_long = length-paste old from items (length items) room (omega arith)

  pasted_at : (b : ℕ) → b < length items → at (pasted from items old) (from + b) ≡ at items b
  pasted_at b h =
      let front = take from old in
      let rest = drop (from + length items) old in
      let long : length front ≡ from = length-take-le from old (omega arith) in
      ap (λ (l : List ℕ). at l (from + b)) (append_assoc front (take (length items) items) rest ∙ ap (λ (l : List ℕ). front ++ (l ++ rest)) (take-length items))
      ∙ ap (λ (n : ℕ). at (front ++ (items ++ rest)) (n + b)) (sym long)
      ∙ get_or-append-add front (items ++ rest) b 0
      ∙ get_or-append items rest 0 b h

  pasted-before : (i : ℕ) → i < from → at (pasted from items old) i ≡ at old i
  pasted-before i h =
      let front = take from old in
      let rest = drop (from + length items) old in
      let long : length front ≡ from = length-take-le from old (omega arith) in
      ap (λ (l : List ℕ). at l i) (append_assoc front (take (length items) items) rest)
      ∙ get_or-append front (take (length items) items ++ rest) 0 i (omega (arith, long))
      ∙ get_or-take from old i 0 h

-- ---- hours in order
module _ (items : Figures → List ℕ) where
  -- no hour has more items than a table may have borders
  abbrev pub Few : List Figures → Type 0
  Few [] = Unit {0}
  Few (f ∷ fs) = (length (items f) ≤ borders_most) × Few fs

  earlier : (k : ℕ) (fs : List Figures) (old : List ℕ) → Few fs → (k + length fs) * borders_most ≤ length old → (i : ℕ) → i < k * borders_most → at (filled_by items k fs old) i ≡ at old i
  unfolding filled_by
  earlier k [] old few room i h = refl
  earlier k (f ∷ fs) old few room i h =
      let here : k * borders_most + length (items f) ≤ length old = omega (arith, few.0) in
      let next = pasted (k * borders_most) (items f) old in
      earlier (k + 1) fs next few.1 (omega (arith, pasted_long (k * borders_most) (items f) old here)) i (omega arith)
      ∙ pasted-before (k * borders_most) (items f) old here i h

  pub own_item : (k : ℕ) (fs : List Figures) (old : List ℕ) → Few fs → (k + length fs) * borders_most ≤ length old → (past : Figures) (j b : ℕ) → j < length fs → b < length (items (get_or fs j past))
      → at (filled_by items k fs old) (place (k + j) b) ≡ at (items (get_or fs j past)) b
  unfolding filled_by
  own_item k [] old few room past j b h l = absurd (not-suc-le-zero h)
  own_item k (f ∷ fs) old few room past zero b h l =
      let here : k * borders_most + length (items f) ≤ length old = omega (arith, few.0) in
      let next = pasted (k * borders_most) (items f) old in
      ap (λ (i : ℕ). at (filled_by items (k + 1) fs next) i) (omega arith)
      ∙ earlier (k + 1) fs next few.1 (omega (arith, pasted_long (k * borders_most) (items f) old here)) (k * borders_most + b) (omega (arith, few.0))
      ∙ pasted_at (k * borders_most) (items f) old here b l
  own_item k (f ∷ fs) old few room past (suc j) b h l =
      let here : k * borders_most + length (items f) ≤ length old = omega (arith, few.0) in
      let next = pasted (k * borders_most) (items f) old in
      ap (λ (i : ℕ). at (filled_by items (k + 1) fs next) i) (omega arith)
      ∙ own_item (k + 1) fs next few.1 (omega (arith, pasted_long (k * borders_most) (items f) old here)) past j b (omega arith) l

-- ---- no hour has more items than a table may have borders
module _ (all : Bool) (marks : List ℕ) where
  abbrev Short : Figures → Type 0
  Short f = (length f.ways ≤ borders_most) × (length f.atcs ≤ borders_most)

  table-short : (t : Table) → length t.borders ≤ borders_most → t.header.borders ≤ borders_most → (o : Judged Result) → outcome_for all marks t ≡ o
      → Short (figures_by t.header t.borders (then o (λ r. Ok (found_of r))))
  unfolding figures_by either then result_marked
  table-short t b h (Err w) e = (omega arith, omega arith)
  table-short t b h (Ok r) e =
      let same : r.header ≡ t.header = sym (ap (λ (v : Result). v.header) (accepted (may_rise all marks) t r (for_is all marks t r e)).is) in
      (omega (arith, ways_long t.borders), omega (arith, table_long r.header.borders (atc_of r), ap (λ (x : Header). x.borders) same))

  hour-short : (text : List ℕ) → Short (hour_of all marks text)
  unfolding hour_of either
  hour-short text = go (read_text text) refl
    where
      go : (j : Judged Table) → read_text text ≡ j → Short (either j (λ t. figures_by t.header t.borders (then (outcome_for all marks t) (λ r. Ok (found_of r)))) refused_hour)
      go (Err w) e = (omega arith, omega arith)
      go (Ok t) e =
          let good = corrected_good text [] t (empty_sheet text ∙ e) in
          let h = header_in_lem t.header good.exact.header in
          table-short t (omega (arith, good.exact.borders_long, h.borders_most_lem)) h.borders_most_lem (outcome_for all marks t) refl

  came-short : (came : Option (List ℕ)) → Short (came_of all marks came)
  came-short None = (omega arith, omega arith)
  came-short (Some text) = hour-short text

  abbrev day : List (Option (List ℕ)) → List Figures
  day cames = map (came_of all marks) cames

  ways-few : (cames : List (Option (List ℕ))) → Few (λ f. f.ways) (day cames)
  ways-few [] = tt
  ways-few (came ∷ cames) = ((came-short came).0, ways-few cames)

  atcs-few : (cames : List (Option (List ℕ))) → Few (λ f. f.atcs) (day cames)
  atcs-few [] = tt
  atcs-few (came ∷ cames) = ((came-short came).1, atcs-few cames)

  day-at : (cames : List (Option (List ℕ))) (k : ℕ) → get_or (day cames) k unread_hour ≡ came_of all marks (get_or cames k None)
  day-at [] k = refl
  day-at (came ∷ cames) zero = refl
  day-at (came ∷ cames) (suc k) = day-at cames k

  -- hour k's way and ATC of border b, as they stand in the day's tables, are those of the text that came as hour k
  pub record Own (cames : List (Option (List ℕ))) (ways atcs : List ℕ) (k b : ℕ) : Type 0 where
    pub way : b < length (came_of all marks (get_or cames k None)).ways → at ways (place k b) ≡ at (came_of all marks (get_or cames k None)).ways b
    pub atc : b < length (came_of all marks (get_or cames k None)).atcs → at atcs (place k b) ≡ at (came_of all marks (get_or cames k None)).atcs b

  -- whatever the tables held before
  pub own_figures : (cames : List (Option (List ℕ))) (ways atcs : List ℕ) → length cames * borders_most ≤ length ways → length cames * borders_most ≤ length atcs → (k b : ℕ) → k < length cames
      → Own cames (filled_by (λ f. f.ways) 0 (day cames) ways) (filled_by (λ f. f.atcs) 0 (day cames) atcs) k b
  own_figures cames ways atcs w a k b h = record {
    way = subst (λ (f : Figures). b < length f.ways → at (filled_by (λ f. f.ways) 0 (day cames) ways) (place k b) ≡ at f.ways b) (day-at cames k) own-way;
    atc = subst (λ (f : Figures). b < length f.atcs → at (filled_by (λ f. f.atcs) 0 (day cames) atcs) (place k b) ≡ at f.atcs b) (day-at cames k) own-atc;
  }
    where
      many : length (day cames) ≡ length cames
      many = map_long (came_of all marks) cames

      here : place (0 + k) b ≡ place k b
      here = omega arith

      own-way : b < length (get_or (day cames) k unread_hour).ways → at (filled_by (λ f. f.ways) 0 (day cames) ways) (place k b) ≡ at (get_or (day cames) k unread_hour).ways b
      own-way l =
          ap (λ (i : ℕ). at (filled_by (λ f. f.ways) 0 (day cames) ways) i) (sym here)
          ∙ own_item (λ f. f.ways) 0 (day cames) ways (ways-few cames) (omega (arith, many)) unread_hour k b (omega (arith, many)) l

      own-atc : b < length (get_or (day cames) k unread_hour).atcs → at (filled_by (λ f. f.atcs) 0 (day cames) atcs) (place k b) ≡ at (get_or (day cames) k unread_hour).atcs b
      own-atc l =
          ap (λ (i : ℕ). at (filled_by (λ f. f.atcs) 0 (day cames) atcs) i) (sym here)
          ∙ own_item (λ f. f.atcs) 0 (day cames) atcs (atcs-few cames) (omega (arith, many)) unread_hour k b (omega (arith, many)) l
