-- A day's sheet over the texts that came: `day_sheet`. `Came` and `Day` are what contracts cite of an hour that is read and of a day: no contract can say which bytes a
-- file has, so they say that there are such texts.
use Rattle.std.specs.Prelude.{◌≡◌, Bool, List, [], ◌∷◌, map, ℕ, ◌+◌, ◌*◌, length, take, None, Option, Some}
use Rattle.limits.specs.Limits.{borders_most}
use Rattle.daysheet.specs.Sheet.{sheet_text}
use Rattle.daysheet.specs.declared.Hour.{Hour}
use Rattle.hourfigures.specs.Items.{pasted}
use Rattle.hourfigures.specs.Figures.{Figures, figures, unread_hour, kept_of}
use Rattle.hourtables.specs.Hour.{hour_of}

-- the figures of an hour whose table came, or did not
abbrev pub came_of : (all : Bool) → (marks : List ℕ) → Option (List ℕ) → Figures
came_of all marks None = unread_hour
came_of all marks (Some text) = hour_of all marks text

-- hours in order, from hour k on, each with its items at its own place
unfoldable pub filled_by : (items : Figures → List ℕ) → (k : ℕ) → List Figures → (old : List ℕ) → List ℕ
filled_by items k [] old = old
filled_by items k (f ∷ fs) old = filled_by items (k + 1) fs (pasted (k * borders_most) (items f) old)

-- the sheet of a day, of its labels and the texts that came; `blank` is what the tables held before
unfoldable pub day_sheet : (all : Bool) → (marks blank : List ℕ) → (labels : List (List ℕ)) → (cames : List (Option (List ℕ))) → List ℕ
day_sheet all marks blank labels cames =
    let day = map (came_of all marks) cames in
    sheet_text labels (map (λ came. (came_of all marks came).hour) cames) (filled_by (λ f. f.ways) 0 day blank) (filled_by (λ f. f.atcs) 0 day blank)

-- hour k was kept, of a text that came or did not
pub record Came (all : Bool) (marks : List ℕ) (k : ℕ) (hour : Hour) (ways₀ atcs₀ ways atcs : List ℕ) : Type 0 where
  pub came : Option (List ℕ)
  pub is : figures hour ways atcs ≡ kept_of (came_of all marks came) k ways₀ atcs₀

-- so many hours were kept, each of a text that came or did not
pub record Day (all : Bool) (marks : List ℕ) (n : ℕ) (hours : List Hour) (ways₀ atcs₀ ways atcs : List ℕ) : Type 0 where
  pub cames : List (Option (List ℕ))
  pub many : length cames ≡ n
  pub records : take n hours ≡ map (λ came. (came_of all marks came).hour) cames
  pub ways_filled : ways ≡ filled_by (λ f. f.ways) 0 (map (came_of all marks) cames) ways₀
  pub atcs_filled : atcs ≡ filled_by (λ f. f.atcs) 0 (map (came_of all marks) cames) atcs₀
