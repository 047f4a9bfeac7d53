-- A day's tables, hour after hour: an hour that came or did not, and one more hour. No contract cites this file.
use Rattle.std.specs.Prelude.{None, Some}
use mathlib.Core.Path.{◌≡◌, refl, sym, ap, ap₂, subst, ◌∙◌}
use mathlib.Core.Bool.{Bool}
use mathlib.Core.List.{List, [], ◌∷◌, ◌++◌, map}
use Prim.Native.Nat.{ℕ, suc, ◌+◌, ◌*◌, ◌≤◌, ◌<◌}
use native.Mathlib.Nat.{add-zero}
use native.Mathlib.Numerals.{add-one}
use native.Mathlib.Omega.{arith}
use lib.ListN.{length, set, take, length-append}
use lib.Seq.{paste-zero, take-suc-set}
use Rattle.limits.specs.Limits.{borders_most}
use Rattle.daysheet.specs.declared.Hour.{Hour}
use Rattle.hourfigures.specs.Items.{pasted}
use Rattle.hourfigures.specs.Figures.{Figures, figures, unread_hour, kept_of}
use Rattle.hourtables.specs.Hour.{hour_of}
use Rattle.hourtables.specs.Day.{came_of, filled_by, Came, Day}

-- ---- one more hour
filled_more : (items : Figures → List ℕ) (k : ℕ) (fs : List Figures) (f : Figures) (old : List ℕ)
    → filled_by items k (fs ++ (f ∷ [])) old ≡ pasted ((k + length fs) * borders_most) (items f) (filled_by items k fs old)
unfolding filled_by
filled_more items k [] f old = ap (λ (j : ℕ). pasted (j * borders_most) (items f) old) (sym (add-zero k))
filled_more items k (g ∷ fs) f old =
    let e : k + 1 + length fs ≡ k + suc (length fs) = omega arith in
    filled_more items (k + 1) fs f (pasted (k * borders_most) (items g) old)
    ∙ ap (λ (j : ℕ). pasted (j * borders_most) (items f) (filled_by items (k + 1) fs (pasted (k * borders_most) (items g) old))) e

map_append : {A B : Type 0} (f : A → B) (xs : List A) (x : A) → map f (xs ++ (x ∷ [])) ≡ map f xs ++ (f x ∷ [])
map_append f [] x = refl
map_append {A} {B} f (y ∷ xs) x = ap (λ (l : List B). f y ∷ l) (map_append f xs x)

pub map_long : {A B : Type 0} (f : A → B) (xs : List A) → length (map f xs) ≡ length xs
map_long f [] = refl
map_long f (x ∷ xs) = ap suc (map_long f xs)

module _ (all : Bool) (marks : List ℕ) where
  -- ---- an hour that came or did not
  module _ (k : ℕ) (ways atcs : List ℕ) where
    pub came_none : Came all marks k unread_hour.hour ways atcs ways atcs
    came_none = record {
      came = None;
      is = ap₂ (figures unread_hour.hour) (paste-zero ways (k * borders_most) []) (paste-zero atcs (k * borders_most) []);
    }

    pub came_some : (text : List ℕ) {hour : Hour} {ways' atcs' : List ℕ} → figures hour ways' atcs' ≡ kept_of (hour_of all marks text) k ways atcs → Came all marks k hour ways atcs ways' atcs'
    came_some text e = record { came = Some text; is = e }

  -- ---- hour after hour
  pub day_none : (hours : List Hour) (ways atcs : List ℕ) → Day all marks 0 hours ways atcs ways atcs
  unfolding filled_by
  day_none hours ways atcs = record { cames = []; many = refl; records = refl; ways_filled = refl; atcs_filled = refl }

  pub day_more : {k : ℕ} {hours : List Hour} {ways₀ atcs₀ ways atcs : List ℕ} → Day all marks k hours ways₀ atcs₀ ways atcs → k < length hours
      → {hour : Hour} {ways' atcs' : List ℕ} → Came all marks k hour ways atcs ways' atcs' → Day all marks (k + 1) (set hours k hour) ways₀ atcs₀ ways' atcs'
  day_more {k} {hours} {ways₀} {atcs₀} {ways} {atcs} d h {hour} {ways'} {atcs'} c =
      let f = came_of all marks c.came in
      let day = map (came_of all marks) d.cames in
      let long : 0 + length day ≡ k = omega (arith, map_long (came_of all marks) d.cames, d.many) in
      record {
        cames = d.cames ++ (c.came ∷ []);
        many = length-append d.cames (c.came ∷ []) ∙ omega (arith, d.many);
        records =
            ap (λ (n : ℕ). take n (set hours k hour)) (add-one k)
            ∙ take-suc-set hours k hour h
            ∙ ap₂ (λ (x : List Hour) (y : Hour). x ++ (y ∷ [])) d.records (ap (λ (x : Figures). x.hour) c.is)
            ∙ sym (map_append (λ came. (came_of all marks came).hour) d.cames c.came);
        ways_filled =
            ap (λ (x : Figures). x.ways) c.is
            ∙ ap (λ (x : List ℕ). pasted (k * borders_most) f.ways x) d.ways_filled
            ∙ ap (λ (j : ℕ). pasted (j * borders_most) f.ways (filled_by (λ x. x.ways) 0 day ways₀)) (sym long)
            ∙ sym (filled_more (λ x. x.ways) 0 day f ways₀)
            ∙ ap (λ (x : List Figures). filled_by (λ y. y.ways) 0 x ways₀) (sym (map_append (came_of all marks) d.cames c.came));
        atcs_filled =
            ap (λ (x : Figures). x.atcs) c.is
            ∙ ap (λ (x : List ℕ). pasted (k * borders_most) f.atcs x) d.atcs_filled
            ∙ ap (λ (j : ℕ). pasted (j * borders_most) f.atcs (filled_by (λ x. x.atcs) 0 day atcs₀)) (sym long)
            ∙ sym (filled_more (λ x. x.atcs) 0 day f atcs₀)
            ∙ ap (λ (x : List Figures). filled_by (λ y. y.atcs) 0 x atcs₀) (sym (map_append (came_of all marks) d.cames c.came));
      }
