-- What is kept of an hour: of one that is answered, and of one that is refused. No contract cites this file.
use Rattle.std.specs.Prelude.{Err, Ok}
use mathlib.Core.Path.{◌≡◌, sym, ap, ap₂, ◌∙◌}
use mathlib.Core.Bool.{Bool, not}
use mathlib.Core.List.{List, []}
use Prim.Native.Nat.{ℕ, ◌*◌}
use lib.Dec.{eqb}
use lib.IntN.{ℤ}
use lib.ListN.{take}
use lib.Seq.{paste-zero}
use Rattle.limits.specs.Limits.{borders_most}
use Rattle.refusals.specs.declared.Refusal.{Refusal}
use Rattle.refusals.specs.Refusals.{either, Judged}
use Rattle.types.specs.declared.Header.{Header}
use Rattle.daysheet.specs.declared.Hour.TheVariants.{Answered}
use Rattle.hourfigures.specs.Items.{ways_of, atcs_of, pasted}
use Rattle.hourfigures.specs.Figures.{found_in, figures, refused_hour, figures_by, kept_of}

module _ (k : ℕ) (ways atcs : List ℕ) where
  pub refused_kept : (w : Refusal) → figures (refused_hour w).hour ways atcs ≡ kept_of (refused_hour w) k ways atcs
  refused_kept w = ap₂ (figures (refused_hour w).hour) (paste-zero ways (k * borders_most) []) (paste-zero atcs (k * borders_most) [])

  module _ (h : Header) (borders : List (List ℤ)) (e : Judged ℕ) (records : List (List ℤ)) where
    pub store_answered : (n : ℕ) → e ≡ Ok n → {intraday : Bool} → intraday ≡ not (eqb h.intraday 0) → {ways' atcs' : List ℕ} → ways' ≡ pasted (k * borders_most) (ways_of borders) ways
        → atcs' ≡ pasted (k * borders_most) (atcs_of (take h.borders records)) atcs
        → figures (Answered (record { rounds = n; borders = h.borders; intraday = intraday })) ways' atcs' ≡ kept_of (figures_by h borders (found_in h.borders e records)) k ways atcs
    unfolding figures_by either
    store_answered n is i w a = rw (is, i, w, a)

    pub store_refused : (w : Refusal) → e ≡ Err w → figures (refused_hour w).hour ways atcs ≡ kept_of (figures_by h borders (found_in h.borders e records)) k ways atcs
    unfolding figures_by either
    store_refused w is = refused_kept w ∙ ap (λ (x : Judged ℕ). kept_of (figures_by h borders (found_in h.borders x records)) k ways atcs) (sym is)
