-- `table::row_good` meets its contract: the record is judged, and then its factors.
use mathlib.Core.Path.{sym, ap, ◌∙◌}
use mathlib.Core.Bool.{Bool, ◌&&◌}
use Rattle.types.specs.Ranges.{all_true, row_tests, row_fits, factor_tests}
use Rattle.types.proofs.AllLaws.{all_join}
use Rattle.types.proofs.ConstructorLaws.{row_good_lem, row_out_lem}
use Rattle.table.proofs.row_good.Goals as goal

pub returns-in_default : goal.returns-in_default
unfolding row_fits
returns-in_default c = let factors = factor_tests c.args.f.now in
    sym (all_join (row_tests c.args.raw) factors ∙ ap (λ (t : Bool). t && all_true factors) (row_out_lem _ (sym c.of.ensures ∙ c.in_default.is)))

pub returns : goal.returns
unfolding row_fits
returns c = let factors = factor_tests c.args.f.now in
    c.factors_fit.ensures
    ∙ sym (all_join (row_tests c.args.raw) factors ∙ ap (λ (t : Bool). t && all_true factors) (row_good_lem _ _ (sym c.of.ensures ∙ c.in-Some.is)).0)
