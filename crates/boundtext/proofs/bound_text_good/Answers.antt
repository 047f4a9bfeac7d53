-- `boundtext::bound_text_good` meets its contract: the bound, and then its line.
use Rattle.std.specs.Prelude.{Err}
use mathlib.Core.Path.{◌≡◌, sym, ◌∙◌}
use borrow.Author.Rules.{rules}
use Rattle.boundtext.proofs.BoundTextLaws.{told_refused, told_rounds}
use Rattle.boundtext.proofs.bound_text_good.Goals as goal

pub returns-in_err-most : goal.returns-in_err-most
returns-in_err-most c =
    let told : c.from_residual.result ≡ Err c.in_err-most.field-0.0 = search rules in
    rw told (told_refused _ _ _ (sym c.bound_good.ensures ∙ c.in_err-most.was))

pub returns : goal.returns
returns c = c.write_bound.ensures ∙ told_rounds _ _ _ (sym c.bound_good.ensures ∙ c.in_ok-most.was)
