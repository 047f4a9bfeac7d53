-- `margin::lta_kw` meets its contract.
use mathlib.Core.Path.{refl}
use Rattle.marginrules.specs.Margin.{lta_kw}
use Rattle.margin.proofs.lta_kw.Goals as goal

pub returns : goal.returns
unfolding lta_kw
returns c = refl
