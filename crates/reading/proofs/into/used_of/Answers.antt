-- `reading::into::used_of` meets its contract.
use Rattle.refusals.specs.Refusals.{Ruling}
use mathlib.Core.Path.{sym, ap}
use Rattle.reading.specs.Places.{used_of}
use Rattle.reading.proofs.into.used_of.Goals as goal

pub returns-in-Ok : goal.returns-in-Ok
returns-in-Ok c = ap (λ (j : Ruling). used_of j c.args.sheet.now) (sym c.in-Ok.is)

pub returns-in-Err : goal.returns-in-Err
returns-in-Err c = ap (λ (j : Ruling). used_of j c.args.sheet.now) (sym c.in-Err.is)
