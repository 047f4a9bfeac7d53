-- `hourtables::keep_in` meets its contract: what was read is good (`into-good`), and what is stored of it is the hour's (`read_kept`, `read-refused`).
use mathlib.Core.List.{[]}
use native.Mathlib.Omega.{arith}
use Rattle.marks.specs.Marks.{every, listed}
use Rattle.reading.proofs.IntoLaws.{into_refused, into_read, into_good}
use Rattle.marginrules.proofs.JudgedLaws.{good_borders}
use Rattle.hourtables.proofs.HourLaws.{read_kept, read_refused}
use Rattle.hourtables.proofs.keep_in.Goals as goal

pub extract-extracted-requires : goal.extract-extracted-requires
extract-extracted-requires c = record { good = into_good c.args.text.now [] c.read_into.result _ _ _ _ _ c.read_into.ensures c.in-Ok.is; borders_most_in_bounds = c.requires.borders_most_in_bounds }

pub store-requires : goal.store-requires
store-requires c = let good = into_good c.args.text.now [] c.read_into.result _ _ _ _ _ c.read_into.ensures c.in-Ok.is in record { h_value = (good.exact.header, good_borders good); borders_most_in_bounds = (omega (arith, c.read_into.auto.b, c.requires.zones_most_in_bounds), omega (arith, c.extract-extracted.auto.atc, c.requires.borders_most_in_bounds)); k_lt_hours_most = c.requires.k_lt_hours_most }

pub returns-in-Ok : goal.returns-in-Ok
returns-in-Ok c = read_kept c.args.k c.args.ways.now c.args.atcs.now (every c.args.marks) (listed c.args.marks) c.args.text.now _
    (into_read c.args.text.now [] c.read_into.result _ _ _ _ _ c.read_into.ensures c.in-Ok.is)
    c.extract-extracted.ensures c.store.ensures

pub returns-in-Err : goal.returns-in-Err
returns-in-Err c = rw (c.number.ensures, c.place.ensures, c.byte.ensures) (read_refused c.args.k c.args.ways.now c.args.atcs.now (every c.args.marks) (listed c.args.marks) c.args.text.now _
    (into_refused c.args.text.now [] c.read_into.result _ _ _ _ _ c.read_into.ensures c.in-Err.is))
