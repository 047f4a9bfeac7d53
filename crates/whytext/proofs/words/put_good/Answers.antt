-- `whytext::words::put_good` meets its contract: each part of the room is as long as the header says.
use mathlib.Core.Path.{sym}
use native.Mathlib.Nat.{mul-le-mul, le_trans, le_of_eq}
use lib.Seq.{length-take-le}
use Rattle.types.proofs.RangeLaws.{HeaderIn, header_in_lem}
use Rattle.whytext.proofs.words.put_good.Goals as goal

pub why_good-requires : goal.why_good-requires
why_good-requires c =
    let within : HeaderIn c.args.view.now.header = header_in_lem _ c.requires.exact.header in
    record { good = c.requires; borders_in_bounds = mul-le-mul within.rows_most_lem within.borders_most_lem }

pub slice_bounds-rows-end : goal.slice_bounds-rows-end
slice_bounds-rows-end c = le_trans (header_in_lem _ c.requires.exact.header).rows_most_lem (le_of_eq (sym c.why_good.auto.rows))

pub slice_bounds-put-end-3 : goal.slice_bounds-put-end-3
slice_bounds-put-end-3 c =
    sym (length-take-le _ _ (le_trans (header_in_lem _ c.requires.exact.header).rows_most_lem (le_of_eq (sym c.why_good.auto.rows))))

pub put-requires : goal.put-requires
put-requires c =
    let within : HeaderIn c.args.view.now.header = header_in_lem _ c.requires.exact.header in
    le_trans (mul-le-mul within.rows_most_lem within.borders_most_lem) (le_of_eq (sym c.why_good.auto.p))
