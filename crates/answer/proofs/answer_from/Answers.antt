-- `answer::answer_from` meets its contract: `extract_good` answers with the outcome, since there is room for every result (`outcome-told`, `outcome-refused`).
use mathlib.Core.Path.{sym, ◌∙◌}
use native.Mathlib.Nat.{le_trans, mul-le-mul}
use native.Mathlib.Omega.{arith}
use Prim.Native.Nat.{◌≤◌}
use lib.ListN.{length}
use lib.Seq.{length-take-le}
use Rattle.marks.specs.Marks.{every, listed}
use Rattle.types.proofs.RangeLaws.{HeaderIn, header_in_lem}
use Rattle.tablerules.specs.Table.{Table, lent_view, front}
use Rattle.extractrules.specs.Extraction.{outcome_for}
use Rattle.answer.proofs.OutcomeLaws.{outcome_passed, outcome_refused, outcome_told, line_written, refusal_is, refusal_told, no_text}
use Rattle.answer.proofs.answer_from.Goals as goal

pub extract_good-requires : goal.extract_good-requires
extract_good-requires c = let within : HeaderIn c.args.view.now.header = header_in_lem _ c.requires.good.exact.header in
    record { good = c.requires.good; borders_in_bounds = le_trans (mul-le-mul within.rows_most_lem within.borders_most_lem) c.requires.borders_most_in_bounds.0 }

pub slice_bounds-write_records-end : goal.slice_bounds-write_records-end
slice_bounds-write_records-end c = let within : HeaderIn c.args.view.now.header = header_in_lem _ c.requires.good.exact.header in
    omega (arith, within.borders_most_lem, c.requires.borders_most_in_bounds.1, c.extract_good.auto.atc)

pub slice_bounds-write_records-end-in-Ok : goal.slice_bounds-write_records-end-in-Ok
slice_bounds-write_records-end-in-Ok c =
    let within : HeaderIn c.args.view.now.header = header_in_lem _ c.requires.good.exact.header in
    let atc_room : c.args.view.now.header.borders ≤ length c.extract_good.new.atc = omega (arith, within.borders_most_lem, c.requires.borders_most_in_bounds.1, c.extract_good.auto.atc) in
    sym (length-take-le _ _ atc_room)

pub slice_bounds-write_records-end-in-Ok-2 : goal.slice_bounds-write_records-end-in-Ok-2
slice_bounds-write_records-end-in-Ok-2 c = let within : HeaderIn c.args.view.now.header = header_in_lem _ c.requires.good.exact.header in
    omega (arith, within.rows_most_lem, c.requires.borders_most_in_bounds.2, c.extract_good.auto.left)

pub slice_bounds-write_records-end-in-Ok-3 : goal.slice_bounds-write_records-end-in-Ok-3
slice_bounds-write_records-end-in-Ok-3 c =
    let within : HeaderIn c.args.view.now.header = header_in_lem _ c.requires.good.exact.header in
    let left_room : c.args.view.now.header.rows ≤ length c.extract_good.new.left = omega (arith, within.rows_most_lem, c.requires.borders_most_in_bounds.2, c.extract_good.auto.left) in
    sym (length-take-le _ _ left_room)

pub write_records-requires : goal.write_records-requires
write_records-requires c =
    let within : HeaderIn c.args.view.now.header = header_in_lem _ c.requires.good.exact.header in
    let atc_room : c.args.view.now.header.borders ≤ length c.extract_good.new.atc = omega (arith, within.borders_most_lem, c.requires.borders_most_in_bounds.1, c.extract_good.auto.atc) in
    let left_room : c.args.view.now.header.rows ≤ length c.extract_good.new.left = omega (arith, within.rows_most_lem, c.requires.borders_most_in_bounds.2, c.extract_good.auto.left) in
    (omega (arith, within.borders_most_lem, length-take-le _ _ atc_room), omega (arith, within.rows_most_lem, length-take-le _ _ left_room))

pub returns-in-Ok : goal.returns-in-Ok
returns-in-Ok c = let given : Table = front (lent_view c.args.view.now) in
    record { out_after = c.write_records.ensures.0 ∙ outcome_told (every c.args.marks) (listed c.args.marks) given c.requires.good c.args.p.now c.args.atc.now c.args.left.now c.requires.borders_most_in_bounds.1 c.requires.borders_most_in_bounds.2 _ c.extract_good.ensures c.args.line c.args.out.now _ c.in-Ok.is; by_index = λ said e. c.write_records.ensures.1; told_value = outcome_passed (every c.args.marks) (listed c.args.marks) given c.requires.good c.args.p.now c.args.atc.now c.args.left.now c.requires.borders_most_in_bounds.1 c.requires.borders_most_in_bounds.2 _ c.extract_good.ensures _ c.in-Ok.is }

pub returns-then-line : goal.returns-then-line
returns-then-line c = let given : Table = front (lent_view c.args.view.now) in
    let o = outcome_for (every c.args.marks) (listed c.args.marks) given in
    let is = outcome_refused (every c.args.marks) (listed c.args.marks) given c.requires.good c.args.p.now c.args.atc.now c.args.left.now c.requires.borders_most_in_bounds.1 c.requires.borders_most_in_bounds.2 _ c.extract_good.ensures _ c.in-Err.is in record { out_after = c.tell_refusal.ensures.out_after ∙ line_written c.args.line o c.args.out.now _ is c.if-line.true; by_index = λ said e. omega (arith, c.tell_refusal.ensures.written_bound.0); told_value = c.tell_refusal.ensures.written_bound.1 ∙ refusal_is c.args.line o c.args.out.now _ is }

pub returns-else-line : goal.returns-else-line
returns-else-line c = let given : Table = front (lent_view c.args.view.now) in
    let o = outcome_for (every c.args.marks) (listed c.args.marks) given in
    let is = outcome_refused (every c.args.marks) (listed c.args.marks) given c.requires.good c.args.p.now c.args.atc.now c.args.left.now c.requires.borders_most_in_bounds.1 c.requires.borders_most_in_bounds.2 _ c.extract_good.ensures _ c.in-Err.is in record { out_after = refusal_told c.args.line o c.args.out.now _ is c.if-line.false; by_index = λ said e. absurd (no_text c.args.line o c.args.out.now _ is c.if-line.false said e); told_value = refusal_is c.args.line o c.args.out.now _ is }
