use mathlib.Core.Path.{sym, ◌∙◌}
use mathlib.Core.List.{[]}
use native.Mathlib.Omega.{arith}
use lib.ListN.{get_or}
use Rattle.numbers.proofs.IntLaws.{plain}
use Rattle.types.specs.LineColumns.{columns_of}
use Rattle.text.specs.Fields.{tab}
use Rattle.text.proofs.MeasureLaws.{measured_none, measured_more, measured_all}
use Rattle.columns.specs.declared.Head.TheVariants.{Indexed}
use Rattle.columns.proofs.ColumnPut.{line_long}
use Rattle.result.proofs.RecordsLaws.{record_three}
use Rattle.result.proofs.records.lines_length.Goals as goal

pub loop-i-init : goal.loop-i-init
loop-i-init c letter = measured_none _ _ _

pub line_length-sum-requires : goal.line_length-sum-requires
line_length-sum-requires c = c.requires.0

pub overflow_add-sum : goal.overflow_add-sum
overflow_add-sum c = omega (arith, (c.loop-i.invariant 0).few, (c.loop-i.invariant 0).summed.high, c.requires.1, c.line_length-sum.ensures.1)

pub loop-i-preserved : goal.loop-i-preserved
loop-i-preserved c letter =
    let raw = get_or c.args.records.now c.loop-i.i [] in
    let said = simp (plain, c.line_length-arg-1.given, c.line_length-arg-in-loop-i-1.given, c.line_length-arg-in-loop-i-2-1.given) at c.line_length-sum.ensures in
    let line = said.0 ∙ record_three c.requires.0 (Indexed letter c.loop-i.i) raw ∙ sym (line_long tab (Indexed letter c.loop-i.i) (columns_of c.args.columns.now) raw) in
    measured_more (c.loop-i.invariant letter) _ (omega arith) line (omega (arith, line, said.1))

pub returns : goal.returns
returns c = (λ letter. measured_all (c.loop-i.invariant letter) (omega arith), omega (arith, c.requires.1, (c.loop-i.invariant 0).few, (c.loop-i.invariant 0).summed.high))
