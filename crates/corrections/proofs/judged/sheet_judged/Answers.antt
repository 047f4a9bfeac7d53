use Rattle.std.specs.Prelude.{Err}
use mathlib.Core.Path.{sym, ap, ◌∙◌}
use Prim.Native.Nat.{◌+◌}
use native.Mathlib.Omega.{arith}
use lib.ListN.{length}
use Rattle.refusals.specs.Refusals.{wrong_correction}
use Rattle.lines.proofs.RowJudge.{said_holds, said_bad}
use Rattle.corrections.proofs.PieceLaws.{line_some}
use Rattle.corrections.proofs.SheetLaws.{due_small}
use Rattle.corrections.proofs.JudgedLaws.{SheetLeft, left_start, left_all, left_bad, left_more}
use Rattle.corrections.proofs.judged.sheet_judged.Goals as goal

next : (c : goal.In_default)
    → SheetLeft c.sheet_kind-kind.result c.args.zones c.args.rows c.args.sheet.now (c.loop-s.s + length c.line_at-line.result.now) (c.due_index-i.result + 1) (c.loop-s.number + 1)
next c = let held = said_holds _ _ (sym c.row_judged.ensures ∙ c.in_default.is) in
    left_more c.sheet_kind-kind.result c.args.zones c.args.rows c.args.sheet.now c.loop-s.s c.loop-s.least c.loop-s.number c.loop-s.invariant c.loop-s-test.true _ c.line_at-line.ensures _ c.due_index-i.ensures held.it held.is

pub loop-s-init : goal.loop-s-init
loop-s-init c = left_start _ _ _ _ c.sheet_kind-kind.ensures

pub returns-in-Err : goal.returns-in-Err
returns-in-Err c = ap Err (ap (wrong_correction c.loop-s.number) c.byte.ensures)
    ∙ left_bad c.sheet_kind-kind.result c.args.zones c.args.rows c.args.sheet.now c.loop-s.s c.loop-s.least c.loop-s.number c.loop-s.invariant c.loop-s-test.true _ c.line_at-line.ensures _ c.due_index-i.ensures _ (said_bad _ _ (sym c.row_judged.ensures ∙ c.in-Err.is))

pub overflow_add-least : goal.overflow_add-least
overflow_add-least c = omega (arith, c.due_index-i.ensures, due_small c.sheet_kind-kind.result c.args.rows c.loop-s.least c.line_at-line.result.now)

pub overflow_add-number : goal.overflow_add-number
overflow_add-number c = omega (arith, c.loop-s.invariant.few)

pub overflow_add-s : goal.overflow_add-s
overflow_add-s c = omega (arith, (next c).within)

pub loop-s-smaller : goal.loop-s-smaller
loop-s-smaller c = omega (arith, (next c).within, line_some c.args.sheet.now c.loop-s.s c.loop-s-test.true, ap length c.line_at-line.ensures)

pub loop-s-preserved : goal.loop-s-preserved
loop-s-preserved c = next c

pub returns : goal.returns
returns c = left_all c.sheet_kind-kind.result c.args.zones c.args.rows c.args.sheet.now c.loop-s.s c.loop-s.least c.loop-s.number c.loop-s.invariant c.loop-s-test.false
