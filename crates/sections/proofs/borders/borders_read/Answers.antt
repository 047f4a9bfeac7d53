use Prim.Native.Nat.{ℕ}
use mathlib.Core.Path.{◌≡◌, sym, ap, ◌∙◌}
use mathlib.Core.List.{List}
use native.Mathlib.Omega.{arith}
use Rattle.text.specs.Line.{line_at}
use Rattle.sections.specs.Section.{fault}
use Rattle.std.specs.Prelude.{Result}
use Rattle.text.specs.declared.LineFault.{LineFault}
use Rattle.lines.specs.Lines.{border_line}
use Rattle.lines.specs.Said.{said_border}
use Rattle.sections.proofs.StoredLaws.{after_within, stored_none, stored_all, stored_bad, stored_more}
use Rattle.sections.proofs.borders.borders_read.Goals as goal

pub loop-i-init : goal.loop-i-init
loop-i-init c = stored_none (border_line c.args.zones) _ _ _ _ c.requires.0

pub line_at-line-requires : goal.line_at-line-requires
line_at-line-requires c = c.loop-i.invariant.within

pub offset_bounds-b-i : goal.offset_bounds-b-i
offset_bounds-b-i c = omega (arith, c.loop-i.invariant, c.requires)

pub bounds-b-i : goal.bounds-b-i
bounds-b-i c = omega (arith, c.loop-i.invariant)

pub overflow_add-first : goal.overflow_add-first
overflow_add-first c = omega (arith, c.loop-i.invariant.high, c.loop-i.invariant.all, c.requires.1)

pub shape_of-b-in-Err : goal.shape_of-b-in-Err
shape_of-b-in-Err c = c.loop-i.invariant.as_long

pub returns-in-Err : goal.returns-in-Err
returns-in-Err c = let line_said : border_line c.args.zones (line_at c.args.text.now c.loop-i.p) c.loop-i.i ≡ said_border c.border_line.result c.border_line.new.raw = ap (λ (line : List ℕ). border_line c.args.zones line c.loop-i.i) (sym c.line_at-line.ensures) ∙ sym c.border_line.ensures in
    ap fault c.refusal.ensures ∙ stored_bad (border_line c.args.zones) _ _ _ _ _ _ _ _ c.loop-i.invariant c.loop-i-test.true _ (line_said ∙ ap (λ (r : Result (Unit {0}) LineFault). said_border r c.border_line.new.raw) c.in-Err.is)

pub overflow_add-p : goal.overflow_add-p
overflow_add-p c = rw c.line_at-line.ensures (omega (arith, after_within c.args.text.now c.loop-i.p c.loop-i.invariant.within))

pub loop-i-preserved : goal.loop-i-preserved
loop-i-preserved c = let line_said : border_line c.args.zones (line_at c.args.text.now c.loop-i.p) c.loop-i.i ≡ said_border c.border_line.result c.border_line.new.raw = ap (λ (line : List ℕ). border_line c.args.zones line c.loop-i.i) (sym c.line_at-line.ensures) ∙ sym c.border_line.ensures in
    rw c.line_at-line.ensures
    (stored_more (border_line c.args.zones) _ _ _ _ _ _ _ _ c.loop-i.invariant c.loop-i-test.true _ (line_said ∙ ap (λ (r : Result (Unit {0}) LineFault). said_border r c.border_line.new.raw) c.in-Ok.is))

pub shape_of-b : goal.shape_of-b
shape_of-b c = c.loop-i.invariant.as_long

pub returns : goal.returns
returns c = stored_all (border_line c.args.zones) _ _ _ _ _ _ _ _ c.loop-i.invariant c.loop-i-test.false
