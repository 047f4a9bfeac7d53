use Prim.Native.Nat.{ℕ}
use mathlib.Core.Path.{◌≡◌, sym, ap, ◌∙◌}
use mathlib.Core.List.{List}
use native.Mathlib.Omega.{arith}
use borrow.Author.Rules.{rules}
use mir.Syntax.{w64}
use mir.Val.{to_z, of_z}
use Rattle.text.specs.Line.{line_at}
use Rattle.sections.specs.Section.{fault}
use Rattle.lines.specs.Lines.{position_line}
use Rattle.sections.proofs.StoredLaws.{after_within, stored_none, stored_all, stored_bad, stored_more}
use Rattle.sections.proofs.zones.zones_read.Goals as goal

pub loop-i-init : goal.loop-i-init
loop-i-init c = stored_none (position_line _) _ _ _ _ c.requires.0

pub line_at-line-requires : goal.line_at-line-requires
line_at-line-requires c = c.loop-i.invariant.within

pub offset_bounds-z-i : goal.offset_bounds-z-i
offset_bounds-z-i c = omega (arith, c.loop-i.invariant, c.well_formed)

pub bounds-z-i : goal.bounds-z-i
bounds-z-i c = omega (arith, c.loop-i.invariant)

pub overflow_add-first : goal.overflow_add-first
overflow_add-first c = omega (arith, c.loop-i.invariant.high, c.loop-i.invariant.all, c.requires.1)

pub shape_of-z-in-Err : goal.shape_of-z-in-Err
shape_of-z-in-Err c = c.loop-i.invariant.as_long

pub returns-in-Err : goal.returns-in-Err
returns-in-Err c = let line_said : position_line c.args.letter (line_at c.args.text.now c.loop-i.p) c.loop-i.i ≡ c.zone_line.result = ap (λ (line : List ℕ). position_line c.args.letter line c.loop-i.i) (sym c.line_at-line.ensures) ∙ sym c.zone_line.ensures in
    ap fault c.refusal.ensures ∙ stored_bad (position_line _) _ _ _ _ _ _ _ _ c.loop-i.invariant c.loop-i-test.true _ (line_said ∙ c.in-Err.is)

pub overflow_add-p : goal.overflow_add-p
overflow_add-p c = rw c.line_at-line.ensures (omega (arith, after_within c.args.text.now c.loop-i.p c.loop-i.invariant.within))

pub loop-i-preserved : goal.loop-i-preserved
loop-i-preserved c = let line_said : position_line c.args.letter (line_at c.args.text.now c.loop-i.p) c.loop-i.i ≡ c.zone_line.result = ap (λ (line : List ℕ). position_line c.args.letter line c.loop-i.i) (sym c.line_at-line.ensures) ∙ sym c.zone_line.ensures in
    let plain-net : to_z w64 (of_z w64 c.in-Ok.net) ≡ c.in-Ok.net = search rules in
    rw (plain-net, c.line_at-line.ensures)
    (stored_more (position_line _) _ _ _ _ _ _ _ _ c.loop-i.invariant c.loop-i-test.true c.in-Ok.net (line_said ∙ c.in-Ok.is))

pub shape_of-z : goal.shape_of-z
shape_of-z c = c.loop-i.invariant.as_long

pub returns : goal.returns
returns c = stored_all (position_line _) _ _ _ _ _ _ _ _ c.loop-i.invariant c.loop-i-test.false
