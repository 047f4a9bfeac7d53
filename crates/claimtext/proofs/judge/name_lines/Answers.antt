use mathlib.Core.Path.{ap, ◌∙◌}
use native.Mathlib.Omega.{arith}
use lib.ListN.{length}
use Rattle.numbers.proofs.IntLaws.{plain}
use Rattle.claimrules.specs.Claims.{claimed_row}
use Rattle.claims.proofs.NameLaws.{none_long}
use Rattle.claimline.specs.ClaimText.{claim_line}
use Rattle.claimline.proofs.ReadLaws.{after_within, after_further}
use Rattle.claimtext.proofs.ListLaws.{naming_none, naming_long, naming_more, naming_all}
use Rattle.claimtext.proofs.judge.name_lines.Goals as goal

pub loop-p-init : goal.loop-p-init
loop-p-init c = naming_none c.requires

pub line_at-line-requires : goal.line_at-line-requires
line_at-line-requires c = c.loop-p.invariant.lines.within

pub overflow_add-p : goal.overflow_add-p
overflow_add-p c = rw c.line_at-line.ensures (omega (arith, after_within c.loop-p.invariant.lines))

pub loop-p-smaller : goal.loop-p-smaller
loop-p-smaller c = rw c.line_at-line.ensures (omega (arith, after_within c.loop-p.invariant.lines, after_further c.loop-p.invariant.lines c.loop-p-test.true))

pub loop-p-preserved : goal.loop-p-preserved
loop-p-preserved c = rw c.line_at-line.ensures
    (naming_more c.loop-p.invariant c.loop-p-test.true
    (plain _ c.name_row-arg-1.given ∙ ap claimed_row (c.claim_line-claim.ensures ∙ ap claim_line c.line_at-line.ensures))
    c.name_row.ensures)

pub shape_of-named : goal.shape_of-named
shape_of-named c = omega (arith, naming_long c.loop-p.invariant, ap length c.requires, none_long)

pub returns : goal.returns
returns c = naming_all c.loop-p.invariant c.loop-p-test.false
