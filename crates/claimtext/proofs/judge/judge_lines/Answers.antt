use Rattle.std.proofs.lemmas.Result.{err_from_is_err_and}
use mathlib.Core.Path.{◌≡◌, ap, ◌∙◌}
use mathlib.Core.List.{[]}
use Prim.Native.Nat.{◌≤◌}
use native.Mathlib.Omega.{arith}
use lib.ListN.{length, get_or}
use Rattle.numbers.proofs.IntLaws.{plain}
use Rattle.limits.specs.Limits.{rows_most}
use Rattle.claims.proofs.NameLaws.{none_long}
use Rattle.claims.proofs.JudgeLaws.{judging_none, judging_long, judging_all, judging_refused, judging_more}
use Rattle.claimline.specs.ClaimText.{claim_line, claims_in}
use Rattle.claimline.proofs.ReadLaws.{lines_first, after_within, after_further, lines_all_lem, lines_some, lines_here, lines_more}
use Rattle.claimtext.proofs.judge.judge_lines.Goals as goal

pub loop-p-init : goal.loop-p-init
loop-p-init c = (lines_first _, judging_none _ _ _ _ _ c.requires.named_value.1)

pub line_at-line-requires : goal.line_at-line-requires
line_at-line-requires c = c.loop-p.invariant.0.within

pub judge_claim-requires : goal.judge_claim-requires
judge_claim-requires c = record { lent = c.requires.lent; lent_2 = c.requires.lent_2; states_len = c.requires.states_len.0 }

pub shape_of-earlier-in_err-judge_claim : goal.shape_of-earlier-in_err-judge_claim
shape_of-earlier-in_err-judge_claim c = omega (arith, judging_long _ _ _ _ _ c.loop-p.invariant.1, ap length c.requires.named_value.1, none_long)

pub returns-in_err-judge_claim : goal.returns-in_err-judge_claim
returns-in_err-judge_claim c =
    let p = err_from_is_err_and c.from_residual.result c.from_residual.ensures.1 in
    rw (p.1, p.2) (let claim-is : c.claim_line-claim.result ≡ get_or (claims_in c.args.list.now) c.loop-p.k [] = c.claim_line-claim.ensures ∙ ap claim_line c.line_at-line.ensures ∙ lines_here c.loop-p.invariant.0 c.loop-p-test.true in
    let few : length c.args.states.now ≤ rows_most = omega (arith, c.requires.states_len.0, c.requires.states_len.1) in
    judging_refused _ _ _ _ _ c.loop-p.invariant.1 (lines_some c.loop-p.invariant.0 c.loop-p-test.true) few c.requires.named_value.0 claim-is _ c.judge_claim.ensures _ c.in_err-judge_claim.was)

pub overflow_add-p : goal.overflow_add-p
overflow_add-p c = rw c.line_at-line.ensures (omega (arith, after_within c.loop-p.invariant.0, c.well_formed))

pub overflow_add-k : goal.overflow_add-k
overflow_add-k c = omega (arith, c.loop-p.invariant.0.many, c.loop-p.invariant.0.within, lines_some c.loop-p.invariant.0 c.loop-p-test.true, c.well_formed)

pub loop-p-smaller : goal.loop-p-smaller
loop-p-smaller c = rw c.line_at-line.ensures (omega (arith, after_within c.loop-p.invariant.0, after_further c.loop-p.invariant.0 c.loop-p-test.true))

pub loop-p-preserved : goal.loop-p-preserved
loop-p-preserved c = let claim-is : c.claim_line-claim.result ≡ get_or (claims_in c.args.list.now) c.loop-p.k [] = c.claim_line-claim.ensures ∙ ap claim_line c.line_at-line.ensures ∙ lines_here c.loop-p.invariant.0 c.loop-p-test.true in
    let few : length c.args.states.now ≤ rows_most = omega (arith, c.requires.states_len.0, c.requires.states_len.1) in (
      rw c.line_at-line.ensures (lines_more c.loop-p.invariant.0 c.loop-p-test.true),
      judging_more _ _ _ _ _ c.loop-p.invariant.1 (lines_some c.loop-p.invariant.0 c.loop-p-test.true) few c.requires.named_value.0 claim-is _ c.judge_claim.ensures c.in_ok-judge_claim.was (plain _ c.name_row-arg-1.given) c.name_row.ensures,
    )

pub shape_of-earlier : goal.shape_of-earlier
shape_of-earlier c = omega (arith, judging_long _ _ _ _ _ c.loop-p.invariant.1, ap length c.requires.named_value.1, none_long)

pub returns : goal.returns
returns c = judging_all _ _ _ _ _ c.loop-p.invariant.1 (omega (arith, lines_all_lem c.loop-p.invariant.0 c.loop-p-test.false))
