use Rattle.std.proofs.lemmas.Result.{err_from_is_err_and}
use mathlib.Core.Path.{refl, ap}
use Prim.Native.Nat.{◌≤◌}
use native.Mathlib.Omega.{arith}
use lib.ListN.{length}
use Rattle.numbers.proofs.IntLaws.{plain}
use Rattle.limits.specs.Limits.{rows_most}
use Rattle.claims.proofs.NameLaws.{none_long}
use Rattle.claims.proofs.JudgeLaws.{judging_none, judging_long, judging_all, judging_refused, judging_more}
use Rattle.claims.proofs.judge_each.Goals as goal

pub loop-k-init : goal.loop-k-init
loop-k-init c = judging_none _ _ _ _ _ c.requires.named_value.1

pub judge_claim-requires : goal.judge_claim-requires
judge_claim-requires c = record { lent = c.requires.lent; lent_2 = c.requires.lent_2; states_len = c.requires.states_len.0 }

pub shape_of-earlier-in_err-judge_claim : goal.shape_of-earlier-in_err-judge_claim
shape_of-earlier-in_err-judge_claim c = omega (arith, judging_long _ _ _ _ _ c.loop-k.invariant, ap length c.requires.named_value.1, none_long)

pub returns-in_err-judge_claim : goal.returns-in_err-judge_claim
returns-in_err-judge_claim c =
    let p = err_from_is_err_and c.from_residual.result c.from_residual.ensures.1 in
    rw (p.1, p.2) (let few : length c.args.states.now ≤ rows_most = omega (arith, c.requires.states_len.0, c.requires.states_len.1) in
    judging_refused _ _ _ _ _ c.loop-k.invariant (omega arith) (few) c.requires.named_value.0 refl _ c.judge_claim.ensures _ c.in_err-judge_claim.was)

pub loop-k-preserved : goal.loop-k-preserved
loop-k-preserved c = let few : length c.args.states.now ≤ rows_most = omega (arith, c.requires.states_len.0, c.requires.states_len.1) in
    judging_more _ _ _ _ _ c.loop-k.invariant (omega arith) (few) c.requires.named_value.0 refl _ c.judge_claim.ensures c.in_ok-judge_claim.was (plain _ c.name_row-arg-1.given) c.name_row.ensures

pub shape_of-earlier : goal.shape_of-earlier
shape_of-earlier c = omega (arith, judging_long _ _ _ _ _ c.loop-k.invariant, ap length c.requires.named_value.1, none_long)

pub returns : goal.returns
returns c = judging_all _ _ _ _ _ c.loop-k.invariant (omega arith)
