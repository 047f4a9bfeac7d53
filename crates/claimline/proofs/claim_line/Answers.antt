-- `claimline::claim_line` meets its contract: its pairs are few, or too many.
use mathlib.Core.Path.{sym, subst, ◌∙◌}
use Prim.Native.Nat.{ℕ, ◌+◌, ◌*◌, ◌<◌, ◌≤◌}
use native.Mathlib.Omega.{arith}
use lib.ListN.{length}
use Rattle.claimrules.specs.Claims.{pairs_most}
use Rattle.claimline.proofs.ReadLaws.{pairs_long, line_is}
use Rattle.claimline.proofs.claim_line.Goals as goal

pub returns-then-pairs-lt-CROWDED : goal.returns-then-pairs-lt-CROWDED
returns-then-pairs-lt-CROWDED c = c.claim_with.ensures ∙ line_is _ c.pairs_in-pairs.ensures

pub crowded_line-requires : goal.crowded_line-requires
crowded_line-requires c = let many : pairs_most < c.pairs_in-pairs.result = omega arith in
    (many, subst (λ (n : ℕ). 1 + 2 * n ≤ length c.args.line.now) (sym c.pairs_in-pairs.ensures) (pairs_long c.args.line.now (subst (λ (n : ℕ). pairs_most < n) c.pairs_in-pairs.ensures many)))

pub returns : goal.returns
returns c = c.crowded_line.ensures ∙ line_is _ c.pairs_in-pairs.ensures
