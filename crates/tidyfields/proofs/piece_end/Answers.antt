-- `tidyfields::piece_end` meets its contract: the bytes before the first of the two are the piece (`leading_length`).
use Prim.Native.Nat.{ℕ, ◌+◌}
use native.Mathlib.Omega.{arith}
use mathlib.Core.List.{List}
use mathlib.Core.Path.{◌≡◌, ap, ◌∙◌}
use lib.ListN.{length, drop}
use Rattle.std.proofs.Common.{rules}
use Rattle.std.proofs.lemmas.Grind.{common_steps}
use Rattle.std.proofs.lemmas.List.Sums.{prefix_len-le-length}
use Rattle.tidyfields.specs.Pieces.{leading}
use Rattle.tidyfields.proofs.PieceLaws.{leading_length}
use Rattle.tidyfields.proofs.piece_end.Goals as goal

pub overflow_add-result : goal.overflow_add-result
overflow_add-result c = search (rules, prefix_len-le-length)

pub returns-in-Some : goal.returns-in-Some
returns-in-Some c = let is : c.in-Some.rest.now ≡ drop c.args.at c.args.text.now = grind (arith, common_steps) in
    ap (λ (n : ℕ). c.args.at + n) (c.count_before.ensures ∙ leading_length c.args.stop c.args.other c.in-Some.rest.now ∙ ap (λ (s : List ℕ). length (leading c.args.stop c.args.other s)) is)
