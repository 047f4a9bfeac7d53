-- `tidyfields::decimals_past` meets its contract: what is behind the first digits says how many decimals there are (`past_behind`).
use mathlib.Core.Path.{◌≡◌}
use Prim.Native.Nat.{◌-◌}
use native.Mathlib.Omega.{arith}
use lib.ListN.{length, take, drop}
use Rattle.std.proofs.Common.{rules}
use Rattle.std.proofs.lemmas.Grind.{common_steps}
use Rattle.std.specs.List.{prefix_len}
use Rattle.std.proofs.lemmas.List.Sums.{prefix_len-le-length}
use Rattle.text.specs.Fields.{is_digit}
use Rattle.tidyfields.proofs.PieceLaws.{past_behind}
use Rattle.tidyfields.proofs.decimals_past.Goals as goal

pub split_at-requires : goal.split_at-requires
split_at-requires c = search (rules, prefix_len-le-length)

pub returns-in-46 : goal.returns-in-46
returns-in-46 c = let e : c.split_at.result.1.now ≡ drop (prefix_len is_digit c.args.f.now) c.args.f.now = search rules in
    let decimals = take (length c.split_at.result.1.now - 1) (drop 1 c.split_at.result.1.now) in
    let all : prefix_len is_digit decimals ≡ length decimals = omega (arith, c.count_digits-then-not-is_empty.ensures) in
    rw (← past_behind c.args.f.now c.split_at.result.1.now e) (grind (arith, common_steps, all))

pub returns-in_default : goal.returns-in_default
returns-in_default c = let e : c.split_at.result.1.now ≡ drop (prefix_len is_digit c.args.f.now) c.args.f.now = search rules in
    rw (← past_behind c.args.f.now c.split_at.result.1.now e) (search rules)

pub returns-in_default-2 : goal.returns-in_default-2
returns-in_default-2 c = let e : c.split_at.result.1.now ≡ drop (prefix_len is_digit c.args.f.now) c.args.f.now = search rules in
    rw (← past_behind c.args.f.now c.split_at.result.1.now e) (grind (arith, common_steps))

pub returns-in_default-4 : goal.returns-in_default-4
returns-in_default-4 c = let e : c.split_at.result.1.now ≡ drop (prefix_len is_digit c.args.f.now) c.args.f.now = search rules in
    rw (← past_behind c.args.f.now c.split_at.result.1.now e) (search rules)
