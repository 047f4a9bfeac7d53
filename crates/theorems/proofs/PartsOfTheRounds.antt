-- What a record says of a kept row is what the rounds go by: its n is the rounds' n, and where its starting margin is not below 0 they start from it. Nobody cites these.
use mathlib.Core.Path.{◌≡◌, refl, sym, ap, ◌∙◌}
use mathlib.Core.Bool.{Bool, true, false, cond}
use mathlib.Core.List.{[]}
use Prim.Native.Nat.{ℕ, ◌<◌}
use native.Mathlib.Omega.{arith}
use borrow.Author.Tests.{le-ltb}
use lib.IntN.{ℤ, pos, negsuc}
use lib.ListN.{get_or}
use Rattle.numbers.specs.Ints.{max_ℤ, positive_part}
use Rattle.numbers.specs.Below.{at, count}
use Rattle.numbers.proofs.BelowLaws.{count_cong, table_get}
use Rattle.types.specs.Ranges.{at_ℤ, is_intraday, border_of}
use Rattle.tablerules.specs.Table.{Table, factors_at}
use Rattle.tablerules.specs.Good.{Good}
use Rattle.rounds.specs.Rounds.{sharers}
use Rattle.marginrules.specs.Margin.{p_of, margin_of, starts_of}
use Rattle.staterules.specs.Standings.{standings_of}
use Rattle.setup.specs.Setup.{grid_by, begin_by}
use Rattle.staterules.specs.States.{kept}
use Rattle.extractrules.specs.Start.{table_grid, table_start, setup_with}
use Rattle.partrules.specs.Parts.{n_of, start_from, parts_of}

start_part : (intraday : Bool) (z : ℤ) → positive_part (start_from intraday z) ≡ positive_part z
unfolding start_from max_ℤ positive_part
start_part false z = refl
start_part true (pos n) = ap (λ (low : Bool). positive_part (cond low (pos 0) (pos n))) (le-ltb n 0 (omega arith))
start_part true (negsuc n) = refl

module _ (t : Table) (i : ℕ) (k : kept (standings_of t).states i ≡ true) where
  pub kept_n : Good t → (parts_of t i).n ≡ sharers (table_grid t) i
  unfolding parts_of n_of sharers grid_by setup_with
  kept_n good =
      ap (λ (n : ℕ). count n (λ b. p_of (factors_at t i) (border_of (get_or t.borders b [])))) good.exact.borders_long
      ∙ count_cong t.header.borders _ _ (λ b h. sym (ap (λ (takes : Bool). cond takes (p_of (factors_at t i) (border_of (get_or t.borders b []))) 0) k))

  pub kept_start : i < t.header.rows → at (table_start t).margins i ≡ positive_part (parts_of t i).start
  unfolding parts_of begin_by setup_with
  kept_start h =
      table_get t.header.rows (λ i. cond (kept (standings_of t).states i) (positive_part (at_ℤ (starts_of t) i)) 0) i 0 h
      ∙ ap (λ (takes : Bool). cond takes (positive_part (at_ℤ (starts_of t) i)) 0) k
      ∙ ap positive_part (table_get t.header.rows (margin_of t) i (pos 0) h)
      ∙ sym (start_part (is_intraday t.header) (margin_of t i))
