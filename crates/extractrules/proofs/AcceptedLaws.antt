-- What an accepted table has, and what its rounds start from: margins and exchanges, and how large they are. No contract cites this file.
use Rattle.std.specs.Prelude.{Ok}
use mathlib.Core.Path.{◌≡◌, sym, ap, ◌∙◌}
use mathlib.Core.Bool.{Bool, true, false, cond, not, ◌&&◌}
use mathlib.Core.List.{List}
use Prim.Native.Nat.{ℕ, ◌*◌, ◌^◌, ◌≤◌, ◌<◌}
use native.Mathlib.Nat.{le_of_eq, le_trans, mul-le-mul}
use native.Mathlib.Omega.{arith}
use lib.Dec.{ltb}
use lib.IntN.{ℤ, pos, negsuc, nat_abs}
use lib.ListN.{length}
use lib.Signed.{lt_z}
use Rattle.numbers.specs.Ints.{positive_part}
use Rattle.numbers.specs.Below.{at, sum, some_below}
use Rattle.numbers.proofs.BelowLaws.{sum_mono, table_get}
use Rattle.refusals.proofs.RefusalLaws.{passed_is, unless_passed, none_passed, then_passed}
use Rattle.types.specs.declared.Border.{Border}
use Rattle.types.specs.Ranges.{at_ℤ, is_intraday}
use Rattle.tablerules.specs.Table.{Table, border_at, factors_at}
use Rattle.rounds.specs.Rounds.{load}
use Rattle.marginrules.specs.Margin.{p_of, lta_kw, s_of, s_at, margin_of, starts_of}
use Rattle.setup.specs.Setup.{grid_by, begin_by, judge_by}
use Rattle.staterules.specs.Standings.{standings_of}
use Rattle.staterules.specs.States.{kept}
use Rattle.extractrules.specs.Start.{from_by, grid_marked, table_start, judge_marked, setup_with}
use Rattle.extractrules.specs.Extraction.{Result, result_marked, outcome_marked}

-- ---- what an accepted table has
starts_at : (t : Table) (i : ℕ) → i < t.header.rows → at_ℤ (starts_of t) i ≡ margin_of t i
starts_at t i h = table_get t.header.rows (margin_of t) i (pos 0) h

pub record Accepted (marked : ℕ → Bool) (t : Table) (r : Result) : Type 0 where
  pub is : result_marked marked t ≡ r
  pub loaded : (b : ℕ) → b < t.header.borders → (marked b && not (some_below t.header.rows (λ i. ltb 0 ((grid_marked marked t).p i b)))) ≡ false
  pub above : (i : ℕ) → i < t.header.rows → (kept (standings_of t).states i && (not (is_intraday t.header) && lt_z (margin_of t i) (pos 0))) ≡ false

pub accepted : (marked : ℕ → Bool) (t : Table) (r : Result) → outcome_marked marked t ≡ Ok r → Accepted marked t r
unfolding outcome_marked judge_by grid_by setup_with
accepted marked t r e =
    let w = then_passed (judge_marked marked t) (λ states. Ok (result_marked marked t)) r e in
    let a = unless_passed w.it _ _ _ w.first in
    let b = none_passed _ _ _ _ w.it a.1 in
    let c = none_passed _ _ _ _ w.it b.1 in
    record {
      is = passed_is _ _ w.second;
      loaded = b.0;
      above = λ i h. ap (λ (z : ℤ). kept (standings_of t).states i && (not (is_intraday t.header) && lt_z z (pos 0))) (sym (starts_at t i h)) ∙ c.0 i h;
    }

-- ---- what the rounds of a table start from
pub part_le_abs : (z : ℤ) → positive_part z ≤ nat_abs z
unfolding positive_part
part_le_abs (pos n) = omega arith
part_le_abs (negsuc n) = omega arith

pub part_le_whole : (k : Bool) (p : ℕ) → cond k p 0 ≤ p
part_le_whole true p = omega arith
part_le_whole false p = omega arith

from_most : (intraday : Bool) (border : Border) → from_by intraday border ≤ lta_kw border
from_most true border = omega arith
from_most false border = omega arith

module _ (t : Table) where
  abbrev states : List ℕ
  states = (standings_of t).states

  -- S of a row
  abbrev s_of_lem : (i : ℕ) → ℕ
  s_of_lem i = s_at t.header t.borders t.factors i

  start-x : (b : ℕ) → b < t.header.borders → at (table_start t).x b ≡ from_by (is_intraday t.header) (border_at t b)
  unfolding begin_by setup_with
  start-x b h = table_get t.header.borders (λ b. from_by (is_intraday t.header) (border_at t b)) b 0 h

  start-margin : (i : ℕ) → i < t.header.rows → at (table_start t).margins i ≡ cond (kept states i) (positive_part (margin_of t i)) 0
  unfolding begin_by setup_with
  start-margin i h =
      table_get t.header.rows (λ i. cond (kept states i) (positive_part (at_ℤ (starts_of t) i)) 0) i 0 h
      ∙ ap (λ (z : ℤ). cond (kept states i) (positive_part z) 0) (starts_at t i h)

  -- S is the load of all LTAs
  s-ltas : length t.borders ≡ t.header.borders → (i : ℕ) → sum t.header.borders (λ b. p_of (factors_at t i) (border_at t b) * lta_kw (border_at t b)) ≡ s_of_lem i
  unfolding s_of
  s-ltas long i = ap (λ (n : ℕ). sum n (λ b. p_of (factors_at t i) (border_at t b) * lta_kw (border_at t b))) (sym long)

  -- the load at the start is at most S. It may be less where a border is not marked, where the row takes no part, and in the intraday profile
  pub load_le : (marked : ℕ → Bool) → length t.borders ≡ t.header.borders → (i : ℕ) → load (grid_marked marked t) i (table_start t).x ≤ s_of_lem i
  unfolding load grid_by setup_with
  load_le marked long i =
      le_trans
      (sum_mono t.header.borders _ _ (λ b h.
      mul-le-mul (part_le_whole (marked b && kept states i) (p_of (factors_at t i) (border_at t b))) (rw (start-x b h) (from_most (is_intraday t.header) (border_at t b)))))
      (le_of_eq (s-ltas long i))

  -- rounds start from margins of less than 2^E where the table's are less than 2^E in magnitude
  pub small_start : (E : ℕ) → ((i : ℕ) → i < t.header.rows → nat_abs (margin_of t i) < 2 ^ E) → (i : ℕ) → i < t.header.rows → at (table_start t).margins i < 2 ^ E
  small_start E small i h = rw (start-margin i h) (go (kept states i))
    where
      go : (k : Bool) → cond k (positive_part (margin_of t i)) 0 < 2 ^ E
      go true = omega (arith, part_le_abs (margin_of t i), small i h)
      go false = omega (arith, small i h)
