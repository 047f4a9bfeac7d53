-- That the text of the bound is not too long to be printed. No contract cites this file.
use Rattle.std.specs.Prelude.{Ok}
use mathlib.Core.Path.{◌≡◌, ap, subst, ◌∙◌}
use mathlib.Core.Bool.{Bool}
use mathlib.Core.List.{List}
use Prim.Native.Nat.{ℕ, ◌*◌, ◌^◌, ◌≤◌}
use native.Mathlib.Nat.{mul-le-mul, le_refl}
use native.Mathlib.Omega.{arith}
use lib.ListN.{length}
use Rattle.limits.specs.Limits.{borders_most, bytes_most}
use Rattle.refusals.proofs.RefusalLaws.{passed_is, then_passed}
use Rattle.types.proofs.RangeLaws.{header_in_lem}
use Rattle.marks.specs.Marks.{judge_asked, may_rise}
use Rattle.marks.proofs.MarkLaws.{asked_then}
use Rattle.text.proofs.WrittenLaws.{decimal_long}
use Rattle.tablerules.specs.Table.{Table}
use Rattle.tablerules.specs.Good.{Good}
use Rattle.rounds.specs.Rounds.{Grid, most_sharers, alone_bits}
use Rattle.rounds.proofs.Round.{alone_lt}
use Rattle.rounds.proofs.Theorems.{alone_least}
use Rattle.marginrules.specs.Magnitudes.{start_bits}
use Rattle.marginrules.proofs.Small.{named_values_small}
use Rattle.setup.specs.Setup.{grid_by}
use Rattle.extractrules.specs.Start.{setup_with, grid_marked, table_start, judge_marked}
use Rattle.extractrules.proofs.AcceptedLaws.{small_start}
use Rattle.tightrules.specs.declared.RoundsMost.{RoundsMost}
use Rattle.tightrules.specs.Tight.{tight_bound}
use Rattle.tightrules.specs.Measure.{bound_by}
use Rattle.tightrules.proofs.BitsLaws.{sharers_few}
use Rattle.tightrules.proofs.SharperLaws.{tight_le}
use Rattle.boundrules.specs.Bound.{bound_of, bound_marked, bound_asked}
use Rattle.boundtext.specs.BoundText.{bound_text, bound_text_of}
use Rattle.boundtext.proofs.BoundTextLaws.{bound_line_long}

-- ---- the bound: N is at most 64, and 2^49 is above every starting margin, so L is at most 49; the sharper bound is at most 2 N L
module _ (marked : ℕ → Bool) {t : Table} (good : Good t) where
  abbrev grid : Grid
  grid = grid_marked marked t

  sharers-most : most_sharers grid ≤ borders_most
  unfolding grid_by setup_with
  sharers-most = omega (arith, sharers_few grid, (header_in_lem t.header good.exact.header).borders_most_lem)

  bits_most : alone_bits grid (table_start t).margins ≤ start_bits
  unfolding grid_by setup_with
  bits_most =
      alone_least grid (table_start t).margins start_bits
      (λ b h. alone_lt grid (table_start t).margins b (2 ^ start_bits) (omega arith) (λ i k. small_start t start_bits (λ j l. (named_values_small good j l).start) i k))

  bound-short : length (bound_text (bound_of marked t)) ≤ bytes_most
  unfolding bound_by
  bound-short =
      let n = most_sharers grid in
      let l = alone_bits grid (table_start t).margins in
      let sharp = tight_bound grid (table_start t).margins in
      let rounds : 2 * n * l ≤ 2 * borders_most * start_bits = mul-le-mul (mul-le-mul (le_refl 2) sharers-most) bits_most in
      omega (
        arith,
        bound_line_long n l (2 * n * l) sharp,
        decimal_long 1 n (omega (arith, sharers-most)),
        decimal_long 1 l (omega (arith, bits_most)),
        decimal_long 3 (2 * n * l) (omega (arith, rounds)),
        decimal_long 3 sharp (omega (arith, rounds, tight_le grid (table_start t).margins)),
      )

pub bound_fits : {t : Table} → Good t → (all : Bool) (marks text : List ℕ) → bound_text_of (bound_asked all marks t) ≡ Ok text → length text ≤ bytes_most
unfolding bound_marked
bound_fits {t} good all marks text e =
    let d = then_passed (bound_asked all marks t) _ text e in
    let a = then_passed (judge_asked all t.header.borders marks (Ok marks)) _ d.it (asked_then all t.header.borders marks marks (bound_marked (may_rise all marks) t) ∙ d.first) in
    let b = then_passed (judge_marked (may_rise all marks) t) _ d.it a.second in
    let is : bound_text (bound_of (may_rise all marks) t) ≡ text = ap (λ (m : RoundsMost). bound_text m) (passed_is _ _ b.second) ∙ passed_is _ _ d.second in
    subst (λ (s : List ℕ). length s ≤ bytes_most) is (bound-short (may_rise all marks) good)
