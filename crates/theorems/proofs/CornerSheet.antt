-- The corner sheet (02, E1): every corner stands there, each once, and the largest flow is S; for any number of borders. No contract cites this file.
use Rattle.std.specs.Prelude.{Err, Ok}
use mathlib.Core.Path.{◌≡◌, refl, sym, ap, subst, ◌∙◌}
use mathlib.Core.Bool.{Bool, cond}
use mathlib.Core.List.{List}
use Prim.Native.Nat.{ℕ, ◌^◌, ◌≤◌, ◌<◌}
use native.Mathlib.Omega.{arith}
use lib.IntN.{ℤ, pos}
use lib.ListN.{length}
use lib.Signed.{◌≤ℤ◌}
use Rattle.numbers.specs.Below.{over}
use Rattle.numbers.proofs.BelowLaws.{sum_ℤ_cong}
use Rattle.refusals.specs.Refusals.{too_short}
use Rattle.types.specs.Ranges.{at_ℤ}
use Rattle.tablerules.specs.Table.{Table, factors_at}
use Rattle.marginrules.specs.Margin.{corner_part, corner_sum, s_of}
use Rattle.marginrules.proofs.Corner.{used}
use Rattle.theorems.proofs.LargestCorner.{s_largest_corner}
use Rattle.cornerrules.specs.Corners.{part_of, flows_of, judge_corners, flows_left, corners_left, Stands, Largest}
use Rattle.cornerrules.proofs.CornerLaws.{flows_length, flows_at}
use Rattle.cornerrules.proofs.SheetLaws.{flows_long, sheet_short, sheet_all, judged_sheet}
use Rattle.theorems.proofs.CornerBits.{corner_of, number_below, number_bits, number_only, part_chosen}

module _ (factors : List ℤ) (borders : List (List ℤ)) where
  -- as many flows as corners
  pub sheet_long : length (flows_of factors borders) ≡ 2 ^ length borders
  sheet_long = flows_length (part_of factors borders) (length borders)

  -- the flow at number k is the sum of the corner of that number, as summed for S
  pub sheet_at_lem : (k : ℕ) → k < length (flows_of factors borders) → at_ℤ (flows_of factors borders) k ≡ corner_sum factors borders k
  unfolding corner_sum
  sheet_at_lem k h = flows_at (part_of factors borders) (length borders) k (omega (arith, sheet_long))

  -- every use of the borders stands there, each once
  pub every_corner_stands : (used : ℕ → Bool) → Stands factors borders used
  unfolding corner_part
  every_corner_stands chosen =
      let n = length borders in
      let part = part_of factors borders in
      let k = corner_of chosen n in
      let below = number_below chosen n in
      record {
        corner = k;
        below = omega (arith, sheet_long, below);
        bits = number_bits chosen n;
        once = λ j h all. number_only chosen n j (omega (arith, sheet_long)) all;
        flow =
            flows_at part n k below
            ∙ sum_ℤ_cong n (used part k) (λ b. cond (chosen b) (part b) (pos 0))
            (λ b h. part_chosen part k b ∙ ap (λ (t : Bool). cond t (part b) (pos 0)) (number_bits chosen n b h));
      }

  -- the largest flow is S
  pub largest_flow_is_s : Largest (flows_of factors borders) (pos (s_of factors borders))
  largest_flow_is_s =
      let s = s_largest_corner factors borders in
      let below : s.corner < length (flows_of factors borders) = omega (arith, sheet_long, s.below) in
      record {
        none_over = λ k h. subst (λ (z : ℤ). z ≤ℤ pos (s_of factors borders)) (sym (sheet_at_lem k h)) (s.all k);
        corner = s.corner;
        below = below;
        is = sheet_at_lem s.corner below ∙ s.is;
      }

-- a call for a row of an accepted table leaves that sheet in front of what was there, and asks for one number for each corner
module _ (given : Table) (row : ℕ) (t : Table) (judged : judge_corners given row ≡ Ok t) (old : List ℤ) where
  pub sheet_filled : 2 ^ t.header.borders ≤ length old
      → corners_left given row old ≡ flows_left (Ok (2 ^ t.header.borders)) (over (flows_of (factors_at t row) t.borders) old)
  unfolding corners_left
  sheet_filled h =
      let s = judged_sheet given row t judged in
      sheet_all (judge_corners given row) row old t judged s h
      ∙ ap (λ (n : ℕ). flows_left (Ok n) (over (flows_of (factors_at t row) t.borders) old)) (flows_long s)

  pub sheet_no_room : length old < 2 ^ t.header.borders → corners_left given row old ≡ flows_left (Err (too_short (2 ^ t.header.borders))) old
  unfolding corners_left
  sheet_no_room h = sheet_short (judge_corners given row) row old t judged (judged_sheet given row t judged) _ refl h
