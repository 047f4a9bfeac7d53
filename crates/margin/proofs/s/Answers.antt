use mathlib.Core.Path.{◌≡◌, ◌∙◌}
use Prim.Native.Nat.{ℕ, ◌+◌, ◌<◌}
use native.Mathlib.Omega.{arith}
use lib.ListN.{length, get_or}
use mathlib.Core.List.{[]}
use Rattle.numbers.specs.Below.{sum}
use Rattle.types.specs.Ranges.{border_of}
use Rattle.marginrules.specs.Magnitudes.{BorderInRange}
use Rattle.marginrules.proofs.MagnitudeLaws.{loads, s_upto, s_none, s_more, s_all}
use Rattle.marginrules.proofs.JudgedLaws.{border_ranges}
use Rattle.margin.proofs.s.Goals as goal

abbrev b : (c : goal.After-lta_load-s) → ℕ
b c = c.loop-b.b

turned : (c : goal.After-lta_load-s) → c.loop-b.s + c.lta_load-s.result ≡ sum ((b c) + 1) (loads c.args.factors.now c.args.borders.now)
turned c = s_more c.args.factors.now c.args.borders.now (b c) c.loop-b.invariant.1 c.lta_load-s.ensures

bound : (c : goal.After-lta_load-s) → (k : ℕ) → k < length c.args.borders.now → BorderInRange (length c.args.factors.now) (border_of (get_or c.args.borders.now k []))
bound c k l = border_ranges _ (get_or c.args.borders.now k []) (c.requires.borders_in_range.each k l)

pub loop-b-init : goal.loop-b-init
loop-b-init c = (omega arith, s_none c.args.factors.now c.args.borders.now)

pub lta_load-s-requires : goal.lta_load-s-requires
lta_load-s-requires c = record { factors_in_range = c.requires.factors_in_range; raw_value = c.requires.borders_in_range.each c.loop-b.b (omega arith) }

pub overflow_add-s : goal.overflow_add-s
overflow_add-s c = let few : b c < length c.args.borders.now = omega arith in
    omega (arith, turned c, s_upto c.requires.factors_in_range.each c.args.borders.now (bound c) (b c + 1) (omega arith), c.requires.borders_in_range.few)

pub loop-b-preserved : goal.loop-b-preserved
loop-b-preserved c = (omega arith, turned c)

pub returns : goal.returns
returns c = c.loop-b.invariant.1 ∙ s_all c.args.factors.now c.args.borders.now c.loop-b.b (omega arith)
