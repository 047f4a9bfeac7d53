use Prim.Native.Nat.{ℕ, ◌-◌, ◌+◌, ◌*◌}
use mathlib.Core.Path.{◌≡◌, sym, ap, ◌∙◌}
use mathlib.Core.Bool.{not}
use mathlib.Core.List.{[]}
use native.Mathlib.Omega.{arith}
use lib.ListN.{length, get_or, take, drop}
use Rattle.numbers.proofs.BelowLaws.{looked_none, looked_all, looked_here, looked_more}
use Rattle.tablerules.specs.Table.{row_good, stretch}
use Rattle.tablerules.proofs.StretchLaws.{stretch_end}
use Rattle.table.proofs.first_row_out.Goals as goal

pub loop-i-init : goal.loop-i-init
loop-i-init c = looked_none _ _

pub overflow_mul-start : goal.overflow_mul-start
overflow_mul-start c = omega (arith, stretch_end c.args.zones (length c.args.c.now) c.loop-i.i (omega arith))

pub overflow_add-start : goal.overflow_add-start
overflow_add-start c = omega (arith, stretch_end c.args.zones (length c.args.c.now) c.loop-i.i (omega arith))

pub offset_bounds-f-start : goal.offset_bounds-f-start
offset_bounds-f-start c = omega (arith, stretch_end c.args.zones (length c.args.c.now) c.loop-i.i (omega arith))

pub slice_bounds-row_good-end : goal.slice_bounds-row_good-end
slice_bounds-row_good-end c = omega (arith, stretch_end c.args.zones (length c.args.c.now) c.loop-i.i (omega arith))

pub returns-then-not-good : goal.returns-then-not-good
unfolding stretch
returns-then-not-good c = let judged : not c.row_good-good.result ≡ not (row_good (get_or c.args.c.now c.loop-i.i []) (stretch c.args.zones c.args.f.now c.loop-i.i)) = let k : c.loop-i.i * c.args.zones + c.args.zones - c.loop-i.i * c.args.zones ≡ c.args.zones = omega arith in
    ap not (c.row_good-good.ensures ∙ ap (λ (n : ℕ). row_good (get_or c.args.c.now c.loop-i.i []) (take n (drop (c.loop-i.i * c.args.zones) c.args.f.now))) k) in
    looked_here _ _ _ c.loop-i.invariant (omega arith) (sym (judged) ∙ c.if-not-good.true-raw)

pub loop-i-preserved : goal.loop-i-preserved
unfolding stretch
loop-i-preserved c = let judged : not c.row_good-good.result ≡ not (row_good (get_or c.args.c.now c.loop-i.i []) (stretch c.args.zones c.args.f.now c.loop-i.i)) = let k : c.loop-i.i * c.args.zones + c.args.zones - c.loop-i.i * c.args.zones ≡ c.args.zones = omega arith in
    ap not (c.row_good-good.ensures ∙ ap (λ (n : ℕ). row_good (get_or c.args.c.now c.loop-i.i []) (take n (drop (c.loop-i.i * c.args.zones) c.args.f.now))) k) in
    looked_more _ _ _ c.loop-i.invariant (omega arith) (sym (judged) ∙ c.if-not-good.false-raw)

pub returns : goal.returns
returns c = looked_all _ _ _ c.loop-i.invariant (omega arith)
