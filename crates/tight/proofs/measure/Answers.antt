-- `tight::measure` meets its contract: what its functions find is put together (`measured`). There are at most 64 borders and 64 bits, so the products fit.
use mathlib.Core.Path.{◌≡◌}
use Prim.Native.Nat.{◌≤◌}
use native.Mathlib.Nat.{mul-le-mul}
use native.Mathlib.Omega.{arith}
use Rattle.rounds.specs.Rounds.{most_sharers}
use Rattle.walk.specs.Flat.{flat_of}
use Rattle.tightrules.proofs.BitsLaws.{sharers_few, bits_few}
use Rattle.tightrules.proofs.PassLaws.{counted_most, measured}
use Rattle.tight.proofs.measure.Goals as goal

pub count_sharers-requires : goal.count_sharers-requires
count_sharers-requires c = c.requires.margins_len.1

pub highest-kws-requires : goal.highest-kws-requires
highest-kws-requires c = record { margins_len = (c.requires.margins_len.0, c.requires.borders_few); ns_value = (c.count_sharers.ensures, counted_most (flat_of c.args.grid.now) c.count_sharers.ensures c.most-n.ensures); small = c.requires.small }

pub overflow_mul-result : goal.overflow_mul-result
overflow_mul-result c =
    let g = flat_of c.args.grid.now in
    let n_is : c.most-n.result ≡ most_sharers g = counted_most g c.count_sharers.ensures c.most-n.ensures in
    omega (arith, n_is, sharers_few g, c.requires.borders_few)

pub overflow_mul-result-2 : goal.overflow_mul-result-2
overflow_mul-result-2 c =
    let g = flat_of c.args.grid.now in
    let n_is : c.most-n.result ≡ most_sharers g = counted_most g c.count_sharers.ensures c.most-n.ensures in
    let n_few : c.most-n.result ≤ 64 = omega (arith, n_is, sharers_few g, c.requires.borders_few) in
    let l_few : c.bits-bits.result ≤ 64 = omega (arith, c.bits-bits.ensures, bits_few c.highest-kws.result.alone (omega arith)) in
    omega (arith, n_few, l_few, mul-le-mul n_few l_few)

pub returns : goal.returns
returns c =
    let g = flat_of c.args.grid.now in
    measured g (counted_most g c.count_sharers.ensures c.most-n.ensures) c.highest-kws.ensures c.bits-bits.ensures c.steps.ensures
