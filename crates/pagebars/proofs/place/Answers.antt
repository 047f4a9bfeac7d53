-- `pagebars::place` meets its contract: both factors are under their limits.
use Rattle.std.proofs.Common.{◌≤◌, mul-le-mul, arith}
use Rattle.pagebars.proofs.place.Goals as goal

pub overflow_mul-result : goal.overflow_mul-result
overflow_mul-result c =
    let few : c.min.result ≤ 18014398509481984 = omega arith in
    let short : c.min-else-end-v.result ≤ 512 = omega arith in
    omega (arith, mul-le-mul few short)
