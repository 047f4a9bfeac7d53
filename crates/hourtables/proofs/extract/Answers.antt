-- `hourtables::extract` meets its contract: there is room for every result, so what it tells is the outcome's (`found-is`).
use native.Mathlib.Nat.{mul-le-mul}
use native.Mathlib.Omega.{arith}
use Rattle.marks.specs.Marks.{every, listed}
use Rattle.types.proofs.RangeLaws.{header_in_lem}
use Rattle.hourtables.proofs.HourLaws.{found_is}
use Rattle.hourtables.proofs.extract.Goals as goal

pub extract_good-requires : goal.extract_good-requires
extract_good-requires c = let h = header_in_lem _ c.requires.good.exact.header in record { good = c.requires.good; borders_in_bounds = mul-le-mul h.rows_most_lem h.borders_most_lem }

pub returns : goal.returns
returns c = found_is (every c.args.marks) (listed c.args.marks) _ c.requires.good _ c.args.atc.now _ c.requires.borders_most_in_bounds (omega arith)
    c.extract_good.result c.extract_good.ensures
