-- What the inner functions of src/ leave, on the lists that crate start fills in.
use Rattle.std.specs.Prelude.{List, ℤ, Ok}
use Rattle.numbers.specs.Below.{table, over}
use Rattle.why.specs.Why.{Why, end_record, row_record, reasons_of, WhyLeft, leaves}

-- what is left of reasons whose p stands in the lent table already, and fills it
abbrev pub told : (ends rows : List (List ℤ)) → Why → WhyLeft
told ends rows w = leaves (Ok (reasons_of w)) w.p (over (table w.header.borders (end_record w)) ends) (over (table w.header.rows (row_record w)) rows)
