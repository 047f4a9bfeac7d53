-- `text::put::digit_count` meets its contract: the power of ten at or below n says how many digits it has (`decimal_count`).
use Rattle.text.proofs.DigitLaws.{decimal_count}
use Rattle.text.proofs.put.digit_count.Goals as goal

pub returns : goal.returns
returns c = decimal_count c.args.n _ (rw (← c.max.ensures) c.ilog10.ensures.power_le) (rw (← c.max.ensures) c.ilog10.ensures.next_power_gt)
