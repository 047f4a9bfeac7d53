-- `daysheet::Sheet::name_of` meets its contract: the first hour that has the border is one of them, or none.
use Rattle.std.proofs.Common.{◌≡◌, arith, rules}
use Rattle.daysheet.specs.Sheet.{first_with}
use Rattle.daysheet.proofs.SheetLaws.{first_le}
use Rattle.daysheet.proofs.Sheet.name_of.Goals as goal

pub item-requires : goal.item-requires
item-requires c =
    let first : c.unwrap_or-first.result ≡ first_with c.args.b c.args.self.now.hours.now = rw c.first_with.ensures at c.unwrap_or-first.ensures in
    (omega (arith, first_le c.args.b c.args.self.now.hours.now), search rules)
