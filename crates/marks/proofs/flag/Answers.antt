-- `marks::flag` meets its contract.
use Rattle.std.specs.Prelude.{IsTrue, ◌↔◌}
use Rattle.std.specs.List.{Contains}
use borrow.Author.Rules.{rules}
use mathlib.Core.Path.{◌≡◌, refl, sym}
use mathlib.Core.Bool.{Bool, true, false, cond}
use lib.Dec.{eqb}
use lib.ListN.{length}
use mir.Val.{bool_byte}
use Rattle.numbers.specs.Below.{at, some_below}
use Rattle.marks.specs.Marks.{marked_by}
use Rattle.marks.proofs.MarkLaws.{contained}
use Rattle.marks.proofs.flag.Goals as goal

told : (m : Bool) → bool_byte m ≡ cond m 1 0
told true = refl
told false = refl

pub returns-in-Some : goal.returns-in-Some
unfolding marked_by
returns-in-Some c =
    let has : IsTrue c.contains.result ↔ Contains c.in-Some.marks.now c.args.b = search rules in
    let marked : c.contains.result ≡ some_below (length c.in-Some.marks.now) (λ k. eqb (at c.in-Some.marks.now k) c.args.b) = contained c.in-Some.marks.now c.args.b _ has in
    rw (c.from.ensures, c.in-Some.is, sym marked) (told c.contains.result)
