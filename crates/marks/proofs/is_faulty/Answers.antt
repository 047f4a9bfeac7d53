-- `marks::is_faulty` meets its contract.
use Rattle.std.specs.Prelude.{IsTrue, ◌↔◌}
use Rattle.std.specs.List.{Contains}
use borrow.Author.Rules.{rules}
use lib.ListN.{take}
use Rattle.numbers.specs.Below.{at}
use native.Mathlib.Omega.{arith}
use borrow.Author.Tests.{le-leb, lt-ltb, le-ltb}
use Rattle.marks.specs.Marks.{faulty_mark}
use Rattle.marks.proofs.MarkLaws.{contained_front}
use Rattle.marks.proofs.is_faulty.Goals as goal

pub returns-then-borders-mark : goal.returns-then-borders-mark
unfolding faulty_mark
returns-then-borders-mark c = rw (le-ltb _ _ c.if-borders-mark.true, le-leb _ _ c.if-borders-mark.true)

pub returns-else-borders-mark : goal.returns-else-borders-mark
unfolding faulty_mark
returns-else-borders-mark c =
    let has : IsTrue c.contains.result ↔ Contains (take c.args.k c.args.marks.now) (at c.args.marks.now c.args.k) = search rules in
    rw (lt-ltb _ _ c.if-borders-mark.false) (contained_front c.args.marks.now c.args.k (at c.args.marks.now c.args.k) _ (omega arith) has)
