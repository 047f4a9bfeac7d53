-- `start::some_kept` meets its contract.
use Rattle.std.specs.Prelude.{IsTrue, ◌↔◌}
use Rattle.std.specs.List.{Contains}
use borrow.Author.Rules.{rules}
use Rattle.staterules.specs.States.{kept}
use Rattle.marks.proofs.MarkLaws.{contained}
use Rattle.start.proofs.some_kept.Goals as goal

pub returns : goal.returns
unfolding kept
returns c =
    let has : IsTrue c.contains.result ↔ Contains c.args.states.now 0 = search rules in
    contained c.args.states.now 0 _ has
