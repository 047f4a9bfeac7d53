-- `start::all_marked` meets its contract.
use Rattle.std.specs.Prelude.{IsTrue, ◌↔◌}
use Rattle.std.specs.List.{Contains}
use mathlib.Core.Path.{◌≡◌, refl, ap, ◌∙◌}
use mathlib.Core.Bool.{Bool, true, false, not}
use borrow.Author.Rules.{rules}
use lib.Dec.{eqb}
use lib.ListN.{length}
use Rattle.numbers.specs.Below.{at, given}
use Rattle.numbers.proofs.BelowLaws.{first_cong}
use Rattle.marks.specs.Marks.{flagged}
use Rattle.marks.proofs.MarkLaws.{contained}
use Rattle.start.proofs.all_marked.Goals as goal

twice : (t : Bool) → t ≡ not (not t)
twice true = refl
twice false = refl

pub returns : goal.returns
unfolding flagged
returns c =
    let has : IsTrue c.contains.result ↔ Contains c.args.flags.now 0 = search rules in
    ap not
    (contained c.args.flags.now 0 _ has
    ∙ ap given (first_cong (length c.args.flags.now) (λ k. eqb (at c.args.flags.now k) 0) (λ k. not (flagged c.args.flags.now k)) (λ k l. twice (eqb (at c.args.flags.now k) 0))))
