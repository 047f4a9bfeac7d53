-- `labels::is_label` meets its contract: what the library's `all` says of its bytes, where there are any.
use mathlib.Core.Path.{◌≡◌, ◌∙◌}
use mathlib.Core.Bool.{true, false}
use borrow.Author.Tests.{tests}
use lib.Dec.{ltb}
use lib.ListN.{length}
use Rattle.std.proofs.Common.{rules}
use Rattle.std.proofs.lemmas.Iterator.{YieldsList-from_slice}
use Rattle.std.proofs.lemmas.Iterator.Search.{all_from_yields_List}
use Rattle.labels.specs.Labels.{label_byte, label_text}
use Rattle.labels.proofs.LabelLaws.{list_all-label_byte}
use Rattle.labels.proofs.is_label.Goals as goal

pub returns-then-not-is_empty : goal.returns-then-not-is_empty
unfolding label_text
returns-then-not-is_empty c =
    let some : ltb 0 (length c.args.label.now) ≡ true = search (rules, tests) in
    rw some (all_from_yields_List (label_byte c.args.sheet) _ _ _ c.all.ensures.ran (YieldsList-from_slice c.args.label.now cc) (λ x b q k. search (rules, tests)) ∙ list_all-label_byte _ _)

pub returns-else-not-is_empty : goal.returns-else-not-is_empty
unfolding label_text
returns-else-not-is_empty c =
    let none : ltb 0 (length c.args.label.now) ≡ false = search (rules, tests) in
    rw (none, c.if-not-is_empty.false)
