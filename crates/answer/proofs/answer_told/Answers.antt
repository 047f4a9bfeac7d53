-- `answer::answer_told` meets its contract, which is that of `answer_from`.
use borrow.Author.Rules.{rules}
use Rattle.answer.proofs.answer_told.Goals as goal

pub answer_from-requires : goal.answer_from-requires
answer_from-requires c = record { good = c.requires; borders_most_in_bounds = search rules }
