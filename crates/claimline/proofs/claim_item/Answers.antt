-- `claimline::claim_item` meets its contract: each test is the definition's.
use mir.Syntax.{w64}
use mathlib.Core.Path.{◌∙◌}
use native.Mathlib.Omega.{arith}
use borrow.Author.Rules.{sfits_of}
use mir.Facts.{to_z-of_z}
use Rattle.numbers.proofs.IntLaws.{read_pos}
use Rattle.claimline.proofs.ReadLaws.{item_first, item_count, item_rest}
use Rattle.claimline.proofs.claim_item.Goals as goal

pub returns-then-k-lt2 : goal.returns-then-k-lt2
returns-then-k-lt2 c = to_z-of_z {w = w64} (sfits_of c.field.type_inv) ∙ c.field.ensures ∙ item_first _ _ _ c.if-k-lt2.true

pub overflow_cast-result : goal.overflow_cast-result
overflow_cast-result c = omega (arith, c.requires)

pub returns-then-k-eq2 : goal.returns-then-k-eq2
returns-then-k-eq2 c = read_pos {n = 17} c.requires tt ∙ item_count _ _ _ c.if-k-eq2.true

pub returns : goal.returns
returns c = to_z-of_z {w = w64} (sfits_of c.field-2.type_inv) ∙ c.field-2.ensures ∙ item_rest _ _ _ (omega arith) c.if-k-eq2.false
