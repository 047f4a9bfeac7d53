-- `claims::is_borne_out` meets its contract: the factors' test, and then the RAMs' (`single-test`).
use mir.Syntax.{w64}
use mathlib.Core.Path.{sym, ap, ◌∙◌}
use borrow.Author.Rules.{sfits_of}
use borrow.Author.Tests.{not-true, not-false}
use lib.IntN.{ℤ, pos}
use lib.Signed.{le_z}
use mir.Facts.{to_z-of_z}
use Rattle.claimrules.specs.Claims.{borne_out}
use Rattle.claims.proofs.FormLaws.{single_test}
use Rattle.claims.proofs.is_borne_out.Goals as goal

pub is_level-requires : goal.is_level-requires
is_level-requires c = record { lent = c.requires.lent; claim_in_range = c.requires.claim_in_range }

pub returns-then-not-is_level : goal.returns-then-not-is_level
unfolding borne_out
returns-then-not-is_level c = simp (sym c.is_level.ensures ∙ not-true _ c.if-not-is_level.true-raw)

pub excess-requires : goal.excess-requires
excess-requires c = record { lent = c.requires.lent_2; claim_in_range = c.requires.claim_in_range }

pub returns : goal.returns
unfolding borne_out
returns c = simp (sym c.is_level.ensures ∙ not-false _ c.if-not-is_level.false-raw) (ap (λ (x : ℤ). le_z x (pos 0)) (to_z-of_z {w = w64} (sfits_of c.excess.type_inv) ∙ c.excess.ensures) ∙ single_test c.args.claim c.args.rams.now)
