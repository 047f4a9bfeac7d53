-- `margin::p` meets its contract: the positive part of the signed factor.
use mir.Syntax.{w64}
use mir.Facts.{to_z-of_z}
use borrow.Author.Rules.{sfits_of}
use Rattle.marginrules.specs.Margin.{p_of}
use Rattle.margin.proofs.p.Goals as goal

pub returns : goal.returns
unfolding p_of
returns c = rw (c.positive.ensures, to_z-of_z {w = w64} (sfits_of c.signed_factor.type_inv), c.signed_factor.ensures)
