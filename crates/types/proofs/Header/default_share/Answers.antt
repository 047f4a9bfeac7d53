-- `types::Header::default_share` meets its contract.
use mir.Syntax.{w64}
use mathlib.Core.Path.{ap, ◌∙◌}
use borrow.Author.Rules.{sfits_of}
use lib.IntN.{pos}
use mir.Facts.{to_z-of_z}
use Rattle.numbers.proofs.IntLaws.{plain}
use Rattle.types.specs.LineLimits.{share_standard}
use Rattle.types.specs.Ranges.{share_of, worth, default_of}
use Rattle.types.proofs.Header.default_share.Goals as goal

pub returns : goal.returns
unfolding default_of
returns c = to_z-of_z {w = w64} (sfits_of c.worth.type_inv) ∙ c.worth.ensures ∙ ap (worth (pos share_standard)) (c.of-written.ensures ∙ ap share_of (plain _ c.struct_told-1.given.1.1.1.0.1))
