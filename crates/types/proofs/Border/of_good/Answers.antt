-- `types::Border::of_good` meets its contract: a record that fits has no zone and no LTA below 0, so the casts lose nothing.
use Rattle.numbers.proofs.IntLaws.{plain, natural_cast}
use Rattle.types.specs.Ranges.{border_of}
use Rattle.types.proofs.RangeLaws.{BorderIn, border_in}
use Rattle.types.proofs.Border.of_good.Goals as goal

natural : (c : goal.After-of_good-hubs) → BorderIn c.args.zones c.args.raw
natural c = border_in _ _ c.requires

pub of_good-hubs-requires : goal.of_good-hubs-requires
of_good-hubs-requires c = simp (plain, c.sending-1.given, c.receiving-1.given) (border_in c.args.zones c.args.raw c.requires).hubs_fit_lem

pub overflow_cast-result : goal.overflow_cast-result
overflow_cast-result c = natural_cast _ _ c.from-1.given (natural c).from

pub overflow_cast-result-2 : goal.overflow_cast-result-2
overflow_cast-result-2 c = natural_cast _ _ c.to-1.given (natural c).to

pub overflow_cast-result-3 : goal.overflow_cast-result-3
overflow_cast-result-3 c = natural_cast _ _ c.lta-1.given (natural c).lta

pub returns : goal.returns
unfolding border_of
returns c = simp (plain, c.from-1.given, c.to-1.given, c.lta-1.given, c.sending-1.given, c.receiving-1.given, c.of_good-hubs.ensures)
