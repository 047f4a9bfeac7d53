-- `hourfigures::items::keep_ways` meets its contract. The invariant: the first i ways are stored. The measure is the number of borders left.
use Rattle.hourfigures.specs.Items.{ways_of}
use Rattle.hourfigures.proofs.ItemLaws.{Storing}
use Rattle.hourfigures.proofs.items.keep_ways.Given as goal

abbrev pub invariant-loop-i : goal.invariant-loop-i
invariant-loop-i l = Storing l.place (ways_of l.b) l.initial.ways l.ways l.i
