-- `hourfigures::items::keep_atcs` meets its contract. The invariant: the first i ATCs are stored. The measure is the number of records left.
use Rattle.hourfigures.specs.Items.{atcs_of}
use Rattle.hourfigures.proofs.ItemLaws.{Storing}
use Rattle.hourfigures.proofs.items.keep_atcs.Given as goal

abbrev pub invariant-loop-i : goal.invariant-loop-i
invariant-loop-i l = Storing l.place (atcs_of l.atc) l.initial.atcs l.atcs l.i
