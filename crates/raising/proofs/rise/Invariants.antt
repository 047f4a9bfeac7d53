-- `raising::rise` meets its contract: the first listed borders rose (`Rising`). A sum fits: either the raise is 0, or the border rises here and at no other place.
use Rattle.raising.proofs.RiseLaws.{Rising}
use Rattle.raising.proofs.rise.Given as goal

abbrev pub invariant-loop-b : goal.invariant-loop-b
invariant-loop-b l = Rising l.caps l.rising l.round l.initial.gained l.initial.x l.initial.lasts l.gained l.x l.lasts l.b-index
