-- `blame::fields_byte` meets its contract. The invariant: the first k fields are good, and the byte of those left, from place p on, is the byte of all
-- (`Blaming`). A turn is the law `blaming-more`.
use Rattle.blame.proofs.BlameLaws.{Blaming}
use Rattle.blame.proofs.fields_byte.Given as goal

abbrev pub invariant-loop-k : goal.invariant-loop-k
invariant-loop-k l = Blaming l.sep l.columns l.line l.at l.p l.k
