-- `parts::store_parts` meets its contract. The invariant: the first i records are stored, and the rest is not changed. The measure is the rows that are left.
use Rattle.numbers.proofs.ListLaws.{Filled}
use Rattle.partrules.specs.Parts.{record_of}
use Rattle.parts.specs.Stored.{parts_at}
use Rattle.parts.proofs.store_parts.Given as goal

abbrev pub invariant-loop-i : goal.invariant-loop-i
invariant-loop-i l = Filled (λ i. record_of (parts_at l.h l.z l.b l.c l.f l.rams l.starts l.states i)) l.h.rows l.initial.out l.out l.i
