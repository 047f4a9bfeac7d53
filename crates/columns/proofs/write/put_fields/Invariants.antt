-- `columns::write::put_fields` meets its contract.
use Rattle.columns.proofs.ColumnPut.{Writing}
use Rattle.columns.proofs.write.put_fields.Given as goal

abbrev pub invariant-loop-k : goal.invariant-loop-k
invariant-loop-k l = Writing l.columns l.values l.sep l.last l.at l.initial.out l.out l.next l.k
