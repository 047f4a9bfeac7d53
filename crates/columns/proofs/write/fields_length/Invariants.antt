-- `columns::write::fields_length` meets its contract.
use Rattle.columns.proofs.ColumnPut.{Counting}
use Rattle.columns.proofs.write.fields_length.Given as goal

abbrev pub invariant-loop-k : goal.invariant-loop-k
invariant-loop-k l = Counting l.columns l.values l.sum l.k
