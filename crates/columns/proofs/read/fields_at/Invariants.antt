-- `columns::read::fields_at` meets its contract. The invariant: the first k fields are in their places, and those left, from place p on, come after them
-- to what all columns come to (`FieldsFilled`). A turn is the law `fields-filled-more`.
use Rattle.columns.proofs.ColumnLaws.{FieldsFilled}
use Rattle.columns.proofs.read.fields_at.Given as goal

abbrev pub invariant-loop-k : goal.invariant-loop-k
invariant-loop-k l = FieldsFilled l.columns l.sep l.last l.line l.at l.out l.p l.k
