-- `columns::write::parts_length` meets its contract: the fields of both parts (`length-parts`).
use mathlib.Core.Path.{◌≡◌, sym, ◌∙◌}
use mathlib.Core.List.{◌++◌}
use Prim.Native.Nat.{◌+◌}
use native.Mathlib.Omega.{arith}
use Rattle.types.specs.LineColumns.{columns_of}
use Rattle.columns.specs.ColumnText.{fields_length}
use Rattle.columns.proofs.ColumnPut.{columns_long, length_parts}
use Rattle.columns.proofs.write.parts_length.Goals as goal

pub line_length-requires : goal.line_length-requires
line_length-requires c = let parts : fields_length (columns_of c.args.first.now ++ columns_of c.args.second.now) (c.args.values.now ++ c.args.more.now) ≡ fields_length (columns_of c.args.first.now) c.args.values.now + fields_length (columns_of c.args.second.now) c.args.more.now = length_parts (columns_of c.args.first.now) (columns_of c.args.second.now) c.args.values.now c.args.more.now (sym (columns_long c.args.first.now ∙ c.requires.0)) in
    (c.requires.0, omega (arith, c.requires.2, parts))

pub fields_length-requires : goal.fields_length-requires
fields_length-requires c = let parts : fields_length (columns_of c.args.first.now ++ columns_of c.args.second.now) (c.args.values.now ++ c.args.more.now) ≡ fields_length (columns_of c.args.first.now) c.args.values.now + fields_length (columns_of c.args.second.now) c.args.more.now = length_parts (columns_of c.args.first.now) (columns_of c.args.second.now) c.args.values.now c.args.more.now (sym (columns_long c.args.first.now ∙ c.requires.0)) in
    (c.requires.1, omega (arith, c.requires.2, parts))

pub overflow_add-result : goal.overflow_add-result
overflow_add-result c = let parts : fields_length (columns_of c.args.first.now ++ columns_of c.args.second.now) (c.args.values.now ++ c.args.more.now) ≡ fields_length (columns_of c.args.first.now) c.args.values.now + fields_length (columns_of c.args.second.now) c.args.more.now = length_parts (columns_of c.args.first.now) (columns_of c.args.second.now) c.args.values.now c.args.more.now (sym (columns_long c.args.first.now ∙ c.requires.0)) in
    omega (arith, c.requires.2, parts, c.line_length.ensures, c.fields_length.ensures)

pub returns : goal.returns
returns c = let parts : fields_length (columns_of c.args.first.now ++ columns_of c.args.second.now) (c.args.values.now ++ c.args.more.now) ≡ fields_length (columns_of c.args.first.now) c.args.values.now + fields_length (columns_of c.args.second.now) c.args.more.now = length_parts (columns_of c.args.first.now) (columns_of c.args.second.now) c.args.values.now c.args.more.now (sym (columns_long c.args.first.now ∙ c.requires.0)) in
    omega (arith, parts, c.line_length.ensures, c.fields_length.ensures)
