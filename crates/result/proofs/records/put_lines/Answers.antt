use mathlib.Core.List.{List}
use Prim.Native.Nat.{ℕ}
use native.Mathlib.Omega.{arith}
use lib.ListN.{length}
use Rattle.types.specs.LineColumns.{columns_of}
use Rattle.text.proofs.PutLaws.{lines_none, lines_more, lines_all_lem, lines_le, lines_room, put_kept}
use Rattle.result.specs.Records.{record_line}
use Rattle.result.proofs.records.put_lines.Goals as goal

pub loop-i-init : goal.loop-i-init
loop-i-init c = (omega arith, lines_none _ _ _)

pub put_line-next-requires : goal.put_line-next-requires
put_line-next-requires c = let line_at : ℕ → List ℕ = record_line c.args.letter (columns_of c.args.columns.now) c.args.records.now in
    (c.requires.0, lines_room (line_at) c.loop-i.i (length c.args.records.now) (omega arith) c.requires.1 c.loop-i.invariant.1)

pub loop-i-preserved : goal.loop-i-preserved
loop-i-preserved c = let line_at : ℕ → List ℕ = record_line c.args.letter (columns_of c.args.columns.now) c.args.records.now in
    (omega arith, lines_more (line_at) (omega (arith, c.requires.1)) c.loop-i.invariant.1 c.put_line-next.ensures)

pub shape_of-out : goal.shape_of-out
shape_of-out c = let line_at : ℕ → List ℕ = record_line c.args.letter (columns_of c.args.columns.now) c.args.records.now in
    put_kept c.loop-i.invariant.1 (omega (arith, c.requires.1, lines_le (line_at) c.loop-i.i _ c.loop-i.invariant.0))

pub returns : goal.returns
returns c = let line_at : ℕ → List ℕ = record_line c.args.letter (columns_of c.args.columns.now) c.args.records.now in
    lines_all_lem (line_at) c.loop-i.invariant.0 (omega arith) c.loop-i.invariant.1
