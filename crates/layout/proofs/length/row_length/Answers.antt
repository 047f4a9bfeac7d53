-- `layout::length::row_length` meets its contract: the factors' columns are as many as f has items.
use mathlib.Core.Path.{◌≡◌, refl, sym, ◌∙◌}
use mathlib.Core.List.{◌++◌}
use Prim.Native.Nat.{◌+◌, ◌-◌}
use native.Mathlib.Omega.{arith}
use lib.ListN.{length, take, drop}
use lib.Seq.{length-take-le}
use Rattle.types.specs.LineColumns.{columns_of}
use Rattle.columns.specs.ColumnText.{line_length}
use Rattle.lines.specs.RowKinds.{row_text_by}
use Rattle.lines.proofs.RowKindLaws.{letters_long, letters_many, parts_by_lem}
use Rattle.layout.proofs.LayoutLaws.{row_total}
use borrow.Author.Rules.{rules}
use Rattle.layout.proofs.length.row_length.Goals as goal

pub slice_bounds-parts_length-end-2 : goal.slice_bounds-parts_length-end-2
slice_bounds-parts_length-end-2 c =
    let first-long : length (take 7 c.columns_of.result) ≡ 7 = length-take-le 7 c.columns_of.result (omega (arith, letters_long c.args.kind c.columns_of.result c.columns_of.ensures)) in
    sym (first-long)

pub parts_length-requires : goal.parts_length-requires
parts_length-requires c =
    let first-long : length (take 7 c.columns_of.result) ≡ 7 = length-take-le 7 c.columns_of.result (omega (arith, letters_long c.args.kind c.columns_of.result c.columns_of.ensures)) in
    let total : line_length c.head_of.result (columns_of (take 7 c.columns_of.result) ++ columns_of (take (7 + length c.args.f.now - 7) (drop 7 c.columns_of-2.result))) (c.args.raw ++ c.args.f.now) ≡ length (row_text_by c.args.kind c.args.i c.args.raw c.args.f.now) = let wide : 7 ≡ length c.args.raw = search rules in parts_by_lem (λ sep head columns. line_length head columns (c.args.raw ++ c.args.f.now)) c.args.kind c.args.i (length c.args.f.now) c.requires.1 refl c.head_of.ensures c.columns_of.result c.columns_of.ensures c.columns_of-2.result c.columns_of-2.ensures ∙ sym (row_total c.args.kind c.args.i c.args.raw c.args.f.now (sym wide)) in
    let wide : 7 ≡ length c.args.raw = search rules in
    (first-long ∙ wide, letters_many c.args.kind c.columns_of-2.result c.columns_of-2.ensures (length c.args.f.now) c.requires.1, omega (arith, c.requires.2, total))

pub returns : goal.returns
returns c =
    let total : line_length c.head_of.result (columns_of (take 7 c.columns_of.result) ++ columns_of (take (7 + length c.args.f.now - 7) (drop 7 c.columns_of-2.result))) (c.args.raw ++ c.args.f.now) ≡ length (row_text_by c.args.kind c.args.i c.args.raw c.args.f.now) = let wide : 7 ≡ length c.args.raw = search rules in parts_by_lem (λ sep head columns. line_length head columns (c.args.raw ++ c.args.f.now)) c.args.kind c.args.i (length c.args.f.now) c.requires.1 refl c.head_of.ensures c.columns_of.result c.columns_of.ensures c.columns_of-2.result c.columns_of-2.ensures ∙ sym (row_total c.args.kind c.args.i c.args.raw c.args.f.now (sym wide)) in
    c.parts_length.ensures ∙ total
