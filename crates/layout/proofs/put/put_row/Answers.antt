-- `layout::put::put_row` meets its contract: the factors' columns are as many as f has items.
use mathlib.Core.Path.{◌≡◌, sym, ap, subst, ◌∙◌}
use mathlib.Core.List.{List, ◌++◌}
use Prim.Native.Nat.{ℕ, ◌+◌, ◌-◌}
use native.Mathlib.Omega.{arith}
use lib.ListN.{length, take, drop}
use lib.Seq.{length-take-le}
use Rattle.types.specs.LineColumns.{columns_of}
use Rattle.text.specs.Put.{Put}
use Rattle.columns.specs.ColumnText.{columns_text}
use Rattle.lines.specs.RowKinds.{row_text_by}
use Rattle.lines.proofs.RowKindLaws.{letters_long, letters_many, parts_by_lem}
use Rattle.layout.proofs.LayoutLaws.{row_is}
use borrow.Author.Rules.{rules}
use Rattle.layout.proofs.put.put_row.Goals as goal

pub slice_bounds-put_parts-end-2 : goal.slice_bounds-put_parts-end-2
slice_bounds-put_parts-end-2 c =
    let first-long : length (take 7 c.columns_of.result) ≡ 7 = length-take-le 7 c.columns_of.result (omega (arith, letters_long c.args.kind c.columns_of.result c.columns_of.ensures)) in
    sym (first-long)

pub put_parts-requires : goal.put_parts-requires
put_parts-requires c =
    let first-long : length (take 7 c.columns_of.result) ≡ 7 = length-take-le 7 c.columns_of.result (omega (arith, letters_long c.args.kind c.columns_of.result c.columns_of.ensures)) in
    let text : columns_text c.sep_of.result c.head_of.result (columns_of (take 7 c.columns_of.result) ++ columns_of (take (7 + length c.args.f.now - 7) (drop 7 c.columns_of-2.result))) (c.args.raw ++ c.args.f.now) ≡ row_text_by c.args.kind c.args.i c.args.raw c.args.f.now = let wide : 7 ≡ length c.args.raw = search rules in parts_by_lem (λ sep head columns. columns_text sep head columns (c.args.raw ++ c.args.f.now)) c.args.kind c.args.i (length c.args.f.now) c.requires.1 c.sep_of.ensures c.head_of.ensures c.columns_of.result c.columns_of.ensures c.columns_of-2.result c.columns_of-2.ensures ∙ sym (row_is c.args.kind c.args.i c.args.raw c.args.f.now (sym wide)) in
    let wide : 7 ≡ length c.args.raw = search rules in
    let long = letters_many c.args.kind c.columns_of-2.result c.columns_of-2.ensures (length c.args.f.now) c.requires.1 in
    (first-long ∙ wide, rw long c.requires.0, long, omega (arith, c.requires.2, ap length (text)))

pub returns : goal.returns
returns c =
    let text : columns_text c.sep_of.result c.head_of.result (columns_of (take 7 c.columns_of.result) ++ columns_of (take (7 + length c.args.f.now - 7) (drop 7 c.columns_of-2.result))) (c.args.raw ++ c.args.f.now) ≡ row_text_by c.args.kind c.args.i c.args.raw c.args.f.now = let wide : 7 ≡ length c.args.raw = search rules in parts_by_lem (λ sep head columns. columns_text sep head columns (c.args.raw ++ c.args.f.now)) c.args.kind c.args.i (length c.args.f.now) c.requires.1 c.sep_of.ensures c.head_of.ensures c.columns_of.result c.columns_of.ensures c.columns_of-2.result c.columns_of-2.ensures ∙ sym (row_is c.args.kind c.args.i c.args.raw c.args.f.now (sym wide)) in
    subst (λ (t : List ℕ). Put t c.args.at c.args.out.now c.put_parts.result c.put_parts.new.out) (text) c.put_parts.ensures
