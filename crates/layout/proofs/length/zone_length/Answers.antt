-- `layout::length::zone_length` meets its contract.
use mathlib.Core.Path.{refl, sym, ◌∙◌}
use mathlib.Core.List.{[], ◌∷◌}
use Prim.Native.Char.{code}
use native.Mathlib.Omega.{arith}
use mir.Facts.{to_z-of_z}
use Rattle.types.specs.LineColumns.{zone_columns}
use Rattle.text.specs.Fields.{tab}
use Rattle.columns.specs.declared.Head.TheVariants.{Indexed}
use Rattle.columns.proofs.ColumnPut.{line_long}
use Rattle.layout.proofs.length.zone_length.Goals as goal

pub line_length-requires : goal.line_length-requires
line_length-requires c = simp (to_z-of_z, c.ranges.net) (refl, omega (arith, line_long tab (Indexed (code "Z") c.args.i) zone_columns (c.args.net ∷ []), c.requires))

pub returns : goal.returns
returns c = simp (to_z-of_z, c.ranges.net) at c.line_length.ensures ∙ sym (line_long tab (Indexed (code "Z") c.args.i) zone_columns (c.args.net ∷ []))
