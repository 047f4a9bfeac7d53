-- `layout::length::header_length` meets its contract.
use mathlib.Core.Path.{◌≡◌, refl, sym, ap, subst, ◌∙◌}
use mathlib.Core.List.{List, [], ◌∷◌}
use Prim.Native.Char.{code}
use Prim.Native.Nat.{ℕ, ◌≤◌}
use native.Mathlib.Omega.{arith}
use lib.IntN.{ℤ, pos}
use lib.ListN.{length}
use Rattle.limits.specs.Limits.{bytes_most}
use Rattle.types.specs.declared.Header.{Header}
use Rattle.types.specs.LineColumns.{header_columns, default_columns}
use Rattle.types.proofs.RangeLaws.{header_in_lem}
use Rattle.text.specs.Fields.{tab}
use Rattle.text.proofs.FieldLaws.{fits_pos}
use Rattle.columns.specs.declared.Head.TheVariants.{Lettered}
use Rattle.columns.specs.ColumnText.{line_length}
use Rattle.columns.specs.Optional.{written_by}
use Rattle.columns.proofs.ColumnPut.{line_long}
use Rattle.layout.specs.Layout.{header_text}
use Rattle.layout.proofs.LayoutLaws.{header_raw_lem}
use Rattle.layout.proofs.length.header_length.Goals as goal

abbrev raw : Header → List ℤ
raw h = pos h.zones ∷ pos h.borders ∷ pos h.rows ∷ h.share ∷ []

abbrev bytes : List ℤ → ℕ
bytes zs = line_length (Lettered (code "H")) (written_by header_columns default_columns zs) zs

long : (h : Header) → length (header_text h) ≡ bytes (raw h)
long h = line_long tab (Lettered (code "H")) (written_by header_columns default_columns (raw h)) (raw h)

pub overflow_cast-raw : goal.overflow_cast-raw
overflow_cast-raw c = fits_pos _ (omega (arith, (header_in_lem c.args.h c.requires.0).zones_most_lem))

pub overflow_cast-raw-2 : goal.overflow_cast-raw-2
overflow_cast-raw-2 c = fits_pos _ (omega (arith, (header_in_lem c.args.h c.requires.0).borders_most_lem))

pub overflow_cast-raw-3 : goal.overflow_cast-raw-3
overflow_cast-raw-3 c = fits_pos _ (omega (arith, (header_in_lem c.args.h c.requires.0).rows_most_lem))

pub optional_length-requires : goal.optional_length-requires
optional_length-requires c = (omega arith, refl, subst (λ (zs : List ℤ). bytes zs ≤ bytes_most) (sym (header_raw_lem c.args.h c.requires.0)) (omega (arith, long c.args.h, c.requires.1)))

pub returns : goal.returns
returns c = c.optional_length.ensures ∙ ap bytes (header_raw_lem c.args.h c.requires.0) ∙ sym (long c.args.h)
