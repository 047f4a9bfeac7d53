-- `layout::put::put_header` meets its contract.
use mathlib.Core.Path.{refl, sym, subst}
use mathlib.Core.List.{List}
use Prim.Native.Char.{code}
use Prim.Native.Nat.{ℕ, ◌+◌, ◌≤◌}
use native.Mathlib.Omega.{arith}
use lib.IntN.{ℤ}
use lib.ListN.{length}
use Rattle.types.specs.LineColumns.{header_columns, default_columns}
use Rattle.types.proofs.RangeLaws.{header_in_lem}
use Rattle.text.specs.Fields.{tab}
use Rattle.text.specs.Put.{Put}
use Rattle.text.proofs.FieldLaws.{fits_pos}
use Rattle.columns.specs.declared.Head.TheVariants.{Lettered}
use Rattle.columns.specs.Optional.{optional_text}
use Rattle.layout.proofs.LayoutLaws.{header_raw_lem}
use Rattle.layout.proofs.put.put_header.Goals as goal

abbrev text : List ℤ → List ℕ
text raw = optional_text tab (Lettered (code "H")) header_columns default_columns raw

pub overflow_cast-raw : goal.overflow_cast-raw
overflow_cast-raw c = fits_pos _ (omega (arith, (header_in_lem c.args.h c.requires.0).zones_most_lem))

pub overflow_cast-raw-2 : goal.overflow_cast-raw-2
overflow_cast-raw-2 c = fits_pos _ (omega (arith, (header_in_lem c.args.h c.requires.0).borders_most_lem))

pub overflow_cast-raw-3 : goal.overflow_cast-raw-3
overflow_cast-raw-3 c = fits_pos _ (omega (arith, (header_in_lem c.args.h c.requires.0).rows_most_lem))

pub put_optional-requires : goal.put_optional-requires
put_optional-requires c = (omega arith, refl, subst (λ (raw : List ℤ). c.args.at + length (text raw) ≤ length c.args.out.now) (sym (header_raw_lem c.args.h c.requires.0)) c.requires.1)

pub returns : goal.returns
returns c = subst (λ (raw : List ℤ). Put (text raw) c.args.at c.args.out.now c.put_optional.result c.put_optional.new.out) (header_raw_lem c.args.h c.requires.0) c.put_optional.ensures
