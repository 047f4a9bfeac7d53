-- `writing::length::text_length` meets its contract: the lengths of its parts (`text-length`), which no good table takes past 65,536.
use mathlib.Core.Path.{◌≡◌}
use Prim.Native.Char.{code}
use Prim.Native.Nat.{◌+◌}
use native.Mathlib.Omega.{arith}
use lib.ListN.{length}
use Rattle.types.proofs.RangeLaws.{header_in_lem}
use Rattle.tablerules.specs.Table.{lent_view}
use Rattle.writing.specs.Writing.{table_text}
use Rattle.writing.proofs.LengthLaws.{never_too_long}
use Rattle.writing.proofs.TextLaws.{text_length, text_within, letters_alike, factors_all}
use Rattle.writing.proofs.length.text_length.Goals as goal

counted : (c : goal.After-rows_length-rows)
    → length (table_text (lent_view c.args.view.now)) ≡ c.header_length-header.result + c.zones_length-zones.result + c.zones_length-allocated.result + c.borders_length-borders.result + c.rows_length-rows.result
counted c = omega (arith, text_length (lent_view c.args.view.now) c.requires, c.header_length-header.ensures, c.zones_length-zones.ensures, c.zones_length-allocated.ensures, letters_alike (code "T") c.args.view.now.allocated.now, c.borders_length-borders.ensures, c.rows_length-rows.ensures)

pub header_length-header-requires : goal.header_length-header-requires
header_length-header-requires c = (c.requires.exact.header, omega (arith, text_within (lent_view c.args.view.now) c.requires))

pub zones_length-zones-requires : goal.zones_length-zones-requires
zones_length-zones-requires c = omega (arith, text_within (lent_view c.args.view.now) c.requires)

pub zones_length-allocated-requires : goal.zones_length-allocated-requires
zones_length-allocated-requires c = omega (arith, text_within (lent_view c.args.view.now) c.requires, letters_alike (code "T") c.args.view.now.allocated.now)

pub borders_length-borders-requires : goal.borders_length-borders-requires
borders_length-borders-requires c = omega (arith, text_within (lent_view c.args.view.now) c.requires)

pub rows_length-rows-requires : goal.rows_length-rows-requires
rows_length-rows-requires c = (factors_all (lent_view c.args.view.now) c.requires, omega (arith, (header_in_lem c.args.view.now.header c.requires.exact.header).zones_least_lem), (header_in_lem c.args.view.now.header c.requires.exact.header).zones_most_lem, omega (arith, text_within (lent_view c.args.view.now) c.requires))

pub overflow_add-result : goal.overflow_add-result
overflow_add-result c = omega (arith, counted c, never_too_long (lent_view c.args.view.now) c.requires)

pub overflow_add-result-2 : goal.overflow_add-result-2
overflow_add-result-2 c = omega (arith, counted c, never_too_long (lent_view c.args.view.now) c.requires)

pub overflow_add-result-3 : goal.overflow_add-result-3
overflow_add-result-3 c = omega (arith, counted c, never_too_long (lent_view c.args.view.now) c.requires)

pub overflow_add-result-4 : goal.overflow_add-result-4
overflow_add-result-4 c = omega (arith, counted c, never_too_long (lent_view c.args.view.now) c.requires)

pub returns : goal.returns
returns c = omega (arith, counted c)
