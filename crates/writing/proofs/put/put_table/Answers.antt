-- `writing::put::put_table` meets its contract: the parts of the text, one after another (`text-put`).
use native.Mathlib.Omega.{arith}
use Rattle.types.proofs.RangeLaws.{header_in_lem}
use Rattle.tablerules.specs.Table.{lent_view}
use Rattle.writing.proofs.TextLaws.{text_length, zones_room, allocated_room, borders_room, rows_room, text_put, factors_all}
use Rattle.writing.proofs.put.put_table.Goals as goal

pub put_header-next-requires : goal.put_header-next-requires
put_header-next-requires c = (c.requires.0.exact.header, omega (arith, c.requires.1, text_length (lent_view c.args.view.now) c.requires.0))

pub put_zones-next-requires : goal.put_zones-next-requires
put_zones-next-requires c = zones_room (lent_view c.args.view.now) c.requires.0 c.put_header-next.ensures c.requires.1

pub put_zones-next-requires-2 : goal.put_zones-next-requires-2
put_zones-next-requires-2 c = allocated_room (lent_view c.args.view.now) c.requires.0 c.put_header-next.ensures c.put_zones-next.ensures c.requires.1

pub put_borders-next-requires : goal.put_borders-next-requires
put_borders-next-requires c = borders_room (lent_view c.args.view.now) c.requires.0 c.put_header-next.ensures c.put_zones-next.ensures c.put_zones-next-2.ensures c.requires.1

pub put_rows-requires : goal.put_rows-requires
put_rows-requires c = (factors_all (lent_view c.args.view.now) c.requires.0, omega (arith, (header_in_lem c.args.view.now.header c.requires.0.exact.header).zones_least_lem), (header_in_lem c.args.view.now.header c.requires.0.exact.header).zones_most_lem, rows_room (lent_view c.args.view.now) c.requires.0 c.put_header-next.ensures c.put_zones-next.ensures c.put_zones-next-2.ensures c.put_borders-next.ensures c.requires.1)

pub returns : goal.returns
returns c = text_put (lent_view c.args.view.now) c.requires.0 c.put_header-next.ensures c.put_zones-next.ensures c.put_zones-next-2.ensures c.put_borders-next.ensures c.put_rows.ensures
