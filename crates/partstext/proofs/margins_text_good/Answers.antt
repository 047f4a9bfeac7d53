-- `partstext::margins_text_good` meets its contract: the records stand in front of the working memory, which has room for every table, and then their text.
use Rattle.std.specs.Prelude.{Ok}
use mathlib.Core.Path.{sym, ap, ◌∙◌}
use mathlib.Core.List.{List}
use lib.IntN.{ℤ}
use lib.Seq.{length-take-le}
use Rattle.types.proofs.RangeLaws.{header_in_lem}
use Rattle.text.specs.Left.{text_left}
use Rattle.partstext.specs.PartsText.{parts_text}
use Rattle.partstext.proofs.PartsTextLaws.{records_first, records_long, records_short}
use Rattle.partstext.proofs.margins_text_good.Goals as goal

pub margins_good-requires : goal.margins_good-requires
margins_good-requires c = record { good = c.requires; rows_in_bounds = (header_in_lem _ c.requires.exact.header).rows_most_lem }

pub slice_bounds-records-end : goal.slice_bounds-records-end
slice_bounds-records-end c = records_long c.requires _ c.margins_good.ensures

pub slice_bounds-write_parts-end : goal.slice_bounds-write_parts-end
slice_bounds-write_parts-end c = sym (length-take-le _ _ (records_long c.requires _ c.margins_good.ensures))

pub write_parts-requires : goal.write_parts-requires
write_parts-requires c = let short = records_short c.requires _ c.margins_good.ensures in record { records_len_bound = short.0; by_index = short.1 }

pub returns : goal.returns
returns c = c.write_parts.ensures
    ∙ ap (λ (rs : List (List ℤ)). text_left (Ok (parts_text rs)) c.args.out.now) (records_first c.requires _ c.margins_good.ensures)
