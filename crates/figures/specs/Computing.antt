-- `unfolding computing` opens every definition of the crates below: for theorems by computation.
use Rattle.sections.specs.Section.{lines_at}
use Rattle.promises.specs.Demand.{load_of}
use Rattle.promises.specs.Order.{reorder}
use Rattle.promises.specs.Taking.{result_in, outcome_in, outcome_taking, unshortened}
use Rattle.marks.specs.Marks.{marked_by, faulty_mark, judge_marks}
use Rattle.staterules.specs.Standings.{standings_of}
use Rattle.setup.specs.Setup.{grid_by, begin_by, judge_by, end_by}
use Rattle.extractrules.specs.Start.{grid_of, start_of, judge_start, setup_with}
use Rattle.extractrules.specs.Extraction.{result_of, atc_of, left_of, last_of, stop_of, outcome_of, n_of, l_of, atc_record, row_record, extract_for, extract_left, extract_marked_left, outcome_for, outcome_marked, result_marked}
use Rattle.cornerrules.specs.Corners.{raised_by, corner_flows, judge_corners, sheet_left, corners_left}
use Rattle.cornertext.specs.CornerText.{corners_text, corner_text_left}
use Rattle.refusals.specs.Refusals.{then, either, unless, refuse_at, refuse_first, need}
use Rattle.types.specs.Ranges.{header_fits, allocated_items, zone_fits, exists, hubs_fit, hubs_of, border_fits, border_of, share_of, row_of, row_fits, factor_fits, worth, default_of}
use Rattle.marginrules.specs.Margin.{grains, f0core_of, fuaf_of, base_of, amr_of, signed_factor, p_of, lta_kw, corner_part, corner_sum, s_of, lta_margin_of, ram_of, ram_at}
use Rattle.staterules.specs.States.{highest, lowest, spread_of, shifted, below, state_of, kept}
use Rattle.numbers.specs.Below.{if_zero, sum, count, largest, lesser, least, or_zero, table, first_from, given}
use Rattle.numbers.specs.Ints.{max_ℤ, min_ℤ, positive_part, same_ℤ, inside, sum_ℤ}
use Rattle.lines.specs.Lines.{header_line, position_line, border_line, row_line}
use Rattle.lines.specs.SheetLine.{sheet_line}
use Rattle.sheets.specs.Sheets.{one_sheet, every_sheet}
use Rattle.corrections.specs.Corrections.{sheet_kind, of_row, ended_index, given_index, due_index}
use Rattle.reading.specs.Reading.{lines_by, read_text, read_corrected, tables_left}
use Rattle.answer.specs.Result.{result_text, answer_for, answer_text, result_text_for, result_text_left, result_text_marked_left, answer_for_left, answer_left, answer_marked_left, answer_with, answer_with_left, answer_corrected_left}
use Rattle.result.specs.Records.{records_text}
use Rattle.result.specs.Refusal.{refusal_text}
use Rattle.rounds.specs.Rounds.{sharers, raise, alone, raises, load, lowered, risen, apply, next, raised, counted, run, extract, most_sharers, bits_to, bits, alone_bits}
use Rattle.tablerules.specs.Table.{stretch, balanced, twice, room_for, judge_shape, judge_for}
use Rattle.rounds.specs.Last.{after, raise_in, last_to, last_round}
use Rattle.rounds.specs.Stopping.{stop_row}
use Rattle.columns.specs.Columns.{field_at, fields_at}
use Rattle.columns.specs.ColumnLine.{head_at, rest_at, columns_line}
use Rattle.columns.specs.Optional.{optional_line}
use Rattle.columns.specs.ColumnText.{field_text, fields_ended, index_text, head_text, columns_text}
use Rattle.blame.specs.Blame.{good_at, byte_at, fields_byte, line_byte}
use Rattle.blame.specs.RangeBlame.{past_seps, range_byte}
use Rattle.text.specs.Fields.{number_at, signed_at, share_at}
use Rattle.text.specs.Left.{text_left}
use Rattle.text.specs.Point.{decimals_at, point_at, signed_point_at}
use Rattle.text.specs.Written.{text_of, decimal, decimal_ℤ, fields_text, line_text, lines_text}
use Rattle.writing.specs.Writing.{table_text, write_left}
use Rattle.rewriting.specs.Rewriting.{rewrite_corrected_left}

unfoldable pub computing : Unit {0}
unfolding marked_by faulty_mark judge_marks extract_marked_left answer_for result_text_for result_text_marked_left answer_for_left answer_marked_left lines_at load_of reorder result_in outcome_in outcome_taking unshortened end_by standings_of kept grid_of start_of result_of atc_of left_of last_of stop_of judge_start outcome_of n_of l_of atc_record row_record extract_left raised_by corner_flows judge_corners sheet_left corners_left corners_text corner_text_left header_fits allocated_items zone_fits exists hubs_fit hubs_of border_fits border_of share_of row_of row_fits factor_fits worth default_of then either unless refuse_at refuse_first need grains f0core_of fuaf_of base_of amr_of signed_factor p_of lta_kw corner_part corner_sum s_of lta_margin_of ram_of ram_at highest lowest spread_of shifted below state_of if_zero sum count largest lesser least or_zero table first_from given max_ℤ min_ℤ positive_part same_ℤ inside sum_ℤ header_line position_line border_line row_line sheet_line one_sheet every_sheet sheet_kind of_row ended_index given_index due_index lines_by read_text read_corrected tables_left records_text result_text refusal_text answer_text result_text_left answer_left answer_with answer_with_left answer_corrected_left sharers raise alone raises load lowered risen apply next raised counted run extract after raise_in last_to last_round stop_row most_sharers bits_to bits alone_bits stretch balanced twice room_for judge_shape judge_for number_at signed_at share_at decimals_at point_at signed_point_at text_of decimal decimal_ℤ fields_text line_text lines_text table_text text_left write_left rewrite_corrected_left field_at fields_at head_at rest_at columns_line optional_line field_text fields_ended index_text columns_text head_text grid_by setup_with begin_by judge_by good_at byte_at fields_byte line_byte past_seps range_byte result_marked outcome_marked extract_for outcome_for
computing = tt
