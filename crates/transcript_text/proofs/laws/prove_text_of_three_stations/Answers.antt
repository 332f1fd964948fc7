use Rattle.std.proofs.Common.{refl}
use Rattle.std.specs.Fmt.{digits}
use Rattle.pack_defs.specs.Examples.{three_bids, three_stations}
use Rattle.cnf_encode.specs.Formula.{packing_formula}
use Rattle.lrat_text.specs.Lines.{ended_lines, is_whole, pieces, with_spaces}
use Rattle.lrat_text.specs.Write.{log_text}
use Rattle.lrat_text.specs.Read.{natural, field_of}
use Rattle.transcript_text.specs.Spelling.{start_text, receipt_text, receipts_text, refuted_text, outside_text, shown_text, version_text, end_text, spelling}
use Rattle.transcript_text.specs.Fields.{line_end, word_at, plain_number, plain_field, number_at, station_at, channel_at, worker_at, exact_number_at, station_above}
use Rattle.transcript_text.specs.LogLines.{lits_at, hints_at, log_line, log_at, entry_at, entries_at, moves_at, stations_at}
use Rattle.transcript_text.specs.Reading.{some_log, numbered_log, lines_receipt, moves_receipt, receipt_count, receipt_at, receipts_at, step_test_at, fit_head, same_head, none_head, log_head, dead_head, outside_head, undecided_head, end_head, head_at, fit_step, log_step, outside_step, undecided_step, step_at, next_step, steps_at, fit_start, empty_start, start_at, order_of, transcript_of}
use Rattle.transcript_text.proofs.laws.prove_text_of_three_stations.Goals as goal

pub returns-clause-written : goal.returns-clause-written
unfolding spelling version_text start_text end_text receipt_text receipts_text refuted_text outside_text shown_text log_text with_spaces digits packing_formula three_stations
returns-clause-written c = refl

pub returns-clause-read : goal.returns-clause-read
unfolding ended_lines is_whole pieces natural field_of digits packing_formula three_bids three_stations line_end word_at plain_number plain_field number_at station_at channel_at worker_at exact_number_at station_above lits_at hints_at log_line log_at entry_at entries_at moves_at stations_at some_log numbered_log lines_receipt moves_receipt receipt_count receipt_at receipts_at step_test_at fit_head same_head none_head log_head dead_head outside_head undecided_head end_head head_at fit_step log_step outside_step undecided_step step_at next_step steps_at fit_start empty_start start_at order_of transcript_of
returns-clause-read c = refl

pub returns-clause-whole : goal.returns-clause-whole
unfolding ended_lines is_whole pieces natural field_of digits packing_formula three_bids three_stations line_end word_at plain_number plain_field number_at station_at channel_at worker_at exact_number_at station_above lits_at hints_at log_line log_at entry_at entries_at moves_at stations_at some_log numbered_log lines_receipt moves_receipt receipt_count receipt_at receipts_at step_test_at fit_head same_head none_head log_head dead_head outside_head undecided_head end_head head_at fit_step log_step outside_step undecided_step step_at next_step steps_at fit_start empty_start start_at order_of transcript_of
returns-clause-whole c = refl

pub returns-clause-version : goal.returns-clause-version
unfolding ended_lines is_whole pieces natural field_of digits packing_formula three_bids three_stations line_end word_at plain_number plain_field number_at station_at channel_at worker_at exact_number_at station_above lits_at hints_at log_line log_at entry_at entries_at moves_at stations_at some_log numbered_log lines_receipt moves_receipt receipt_count receipt_at receipts_at step_test_at fit_head same_head none_head log_head dead_head outside_head undecided_head end_head head_at fit_step log_step outside_step undecided_step step_at next_step steps_at fit_start empty_start start_at order_of transcript_of
returns-clause-version c = refl

pub returns-clause-none : goal.returns-clause-none
unfolding ended_lines is_whole pieces natural field_of digits packing_formula three_bids three_stations line_end word_at plain_number plain_field number_at station_at channel_at worker_at exact_number_at station_above lits_at hints_at log_line log_at entry_at entries_at moves_at stations_at some_log numbered_log lines_receipt moves_receipt receipt_count receipt_at receipts_at step_test_at fit_head same_head none_head log_head dead_head outside_head undecided_head end_head head_at fit_step log_step outside_step undecided_step step_at next_step steps_at fit_start empty_start start_at order_of transcript_of
returns-clause-none c = refl

pub returns-clause-after_end : goal.returns-clause-after_end
unfolding ended_lines is_whole pieces natural field_of digits packing_formula three_bids three_stations line_end word_at plain_number plain_field number_at station_at channel_at worker_at exact_number_at station_above lits_at hints_at log_line log_at entry_at entries_at moves_at stations_at some_log numbered_log lines_receipt moves_receipt receipt_count receipt_at receipts_at step_test_at fit_head same_head none_head log_head dead_head outside_head undecided_head end_head head_at fit_step log_step outside_step undecided_step step_at next_step steps_at fit_start empty_start start_at order_of transcript_of
returns-clause-after_end c = refl

pub returns-clause-wrong_count : goal.returns-clause-wrong_count
unfolding ended_lines is_whole pieces natural field_of digits packing_formula three_bids three_stations line_end word_at plain_number plain_field number_at station_at channel_at worker_at exact_number_at station_above lits_at hints_at log_line log_at entry_at entries_at moves_at stations_at some_log numbered_log lines_receipt moves_receipt receipt_count receipt_at receipts_at step_test_at fit_head same_head none_head log_head dead_head outside_head undecided_head end_head head_at fit_step log_step outside_step undecided_step step_at next_step steps_at fit_start empty_start start_at order_of transcript_of
returns-clause-wrong_count c = refl

pub returns-clause-by_volume : goal.returns-clause-by_volume
unfolding ended_lines is_whole pieces natural field_of digits packing_formula three_bids three_stations line_end word_at plain_number plain_field number_at station_at channel_at worker_at exact_number_at station_above lits_at hints_at log_line log_at entry_at entries_at moves_at stations_at some_log numbered_log lines_receipt moves_receipt receipt_count receipt_at receipts_at step_test_at fit_head same_head none_head log_head dead_head outside_head undecided_head end_head head_at fit_step log_step outside_step undecided_step step_at next_step steps_at fit_start empty_start start_at order_of transcript_of
returns-clause-by_volume c = refl

pub returns-clause-by_volume_written : goal.returns-clause-by_volume_written
unfolding spelling version_text start_text end_text receipt_text receipts_text refuted_text outside_text shown_text log_text with_spaces digits packing_formula three_stations
returns-clause-by_volume_written c = refl

pub returns-clause-other : goal.returns-clause-other
unfolding ended_lines is_whole pieces natural field_of digits packing_formula three_bids three_stations line_end word_at plain_number plain_field number_at station_at channel_at worker_at exact_number_at station_above lits_at hints_at log_line log_at entry_at entries_at moves_at stations_at some_log numbered_log lines_receipt moves_receipt receipt_count receipt_at receipts_at step_test_at fit_head same_head none_head log_head dead_head outside_head undecided_head end_head head_at fit_step log_step outside_step undecided_step step_at next_step steps_at fit_start empty_start start_at order_of transcript_of
returns-clause-other c = refl

pub returns-clause-other_written : goal.returns-clause-other_written
unfolding spelling version_text start_text end_text receipt_text receipts_text refuted_text outside_text shown_text log_text with_spaces digits packing_formula three_stations
returns-clause-other_written c = refl
