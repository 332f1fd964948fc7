use Rattle.std.proofs.Common.{refl}
use Rattle.std.specs.Fmt.{digits}
use Rattle.pack_defs.specs.Examples.{three_bids, three_stations}
use Rattle.cnf_encode.specs.Formula.{packing_formula}
use Rattle.lrat_text.specs.Lines.{ended_lines, is_whole, pieces}
use Rattle.lrat_text.specs.Read.{natural, field_of}
use Rattle.transcript_text.specs.Fields.{line_end, word_at, plain_number, plain_field, number_at, station_at, channel_at, worker_at, exact_number_at, station_above}
use Rattle.transcript_text.specs.LogLines.{lits_at, hints_at, log_line, log_at, entry_at, entries_at, moves_at, stations_at}
use Rattle.transcript_text.specs.Reading.{some_log, numbered_log, lines_receipt, moves_receipt, receipt_count, receipt_at, receipts_at, step_test_at, fit_head, same_head, none_head, log_head, dead_head, outside_head, undecided_head, end_head, head_at, fit_step, log_step, outside_step, undecided_step, step_at, next_step, steps_at, fit_start, empty_start, start_at, order_of, transcript_of}
use Rattle.transcript_text.specs.PrefixReading.{goes_on_there, prefix_of, prefix_start, prefix_steps}
use Rattle.transcript_text.proofs.laws.prove_cut_texts_of_three_stations.Goals as goal

pub returns-clause-truncated : goal.returns-clause-truncated
unfolding ended_lines is_whole pieces natural field_of digits packing_formula three_bids three_stations line_end word_at plain_number plain_field number_at station_at channel_at worker_at exact_number_at station_above lits_at hints_at log_line log_at entry_at entries_at moves_at stations_at some_log numbered_log lines_receipt moves_receipt receipt_count receipt_at receipts_at step_test_at fit_head same_head none_head log_head dead_head outside_head undecided_head end_head head_at fit_step log_step outside_step undecided_step step_at next_step steps_at fit_start empty_start start_at order_of transcript_of
returns-clause-truncated c = refl

pub returns-clause-kept : goal.returns-clause-kept
unfolding ended_lines is_whole pieces natural field_of digits packing_formula three_bids three_stations line_end word_at plain_number plain_field number_at station_at channel_at worker_at exact_number_at station_above lits_at hints_at log_line log_at entry_at entries_at moves_at stations_at some_log numbered_log lines_receipt moves_receipt receipt_count receipt_at receipts_at step_test_at fit_head same_head none_head log_head dead_head outside_head undecided_head end_head head_at fit_step log_step outside_step undecided_step step_at next_step steps_at fit_start empty_start start_at order_of transcript_of goes_on_there prefix_of prefix_start prefix_steps
returns-clause-kept c = refl

pub returns-clause-rejected : goal.returns-clause-rejected
unfolding ended_lines is_whole pieces natural field_of digits packing_formula three_bids three_stations line_end word_at plain_number plain_field number_at station_at channel_at worker_at exact_number_at station_above lits_at hints_at log_line log_at entry_at entries_at moves_at stations_at some_log numbered_log lines_receipt moves_receipt receipt_count receipt_at receipts_at step_test_at fit_head same_head none_head log_head dead_head outside_head undecided_head end_head head_at fit_step log_step outside_step undecided_step step_at next_step steps_at fit_start empty_start start_at order_of transcript_of goes_on_there prefix_of prefix_start prefix_steps
returns-clause-rejected c = refl
