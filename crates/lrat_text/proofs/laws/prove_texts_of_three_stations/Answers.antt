use Rattle.std.proofs.Common.{refl}
use Rattle.std.specs.Fmt.{digits}
use Rattle.lrat_text.specs.Lines.{ended_lines, is_whole, pieces, without_return, with_spaces}
use Rattle.lrat_text.specs.Write.{log_text}
use Rattle.lrat_text.specs.Read.{natural, field_of, log_lits_at, hint_place, log_hints_at, with_line, deleted_at, deletion, after_words, after_log_lines, log_of}
use Rattle.lrat_text.proofs.laws.prove_texts_of_three_stations.Goals as goal

pub returns-clause-written : goal.returns-clause-written
unfolding log_text with_spaces digits
returns-clause-written c = refl

pub returns-clause-read : goal.returns-clause-read
unfolding ended_lines is_whole pieces without_return natural field_of log_lits_at hint_place log_hints_at with_line deleted_at deletion after_words after_log_lines log_of
returns-clause-read c = refl

pub returns-clause-rat : goal.returns-clause-rat
unfolding ended_lines is_whole pieces without_return natural field_of log_lits_at hint_place log_hints_at with_line deleted_at deletion after_words after_log_lines log_of
returns-clause-rat c = refl

pub returns-clause-first : goal.returns-clause-first
unfolding ended_lines is_whole pieces without_return natural field_of log_lits_at hint_place log_hints_at with_line deleted_at deletion after_words after_log_lines log_of
returns-clause-first c = refl

pub returns-clause-cut : goal.returns-clause-cut
unfolding is_whole log_of
returns-clause-cut c = refl

pub returns-clause-passed : goal.returns-clause-passed
unfolding ended_lines is_whole pieces without_return natural field_of log_lits_at hint_place log_hints_at with_line deleted_at deletion after_words after_log_lines log_of
returns-clause-passed c = refl
