-- The next record is the first one asked for, the second, or neither.
use Rattle.std.proofs.Common.{◌∙◌, sym}
use Rattle.commands.proofs.TopChannelRunLemmas.{pick-here, pick-past, told-apart}
use Rattle.commands.proofs.top_channel_runs.pick_from.Goals as goal

pub returns-then-has_top_answer-clause-first : goal.returns-then-has_top_answer-clause-first
returns-then-has_top_answer-clause-first c = λ base all left of before.
    pick-here base c.args.x c.args.first.top c.args.first.answer of (sym c.has_top_answer.ensures ∙ c.if-has_top_answer.true)

pub returns-then-has_top_answer-clause-second : goal.returns-then-has_top_answer-clause-second
returns-then-has_top_answer-clause-second c = λ base all left of before.
    pick-past base all left c.args.x c.args.second.top c.args.second.answer c.args.picked.second
    (told-apart c.args.x c.args.first.top c.args.second.top c.args.first.answer c.args.second.answer c.requires.apart (sym c.has_top_answer.ensures ∙ c.if-has_top_answer.true)) before

pub returns-then-has_top_answer-2-clause-second : goal.returns-then-has_top_answer-2-clause-second
returns-then-has_top_answer-2-clause-second c = λ base all left of before.
    pick-here base c.args.x c.args.second.top c.args.second.answer of (sym c.has_top_answer-2.ensures ∙ c.if-has_top_answer-2.true)
