-- The lines are those of the rule's standings and of the record's total.
use Rattle.std.proofs.Common.{◌∙◌}
use Rattle.auction_core.specs.Backed.{undecided_of}
use Rattle.result_text.proofs.StepLemmas.{carried-through}
use Rattle.result_text.proofs.CountLemmas.{rule-summary}
use Rattle.result_text.proofs.counts.summary.Goals as goal

pub returns : goal.returns
returns c =
    rw (c.in_ok-push_count-5.ensures.added, c.in_ok-push_count-4.ensures.added, c.in_ok-push_count-3.ensures.added, c.in_ok-push_count-2.ensures.added, c.in_ok-push_count.ensures.added, c.new-text.ensures.items, c.undecided_count.ensures, c.frozen_count.ensures, c.on_air_count.ensures, c.station_statuses-station_statuses.ensures)
    (rule-summary {sc = c.args.rec.now.scenario} c.args.book.now c.args.rec.now.order (undecided_of c.args.rec.now.steps) c.deref.result.now c.args.rec.now.total c.requires.limits.ascend c.in_ok-outcomes.ensures.clock.station_statuses (c.deref.ensures.value ∙ c.in_ok-outcomes.ensures.undecided) (carried-through c.args.rec.now.scenario c.args.book.now c.args.rec.now c.requires.backed c.requires.done).total)
