-- The steps before it determine the clock and the map that its query is found from.
use Rattle.std.proofs.Common.{◌∙◌, ◌+◌, ◌-◌, ap, sym, take}
use Rattle.auction_core.specs.Prefix.{queries_taken}
use Rattle.auction_core.specs.State.{restricted}
use Rattle.result_text.proofs.ReplayLemmas.{auction-of}
use Rattle.undecided_tests.specs.Queries.{state_before}
use Rattle.undecided_tests.proofs.TaskLemmas.{known-station, same-task, task-found}
use Rattle.undecided_tests.proofs.task.task_at.Goals as goal

pub test_set-requires-clause-known : goal.test_set-requires-clause-known
test_set-requires-clause-known c =
    known-station c.args.book.now c.args.rec.now c.as_slice-steps.result.now c.args.step c.index-steps-before.result (auction-of c.args.rec.now.scenario c.args.book.now c.requires.limits c.keeps_order.ensures) c.requires.backed c.requires.begins c.requires.there c.as_slice-steps.ensures c.index-steps-before.is

pub returns-clause-task_is : goal.returns-clause-task_is
returns-clause-task_is c =
    let rec = c.args.rec.now in
    let book = c.args.book.now in
    let step = c.args.step in
    let x = c.index-steps-before.result in
    let left = c.in_ok-left.ensures in
    let set = c.from_vec.ensures ∙ c.in_ok-set.ensures.set (state_before rec step).clock left.clock_is.station_statuses in
    let last = c.in_ok-last.ensures ∙ ap (restricted c.in_ok-left.left.map.entries) (c.deref.ensures.value ∙ sym c.from_vec.ensures) in
    let number = ap (λ n. 1 + n) (c.queries_taken.ensures.queries ∙ ap (λ xs. queries_taken rec.start (take (step - 1) xs)) c.as_slice-steps.ensures) in
    task-found book rec c.as_slice-steps.result.now step x _ c.requires.begins c.requires.there c.as_slice-steps.ensures c.index-steps-before.is (same-task rec.scenario book (state_before rec step) x _ _ _ _ number set last left.entries)
