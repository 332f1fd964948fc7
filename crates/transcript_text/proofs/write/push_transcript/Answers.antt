-- Each step is of an active station of the scenario, in one of its rounds, and moves the clock by the rule. Its text
-- is the next part of the transcript's.
use Rattle.std.proofs.Common.{◌≡◌, ap, length, take}
use Rattle.pack_defs.specs.ClockRule.{ClockState}
use Rattle.auction_core.specs.Backed.{after_start, after_steps}
use Rattle.auction_core.proofs.ClockLemmas.{length-standings}
use Rattle.result_text.proofs.StepLemmas.{IsNext, backed-next, carried-through}
use Rattle.result_text.proofs.ReplayLemmas.{auction-of, next-active, next-clock, next-there, next-unpaid}
use Rattle.transcript_text.proofs.Writes.{steps-all, steps-more, whole-text, writable-at}
use Rattle.transcript_text.proofs.write.push_transcript.Goals as goal
use Rattle.transcript_text.proofs.write.push_transcript.Goals.{After-place_of}

next : (c : After-place_of) → IsNext c.args.rec.now.scenario c.args.rec.now c.as_slice-step-items.result.now c.loop-step.step-index c.step-item.result
next c = backed-next c.args.rec.now.scenario c.args.book.now c.args.rec.now _ c.loop-step.step-index c.step-item.result (auction-of _ _ c.requires.limits c.keeps_order.ensures) c.requires.backed c.requires.done c.as_slice-step-items.ensures c.loop-step-test.true c.step-item.is

pub push_step-requires-clause-writable : goal.push_step-requires-clause-writable
push_step-requires-clause-writable c =
    let carried = carried-through c.args.rec.now.scenario c.args.book.now c.args.rec.now c.requires.backed c.requires.done in
    writable-at c.args.rec.now.scenario c.args.book.now (after_start c.args.rec.now.scenario c.args.rec.now.order c.args.rec.now.start) c.args.rec.now.steps c.as_slice-step-items.result.now c.loop-step.step-index c.step-item.result c.requires.limits carried.shown c.as_slice-step-items.ensures c.loop-step-test.true c.step-item.is

pub log_clauses-requires-clause-stations : goal.log_clauses-requires-clause-stations
log_clauses-requires-clause-stations c = length-standings c.loop-step.invariant.clock.station_statuses

pub settle-requires-clause-stations : goal.settle-requires-clause-stations
settle-requires-clause-stations c = length-standings c.loop-step.invariant.clock.station_statuses

pub settle-requires-clause-active : goal.settle-requires-clause-active
settle-requires-clause-active c =
    let n = next (goal.at.settle-requires-clause-active c).After-place_of in
    let place = rw c.as_slice.ensures at c.in-Some.ensures in
    next-active c.in-Some.i n c.loop-step.invariant.clock.station_statuses place.0 place.1

pub settle-requires-clause-unpaid : goal.settle-requires-clause-unpaid
settle-requires-clause-unpaid c =
    let n = next (goal.at.settle-requires-clause-unpaid c).After-place_of in
    let place = rw c.as_slice.ensures at c.in-Some.ensures in
    next-unpaid c.in-Some.i n c.loop-step.invariant.clock place.0 place.1

pub settle-requires-clause-begun : goal.settle-requires-clause-begun
settle-requires-clause-begun c = (next (goal.at.settle-requires-clause-begun c).After-place_of).begun

pub settle-requires-clause-round : goal.settle-requires-clause-round
settle-requires-clause-round c = (next (goal.at.settle-requires-clause-round c).After-place_of).round

pub unreachable-requires : goal.unreachable-requires
unreachable-requires c =
    next-there c.as_slice.result.now (next (goal.at.unreachable-requires c).After-place_of) c.as_slice.ensures c.in-None.ensures

pub loop-step-preserved : goal.loop-step-preserved
loop-step-preserved c =
    let n = next (goal.at.loop-step-preserved c).After-place_of in
    let place = rw c.as_slice.ensures at c.in-Some.ensures in
    let sc = c.args.rec.now.scenario in
    let steps = c.as_slice-step-items.result.now in
    let k = c.loop-step.step-index in
    let x = c.step-item.result in
    let clock : ClockState = (after_steps sc (after_start sc c.args.rec.now.order c.args.rec.now.start) (take k steps)).clock in
    record {
      clock = rw (c.settle.ensures, c.shows_room.ensures, place.1) (next-clock c.in-Some.i n c.requires.limits.ascend c.loop-step.invariant.clock place.0 place.1);
      text =
          let firsts = c.in_ok-clauses-in-Some.ensures.count clock c.loop-step.invariant.clock.station_statuses in
          rw (c.in_ok-push_step-in-Some.ensures, firsts)
          (steps-more sc c.args.book.now c.loop-step.text.items clock _ k x steps _ c.loop-step-test.true c.step-item.is (ap (λ s. s.clock) n.moves) c.loop-step.invariant.text);
    }

pub returns : goal.returns
returns c =
    let sc = c.args.rec.now.scenario in
    let book = c.args.book.now in
    let steps = c.as_slice-step-items.result.now in
    let text = steps-all sc book c.loop-step.text.items (after_steps sc (after_start sc c.args.rec.now.order c.args.rec.now.start) (take c.loop-step.step-index steps)).clock c.loop-step.step-index steps _ c.loop-step-test.false c.loop-step.invariant.text in
    let count : length c.as_slice-2.result.now ≡ length c.args.rec.now.steps = ap length c.as_slice-2.ensures in
    rw (c.in_ok-push_end.ensures, text) (whole-text sc book c.args.rec.now (length c.as_slice-2.result.now) count)
