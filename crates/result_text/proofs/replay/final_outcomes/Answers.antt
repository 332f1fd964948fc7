-- Each step is of an active station of the scenario, in one of its rounds, and moves the clock by the rule.
use Rattle.std.proofs.Common.{◌≡◌, ◌∙◌, ap, false, length, replicate, rules}
use Rattle.auction_core.specs.Backed.{undecided_of}
use Rattle.auction_core.proofs.ClockLemmas.{length-standings}
use Rattle.result_text.proofs.StepLemmas.{IsNext, backed-next}
use Rattle.result_text.proofs.ReplayLemmas.{auction-of, last-clock, next-active, next-clock, next-frozen, next-there, next-unpaid, opening-frozen}
use Rattle.result_text.proofs.replay.final_outcomes.Goals as goal
use Rattle.result_text.proofs.replay.final_outcomes.Goals.{After-place_of}

next : (c : After-place_of) → IsNext c.args.rec.now.scenario c.args.rec.now c.as_slice-step-items.result.now c.loop-step.step-index c.step-item.result
next c = backed-next c.args.rec.now.scenario c.args.book.now c.args.rec.now _ c.loop-step.step-index c.step-item.result (auction-of _ _ c.requires.limits c.keeps_order.ensures) c.requires.backed c.requires.done c.as_slice-step-items.ensures c.loop-step-test.true c.step-item.is

pub loop-step-init : goal.loop-step-init
loop-step-init c =
    let none : c.in_ok-undecided.undecided.items ≡ replicate (length c.as_slice.result.now) false = search rules in
    record {
      clock = c.in_ok-clock.ensures;
      undecided = none ∙ opening-frozen (undecided_of c.args.rec.now.steps) (length c.as_slice.result.now) (ap length c.as_slice.ensures) c.in_ok-clock.ensures.station_statuses;
    }

pub settle-requires-clause-stations : goal.settle-requires-clause-stations
settle-requires-clause-stations c = length-standings c.loop-step.invariant.clock.station_statuses

pub settle-requires-clause-active : goal.settle-requires-clause-active
settle-requires-clause-active c =
    let n = next (goal.at.settle-requires-clause-active c).After-place_of in
    let place = rw c.as_slice-in-loop-step.ensures at c.in-Some.ensures in
    next-active c.in-Some.i n c.loop-step.invariant.clock.station_statuses place.0 place.1

pub settle-requires-clause-unpaid : goal.settle-requires-clause-unpaid
settle-requires-clause-unpaid c =
    let n = next (goal.at.settle-requires-clause-unpaid c).After-place_of in
    let place = rw c.as_slice-in-loop-step.ensures at c.in-Some.ensures in
    next-unpaid c.in-Some.i n c.loop-step.invariant.clock place.0 place.1

pub settle-requires-clause-begun : goal.settle-requires-clause-begun
settle-requires-clause-begun c = (next (goal.at.settle-requires-clause-begun c).After-place_of).begun

pub settle-requires-clause-round : goal.settle-requires-clause-round
settle-requires-clause-round c = (next (goal.at.settle-requires-clause-round c).After-place_of).round

pub unreachable-requires : goal.unreachable-requires
unreachable-requires c =
    next-there c.as_slice-in-loop-step.result.now (next (goal.at.unreachable-requires c).After-place_of) c.as_slice-in-loop-step.ensures c.in-None.ensures

pub loop-step-preserved : goal.loop-step-preserved
loop-step-preserved c =
    let n = next (goal.at.loop-step-preserved c).After-place_of in
    let place = rw c.as_slice-in-loop-step.ensures at c.in-Some.ensures in
    record {
      clock = rw (c.settle.ensures, c.shows_room.ensures, place.1) (next-clock c.in-Some.i n c.requires.limits.ascend c.loop-step.invariant.clock place.0 place.1);
      undecided = rw (c.loop-step.invariant.undecided, c.is_undecided.ensures, c.settle.ensures, c.shows_room.ensures, place.1) (next-frozen c.loop-step.clock.station_statuses c.in-Some.i n place.0 place.1);
    }

pub returns-clause-clock : goal.returns-clause-clock
returns-clause-clock c =
    last-clock c.args.book.now c.args.rec.now c.as_slice-step-items.result.now c.loop-step.step-index (auction-of _ _ c.requires.limits c.keeps_order.ensures) c.requires.backed c.requires.done c.as_slice-step-items.ensures c.loop-step-test.false c.loop-step.invariant.clock
