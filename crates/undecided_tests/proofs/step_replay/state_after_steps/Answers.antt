-- Each step is of an active station of the scenario, moves the clock by the rule, and gives channels to the
-- scenario's stations only.
use Rattle.std.proofs.Common.{rules, ◌≡◌, ◌∙◌, ap, subst, arith, length, get_or, replicate}
use Rattle.std.proofs.lemmas.Grind.{get_or_default_zero}
use Rattle.auction_core.specs.Clock.{answered_clock}
use Rattle.auction_core.specs.declared.clock.StationStatus.TheVariants.{Active}
use Rattle.auction_core.proofs.ClockRunStart.{start-within}
use Rattle.result_text.proofs.StepLemmas.{IsNext, backed-next}
use Rattle.result_text.proofs.ReplayLemmas.{auction-of, next-active, next-there, next-unpaid}
use Rattle.undecided_tests.specs.StepReplay.{IsStateAfter}
use Rattle.undecided_tests.proofs.StepReplayLemmas.{backed-following, backed-within, first-following, length-with, state_at}
use Rattle.undecided_tests.proofs.step_replay.state_after_steps.Goals as goal
use Rattle.undecided_tests.proofs.step_replay.state_after_steps.Goals.{After-place_of}

next : (c : After-place_of) → IsNext c.args.rec.now.scenario c.args.rec.now c.as_slice-steps.result.now c.loop-k.k c.index-steps-k.result
next c =
    let long = ap length c.as_slice-steps.ensures in
    let there = c.requires.there in
    let test = c.loop-k-test.true in
    backed-next c.args.rec.now.scenario c.args.book.now c.args.rec.now c.as_slice-steps.result.now c.loop-k.k c.index-steps-k.result (auction-of _ _ c.requires.limits c.keeps_order.ensures) c.requires.backed c.requires.done c.as_slice-steps.ensures (omega (arith, long, there, test)) c.index-steps-k.is

pub start_map-requires-clause-within : goal.start_map-requires-clause-within
start_map-requires-clause-within c = start-within c.args.rec.now.scenario c.args.book.now c.args.rec.now.start c.requires.backed.start

pub loop-k-init : goal.loop-k-init
loop-k-init c =
    let zeros : c.in_ok-fits.fits.items ≡ replicate (length c.as_slice-stations.result.now) 0 = search rules in
    (first-following c.args.rec.now.scenario c.args.rec.now c.as_slice-steps.result.now c.in_ok-clock.clock c.in_ok-map.map c.in_ok-fits.fits.items (length c.as_slice-stations.result.now) c.in_ok-clock.ensures c.in_ok-map.ensures (ap length c.as_slice-stations.ensures) zeros, omega arith)

pub settle-requires-clause-active : goal.settle-requires-clause-active
settle-requires-clause-active c =
    let n = next (goal.at.settle-requires-clause-active c).After-place_of in
    let place = rw c.as_slice-stations.ensures at c.in-Some.ensures in
    next-active c.in-Some.i n c.loop-k.invariant.0.left.clock_is.station_statuses place.0 place.1

pub settle-requires-clause-unpaid : goal.settle-requires-clause-unpaid
settle-requires-clause-unpaid c =
    let n = next (goal.at.settle-requires-clause-unpaid c).After-place_of in
    let place = rw c.as_slice-stations.ensures at c.in-Some.ensures in
    next-unpaid c.in-Some.i n c.loop-k.invariant.0.left.clock_is place.0 place.1

pub settle-requires-clause-begun : goal.settle-requires-clause-begun
settle-requires-clause-begun c = (next (goal.at.settle-requires-clause-begun c).After-place_of).begun

pub settle-requires-clause-round : goal.settle-requires-clause-round
settle-requires-clause-round c = (next (goal.at.settle-requires-clause-round c).After-place_of).round

pub index-requires : goal.index-requires
index-requires c =
    let place = rw c.as_slice-stations.ensures at c.in-Some.ensures in
    let within = length-with c.args.rec.now.scenario c.args.rec.now c.as_slice-steps.result.now c.loop-k.k c.in-Some.i _ _ _ _ _ _ c.note_fit.ensures place.0 c.loop-k.invariant.0 in
    let long = c.note_fit.new.fits.ok.0 in
    omega (arith, within, long)

pub take_if_on_air-requires : goal.take_if_on_air-requires
take_if_on_air-requires c =
    let place = rw c.as_slice-stations.ensures at c.in-Some.ensures in
    let within = length-with c.args.rec.now.scenario c.args.rec.now c.as_slice-steps.result.now c.loop-k.k c.in-Some.i _ _ _ _ _ _ c.note_fit.ensures place.0 c.loop-k.invariant.0 in
    let number = c.index.ensures ∙ (get_or_default_zero c.note_fit.new.fits.items c.in-Some.i c.index.result.now within ∙ ap (λ xs. get_or xs c.in-Some.i 0) c.note_fit.ensures) in
    rw number (backed-within c.args.rec.now.scenario c.args.book.now c.args.rec.now c.as_slice-steps.result.now c.loop-k.k c.args.count c.in-Some.i c.index-steps-k.result c.loop-k.clock c.loop-k.map c.loop-k.fits.items c.requires.limits c.keeps_order.ensures c.requires.backed c.requires.done c.as_slice-steps.ensures c.requires.there c.loop-k-test.true c.index-steps-k.is place c.loop-k.invariant.0)

pub unreachable-requires : goal.unreachable-requires
unreachable-requires c =
    next-there c.as_slice-stations.result.now (next (goal.at.unreachable-requires c).After-place_of) c.as_slice-stations.ensures c.in-None.ensures

pub loop-k-preserved : goal.loop-k-preserved
loop-k-preserved c =
    let sc = c.args.rec.now.scenario in
    let x = c.index-steps-k.result in
    let place = rw c.as_slice-stations.ensures at c.in-Some.ensures in
    let within = length-with sc c.args.rec.now c.as_slice-steps.result.now c.loop-k.k c.in-Some.i _ _ _ _ _ _ c.note_fit.ensures place.0 c.loop-k.invariant.0 in
    let clock = c.settle.ensures ∙ (λ j. answered_clock sc (record { round = x.round; station = place.1 j }) c.in-Some.i (c.shows_room.ensures j) c.loop-k.clock) in
    let number = c.index.ensures ∙ get_or_default_zero c.note_fit.new.fits.items c.in-Some.i c.index.result.now within in
    let test = c.loop-k-test.true in (
      backed-following sc c.args.book.now c.args.rec.now c.as_slice-steps.result.now c.loop-k.k c.args.count c.in-Some.i x c.loop-k.clock c.loop-k.map c.loop-k.fits.items c.requires.limits c.keeps_order.ensures c.requires.backed c.requires.done c.as_slice-steps.ensures c.requires.there c.loop-k-test.true c.index-steps-k.is place c.loop-k.invariant.0
          c.settle.new.self c.take_if_on_air.new.map c.note_fit.new.fits.items _ c.index.result.now clock c.note_fit.ensures (ap (λ xs. get_or xs c.in-Some.i Active) c.station_statuses.ensures) number c.take_if_on_air.ensures,
      omega (arith, test),
    )

pub returns : goal.returns
returns c =
    let sc = c.args.rec.now.scenario in
    let most = c.loop-k.invariant.1 in
    let past = c.loop-k-test.false in
    let all : c.loop-k.k ≡ c.args.count = omega (arith, most, past) in
    subst (λ n. IsStateAfter sc (state_at sc c.args.rec.now c.args.rec.now.steps n) c.loop-k.clock c.loop-k.map) all
    (subst (λ xs. IsStateAfter sc (state_at sc c.args.rec.now xs c.loop-k.k) c.loop-k.clock c.loop-k.map) c.as_slice-steps.ensures c.loop-k.invariant.0.left)
