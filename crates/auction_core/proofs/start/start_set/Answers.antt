use Rattle.std.proofs.Common.{◌∙◌, ◌<◌, ◌++◌, ◌∷◌, [], None, get_or, length, ap, sym, subst}
use Rattle.pack_defs.specs.declared.station.Station.{Station}
use Rattle.pack_defs.specs.Scenario.{facilities}
use Rattle.auction_core.proofs.StartLemmas.{starts-passed, starts-taken}
use Rattle.auction_core.proofs.ClockLemmas.{facility_at}
use Rattle.auction_core.proofs.start.start_set.Goals as goal

abbrev none : Station
none = record { id = 0; volume = 0; value = None }

pub loop-station-preserved-then-not-declines_opening : goal.loop-station-preserved-then-not-declines_opening
loop-station-preserved-then-not-declines_opening c =
    let stations = c.as_slice-station-items.ensures in
    let inside : c.loop-station.station-index < length c.args.sc.now.stations = subst (λ z. c.loop-station.station-index < length z) stations c.loop-station-test.true in
    c.loop-station.invariant ∙ sym (starts-passed c.args.sc.now c.loop-station.station-index _ c.requires.ascend inside (sym (rw stations at c.if-not-declines_opening.ensures)))

pub loop-station-preserved : goal.loop-station-preserved
loop-station-preserved c =
    let stations = c.as_slice-station-items.ensures in
    let inside : c.loop-station.station-index < length c.args.sc.now.stations = subst (λ z. c.loop-station.station-index < length z) stations c.loop-station-test.true in
    let own = facility_at c.args.sc.now c.loop-station.station-index none inside in
    (rw (stations, ← own) at c.in_ok-push.ensures.items) ∙ (ap (λ z. z ++ get_or (facilities c.args.sc.now) c.loop-station.station-index 0 ∷ []) c.loop-station.invariant ∙ sym (starts-taken c.args.sc.now c.loop-station.station-index _ c.requires.ascend inside (sym (rw stations at c.if-not-declines_opening.ensures))))
