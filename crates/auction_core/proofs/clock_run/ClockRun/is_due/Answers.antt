-- Whether the station at that place is active, by its standing.
use Rattle.std.proofs.Common.{◌∙◌, ap, sym, get_or}
use Rattle.pack_defs.specs.ClockRule.{round_order}
use Rattle.auction_core.specs.declared.clock.StationStatus.TheVariants.{Active}
use Rattle.auction_core.specs.Clock.{is_status_active}
use Rattle.auction_core.specs.ClockRun.{ClockRunView, next_test}
use Rattle.auction_core.proofs.ClockLemmas.{is_active_at}
use Rattle.auction_core.proofs.clock_run.ClockRun.is_due.Goals as goal

pub returns : goal.returns
returns c =
    let s = c.args.setup.now in
    let now = c.args.self.now in
    let at = c.place.ensures.station ∙ ap (λ (z : ClockRunView). get_or (round_order s.scenario s.order) z.place_in_round 0) c.self.view_is in
    c.is_active.ensures ∙ (ap (λ (z : ClockRunView). is_status_active (get_or z.clock.station_statuses c.place.result Active)) c.self.view_is
    ∙ sym (is_active_at c.place.result (next_test s now).station Active c.requires.holds.clock.station_statuses c.place.ensures.within at))
