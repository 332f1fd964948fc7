-- A wave and a serial turn leave fewer queries.
use Rattle.std.proofs.Common.{◌≡◌, ap, subst}
use Rattle.pack_defs.specs.declared.scenario.Scenario.{Scenario}
use Rattle.auction_core.specs.QuerySession.{QuerySessionView}
use Rattle.race_wave.specs.Serial.{IsSettledIfCurrent}
use Rattle.race_wave.proofs.MeasureLemmas.{turn-fewer}
use Rattle.race_wave.proofs.run.wave_then_serial.Goals as goal

pub returns-clause-fewer : goal.returns-clause-fewer
returns-clause-fewer g c begun =
    let old = c.args.auction in
    let mid = c.in_ok-auction.auction in
    let new = c.serial_turn.new.auction in
    let mid_is : mid.scenario ≡ old.scenario = ap (λ (b : QuerySessionView). b.scenario) c.in_ok-auction.ensures.beginning in
    turn-fewer old.scenario old mid new begun c.in_ok-auction.ensures.comes_closer_to_end c.serial_turn.ensures.idle
    (subst (λ (sc : Scenario). IsSettledIfCurrent sc mid.state new.state) mid_is c.in_ok-serial_turn.ensures.is_settled_if_current)
