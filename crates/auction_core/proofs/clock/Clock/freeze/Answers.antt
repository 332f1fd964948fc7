-- One active station fewer, and room for one price fewer.
use Rattle.std.proofs.Common.{◌≡◌, ◌<◌, List, get_or, length, subst, sym}
use Rattle.auction_core.specs.declared.clock.StationStatus.{StationStatus}
use Rattle.auction_core.specs.declared.clock.StationStatus.TheVariants.{Active}
use Rattle.auction_core.specs.Clock.{ClockView}
use Rattle.auction_core.proofs.Paid.{freeze-room}
use Rattle.auction_core.proofs.clock.Clock.freeze.Goals as goal

pub invariant_of-self : goal.invariant_of-self
invariant_of-self c =
    let own : List StationStatus = c.self.inside.station_statuses.items in
    let within : c.args.i < length own = subst (λ (v : ClockView). c.args.i < length v.station_statuses) (sym c.self.view_is) c.requires.place in
    let active : get_or own c.args.i Active ≡ Active = subst (λ (v : ClockView). get_or v.station_statuses c.args.i Active ≡ Active) (sym c.self.view_is) c.requires.active in
    freeze-room own c.self.inside.ledger c.freeze.new.self c.args.i c.args.round c.args.station c.args.price c.self.invariant within active c.requires.price c.freeze.ensures.paid c.freeze.ensures.spare
