-- The last round comes after the last price, and the station's volume and value can be looked up by its number.
use Rattle.std.proofs.Common.{◌≡◌, ◌||◌, ◌∙◌, ap, sym, true, false, eqb, None, arith, get_or, length}
use Rattle.std.proofs.lemmas.Bool.{eq-eqb, ne_eqb}
use Rattle.pack_defs.specs.declared.station.Station.{Station}
use Rattle.pack_defs.specs.Prices.{declines, last_round}
use Rattle.pack_defs.specs.Scenario.{facilities}
use Rattle.pack_defs.proofs.PriceLaws.{prices_rounds}
use Rattle.auction_core.proofs.ClockLemmas.{declines_at}
use Rattle.auction_core.proofs.clock.exits.Goals as goal

pub offer-requires : goal.offer-requires
offer-requires c =
    let rounds = ap length c.requires.schedule in
    let not_last = c.if-round-schedule.false in
    rw c.requires.schedule (omega (arith, prices_rounds c.args.sc.now, rounds, not_last))

pub returns-then-round-schedule : goal.returns-then-round-schedule
returns-then-round-schedule c =
    let sc = c.args.sc.now in
    let is_last : eqb c.args.round (last_round sc) ≡ true = eq-eqb c.args.round (last_round sc) (c.if-round-schedule.true ∙ (ap length c.requires.schedule ∙ prices_rounds sc)) in
    eq-eqb c.args.round (length c.args.schedule.now) c.if-round-schedule.true
    ∙ ap (λ b. b || declines sc (get_or (facilities sc) c.args.i 0) c.args.round) (sym is_last)

pub returns-else-round-schedule : goal.returns-else-round-schedule
returns-else-round-schedule c =
    let sc = c.args.sc.now in
    let none : Station = record { id = 0; volume = 0; value = None } in
    let own = declines_at sc c.args.i c.args.round none c.requires.limits.ascend c.requires.place in
    let not_last : eqb c.args.round (last_round sc) ≡ false = ne_eqb c.args.round (last_round sc) (λ e. c.if-round-schedule.false (e ∙ (sym (prices_rounds sc) ∙ sym (ap length c.requires.schedule)))) in
    rw (c.declines.ensures, c.offer.ensures, c.as_slice.ensures, c.requires.schedule)
    (sym own ∙ ap (λ b. b || declines sc (get_or (facilities sc) c.args.i 0) c.args.round) (sym not_last))
