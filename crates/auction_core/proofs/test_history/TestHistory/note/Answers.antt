-- By the lemmas on one more test, settled by a fit or otherwise.
use Rattle.std.proofs.Common.{◌≡◌, ◌∙◌, ◌<◌, length, get_or, sym, subst}
use Rattle.auction_core.specs.TestHistory.{TestHistoryView}
use Rattle.auction_core.proofs.TestHistoryLemmas.{fit-more, no-fit-more, now-seen}
use Rattle.auction_core.proofs.test_history.TestHistory.note.Goals as goal

pub invariant_of-self : goal.invariant_of-self
invariant_of-self c =
    let own = c.self.inside in
    let inside = subst (λ (v : TestHistoryView). c.args.place < length v.component_labels.stations) (sym c.self.view_is) c.requires.place in (
      c.self.invariant.0,
      now-seen own.component_labels.stations own.on_air own.seen.items c.args.place inside c.self.invariant.1,
      rw (c.push.ensures.steps, c.push.ensures.told) (no-fit-more own.component_labels.stations own.steps.steps own.steps.told own.fits.items c.args.step (sym c.is_fit-is_fit.ensures ∙ c.if-not-is_fit.true) c.self.invariant.2),
    )

pub invariant_of-self-2 : goal.invariant_of-self-2
invariant_of-self-2 c =
    let own = c.self.inside in
    let inside = subst (λ (v : TestHistoryView). c.args.place < length v.component_labels.stations) (sym c.self.view_is) c.requires.place in
    let station = subst (λ (v : TestHistoryView). get_or v.component_labels.stations c.args.place 0 ≡ c.args.step.station) (sym c.self.view_is) c.requires.station in (
      c.self.invariant.0,
      now-seen own.component_labels.stations own.on_air own.seen.items c.args.place inside c.self.invariant.1,
      rw (c.told.ensures, c.push.ensures.steps, c.push.ensures.told) (fit-more own.component_labels.stations own.steps.steps own.steps.told own.fits.items c.args.place c.args.step c.self.invariant.0 inside station (sym c.is_fit-is_fit.ensures ∙ c.if-not-is_fit.false) c.self.invariant.2),
    )
