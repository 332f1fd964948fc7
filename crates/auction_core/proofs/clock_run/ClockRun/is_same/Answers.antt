-- In round 1 there is no earlier test; later the labels decide.
use Rattle.std.proofs.Common.{◌≡◌, ◌∙◌, ◌≤◌, ℕ, ◌+◌, ap, sym, get_or, not, None, arith}
use Rattle.pack_defs.specs.declared.station.Station.{Station}
use Rattle.pack_defs.specs.ClockRule.{round_order}
use Rattle.auction_core.specs.ClockRun.{ClockRunView, next_test}
use Rattle.auction_core.specs.ComponentLabels.{touches_since}
use Rattle.auction_core.proofs.ClockLemmas.{facility_at}
use Rattle.auction_core.proofs.ClockRunLemmas.{IsAt}
use Rattle.auction_core.proofs.SameTests.{same-first, same-later}
use Rattle.auction_core.proofs.clock_run.ClockRun.is_same.Goals as goal

abbrev none : Station
none = record { id = 0; volume = 0; value = None }

late : (n : ℕ) → 1 ≤ n → (n ≡ 1 → ⊥) → 2 ≤ n
late n first other = omega (arith, first, other)

pub returns-then-self-eq1 : goal.returns-then-self-eq1
returns-then-self-eq1 c =
    sym (same-first c.args.setup.now c.args.self.now c.requires.running c.requires.holds (sym (ap (λ (z : ClockRunView). z.round) c.self.view_is) ∙ c.if-self-eq1.true))

pub returns : goal.returns
returns c =
    let s = c.args.setup.now in
    let now = c.args.self.now in
    let at : IsAt s now c.place-place.result = record { within = c.place-place.ensures.within; station = c.place-place.ensures.station ∙ ap (λ (z : ClockRunView). get_or (round_order s.scenario s.order) z.place_in_round 0) c.self.view_is } in
    let two = late now.round c.requires.holds.begun (λ e. c.if-self-eq1.false (ap (λ (z : ClockRunView). z.round) c.self.view_is ∙ e)) in
    let stations = c.as_slice.ensures ∙ ap (λ z. z.stations) c.scenario.ensures.value in
    let own : (get_or c.as_slice.result.now c.place-place.result none).id ≡ (next_test s now).station = ap (λ xs. (get_or xs c.place-place.result none).id) stations ∙ (sym (facility_at s.scenario c.place-place.result none at.within) ∙ at.station) in
    ap not (c.has_changed.ensures ∙ (λ i. touches_since (c.book.ensures i) (c.self.view_is i).test_history.component_labels (own i) (get_or (c.self.view_is i).test_history.seen c.place-place.result 0 + 1)))
    ∙ sym (same-later s now c.place-place.result c.requires.holds.sound c.requires.running c.requires.holds c.requires.due at two)
