-- A turn at which no query is due is skipped.
use Rattle.std.proofs.Common.{◌≡◌, ◌∙◌, ◌<◌, false, ap, subst, sym, refl, length}
use Rattle.pack_defs.specs.ClockRule.{is_active}
use Rattle.auction_core.specs.ClockRun.{ClockRunView, IsClockRun, IsDue, clock_of, next_test}
use Rattle.auction_core.proofs.ClockRunTests.{Leads, by-round, leads-idle, leads-round, leads-unasked, passed, passed-holds, round-holds, turn-inside}
use Rattle.auction_core.proofs.clock_run.ClockRun.skip_station.Goals as goal

pub returns-then-self-round_length-clause-holds : goal.returns-then-self-round_length-clause-holds
returns-then-self-round_length-clause-holds c =
    let s = c.args.setup.now in
    let old = c.args.self.now in
    let end : old.place_in_round ≡ length s.scenario.stations = sym (ap (λ (z : ClockRunView). z.place_in_round) c.self.view_is) ∙ (c.if-self-round_length.true ∙ c.round_length.ensures.value) in
    by-round s old c.next_round.new.self c.next_round.result (IsClockRun s) (λ less. round-holds s old c.requires.running end less c.requires.holds) (λ _. c.requires.holds) c.next_round.ensures.next c.next_round.ensures.over

pub returns-then-self-round_length-clause-same : goal.returns-then-self-round_length-clause-same
returns-then-self-round_length-clause-same c =
    let s = c.args.setup.now in
    let old = c.args.self.now in
    let end : old.place_in_round ≡ length s.scenario.stations = sym (ap (λ (z : ClockRunView). z.place_in_round) c.self.view_is) ∙ (c.if-self-round_length.true ∙ c.round_length.ensures.value) in
    by-round s old c.next_round.new.self c.next_round.result (Leads s old) (λ less. leads-round s old end less) (λ _ n. refl) c.next_round.ensures.next c.next_round.ensures.over

pub returns-then-not-is_due-clause-holds : goal.returns-then-not-is_due-clause-holds
returns-then-not-is_due-clause-holds c =
    let s = c.args.setup.now in
    let old = c.args.self.now in
    let view = c.self.view_is in
    let inside : old.place_in_round < length s.scenario.stations = turn-inside old.place_in_round (length s.scenario.stations) c.requires.holds.place_in_round (λ e. c.if-self-round_length.false (ap (λ (z : ClockRunView). z.place_in_round) view ∙ (e ∙ sym c.round_length.ensures.value))) in
    let off : is_active (clock_of s old) (next_test s old).station ≡ false = sym c.is_due.ensures ∙ c.if-not-is_due.true in
    subst (IsClockRun s) (sym (ap passed view)) (passed-holds s old c.requires.running inside off c.requires.holds)

pub returns-then-not-is_due-clause-same : goal.returns-then-not-is_due-clause-same
returns-then-not-is_due-clause-same c =
    let s = c.args.setup.now in
    let old = c.args.self.now in
    let view = c.self.view_is in
    let inside : old.place_in_round < length s.scenario.stations = turn-inside old.place_in_round (length s.scenario.stations) c.requires.holds.place_in_round (λ e. c.if-self-round_length.false (ap (λ (z : ClockRunView). z.place_in_round) view ∙ (e ∙ sym c.round_length.ensures.value))) in
    let off : is_active (clock_of s old) (next_test s old).station ≡ false = sym c.is_due.ensures ∙ c.if-not-is_due.true in
    subst (Leads s old) (sym (ap passed view)) (leads-idle s old c.requires.running inside off)

pub returns-clause-same : goal.returns-clause-same
returns-clause-same c =
    let s = c.args.setup.now in
    let old = c.args.self.now in
    let inside : old.place_in_round < length s.scenario.stations = turn-inside old.place_in_round (length s.scenario.stations) c.requires.holds.place_in_round (λ e. c.if-self-round_length.false (ap (λ (z : ClockRunView). z.place_in_round) c.self.view_is ∙ (e ∙ sym c.round_length.ensures.value))) in
    let due : IsDue s old = record { place_in_round = inside; active = sym c.is_due.ensures ∙ c.if-not-is_due.false } in
    leads-unasked s old c.settle.new.self c.in-Some.shown due (sym c.unasked.ensures ∙ c.in-Some.is) c.settle.ensures.settled
