-- The clock run once the start test is settled, and the first query after it.
use Rattle.std.proofs.Common.{◌≡◌, ◌∙◌, ap, sym, subst, true, false}
use Rattle.pack_defs.specs.Lists.{is_in}
use Rattle.auction_core.specs.ClockRun.{ClockRunView, IsClockRun, core_state, is_roomy, left_of}
use Rattle.auction_core.specs.State.{advance_to_query, shows_room, start_fits, started}
use Rattle.auction_core.proofs.QuerySessionLemmas.{room-parts}
use Rattle.auction_core.proofs.ClockRunStart.{begun-ended, begun-holds, begun-state, start-within}
use Rattle.auction_core.proofs.clock_run.ClockRun.begin.Goals as goal

pub show_start-requires : goal.show_start-requires
show_start-requires c = λ f there.
    subst (λ xs. is_in xs f ≡ true) (sym c.requires.holds.stations) (start-within c.args.setup.now.scenario c.args.setup.now.book c.args.shown c.requires.shown_is f there)

pub advance_to_query-requires-clause-holds : goal.advance_to_query-requires-clause-holds
advance_to_query-requires-clause-holds c =
    subst (IsClockRun c.args.setup.now) (sym c.show_start.ensures) (begun-holds c.args.setup.now c.args.self.now c.args.shown c.requires.fresh c.requires.holds c.requires.shown_is)

pub advance_to_query-requires-clause-room : goal.advance_to_query-requires-clause-room
advance_to_query-requires-clause-room c =
    (room-parts c.args.setup.now c.show_start.new.self (ap (is_roomy c.args.setup.now) c.show_start.ensures ∙ c.requires.room)).0

pub returns-then-is_running-clause-state : goal.returns-then-is_running-clause-state
returns-then-is_running-clause-state c =
    let s = c.args.setup.now in
    let old = c.args.self.now in
    let room : shows_room c.args.shown ≡ true = sym (ap (λ (z : ClockRunView). start_fits z.start) c.show_start.ensures) ∙ (sym c.is_running.ensures ∙ c.if-is_running.true) in
    λ n. c.advance_to_query.ensures.state n ∙ subst (λ (z : ClockRunView). advance_to_query s.scenario s.book (left_of s z) (core_state s z n) ≡ started s.scenario s.book (core_state s old n) c.args.shown) (sym c.show_start.ensures) (begun-state s old c.args.shown n c.requires.fresh c.requires.holds room)

pub returns-else-is_running-clause-holds : goal.returns-else-is_running-clause-holds
returns-else-is_running-clause-holds c =
    subst (IsClockRun c.args.setup.now) (sym c.show_start.ensures) (begun-holds c.args.setup.now c.args.self.now c.args.shown c.requires.fresh c.requires.holds c.requires.shown_is)

pub returns-else-is_running-clause-state : goal.returns-else-is_running-clause-state
returns-else-is_running-clause-state c =
    let s = c.args.setup.now in
    let old = c.args.self.now in
    let none : shows_room c.args.shown ≡ false = sym (ap (λ (z : ClockRunView). start_fits z.start) c.show_start.ensures) ∙ (sym c.is_running.ensures ∙ c.if-is_running.false) in
    λ n. subst (λ (z : ClockRunView). core_state s z n ≡ started s.scenario s.book (core_state s old n) c.args.shown) (sym c.show_start.ensures) (begun-ended s old c.args.shown n c.requires.fresh c.requires.holds none)
