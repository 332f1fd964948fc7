-- A settled query keeps the rule, by whether the start was settled before.
use Rattle.std.proofs.Common.{◌≡◌, ◌∙◌, ap, sym, subst, arith, length, false, true}
use Rattle.auction_core.specs.QuerySession.{QuerySessionView}
use Rattle.auction_core.specs.ClockRun.{core_state, is_roomy, left_of}
use Rattle.auction_core.specs.Rule.{SettlesQuery}
use Rattle.auction_core.specs.State.{answered, has_ended, start_fits}
use Rattle.auction_core.proofs.QuerySessionLemmas.{answered-start, answered-test, query_session-start, query_session-test, due-room, number-fits, room-parts, settled-room}
use Rattle.auction_core.proofs.TaskLemmas.{none-told, some-told, standing-query, start-shown, step-shown}
use Rattle.auction_core.proofs.query_session.QuerySession.settle.Goals as goal

pub overflow_add-self : goal.overflow_add-self
overflow_add-self c =
    let own = c.self.inside in
    let fits_it = number-fits own.setup.scenario own.setup.order own.number (length (left_of own.setup own.clock_run)) c.self.invariant.clock_run.sound.auction.limits c.self.invariant.tests in
    omega (arith, fits_it)

pub begin-requires-clause-fresh : goal.begin-requires-clause-fresh
begin-requires-clause-fresh c = none-told c.self.inside.clock_run.start c.start.result.now c.is_none.result c.start.ensures c.is_none.ensures c.if-is_none.true

pub begin-requires-clause-shown_is : goal.begin-requires-clause-shown_is
begin-requires-clause-shown_is c =
    let own = c.self.inside in
    let s = own.setup in
    let settles = subst (λ (v : QuerySessionView). SettlesQuery v.scenario v.book v.state c.args.shown) (sym c.self.view_is) c.requires.settles in
    let fresh = none-told own.clock_run.start c.start.result.now c.is_none.result c.start.ensures c.is_none.ensures c.if-is_none.true in
    start-shown s.scenario s.book (core_state s own.clock_run own.number) c.args.shown fresh c.self.invariant.rule settles

pub begin-requires-clause-room : goal.begin-requires-clause-room
begin-requires-clause-room c = ap (λ (v : QuerySessionView). v.ready) c.self.view_is ∙ c.requires.ready

pub invariant_of-self : goal.invariant_of-self
invariant_of-self c =
    let own = c.self.inside in
    let standing = subst (λ (v : QuerySessionView). has_ended v.state ≡ false) (sym c.self.view_is) c.requires.standing in
    let settles = subst (λ (v : QuerySessionView). SettlesQuery v.scenario v.book v.state c.args.shown) (sym c.self.view_is) c.requires.settles in
    let fresh = none-told own.clock_run.start c.start.result.now c.is_none.result c.start.ensures c.is_none.ensures c.if-is_none.true in
    query_session-start own.setup own.clock_run c.begin.new.self own.number c.args.shown c.self.invariant fresh standing settles c.begin.ensures.holds c.begin.ensures.rest c.begin.ensures.state

pub settle-requires : goal.settle-requires
settle-requires c =
    let own = c.self.inside in
    let s = own.setup in
    let settles = subst (λ (v : QuerySessionView). SettlesQuery v.scenario v.book v.state c.args.shown) (sym c.self.view_is) c.requires.settles in
    let begun = some-told own.clock_run.start c.start.result.now c.is_none.result c.start.ensures c.is_none.ensures c.if-is_none.false in
    let query = standing-query s own.clock_run own.number _ c.self.invariant (ap (λ (v : QuerySessionView). v.state) c.self.view_is) begun c.requires.standing in
    let ready : is_roomy s own.clock_run ≡ true = ap (λ (v : QuerySessionView). v.ready) c.self.view_is ∙ c.requires.ready in
    let room = room-parts s own.clock_run ready in
    record {
      holds = c.self.invariant.clock_run;
      running = query.running;
      due = query.due;
      shown_is = step-shown s own.clock_run own.number c.args.shown c.self.invariant.clock_run query settles;
      room = due-room s own.clock_run query.due room.0;
      verdict = λ _. room.1;
    }

pub advance_to_query-requires : goal.advance_to_query-requires
advance_to_query-requires c =
    let own = c.self.inside in
    let s = own.setup in
    let begun = some-told own.clock_run.start c.start.result.now c.is_none.result c.start.ensures c.is_none.ensures c.if-is_none.false in
    let query = standing-query s own.clock_run own.number _ c.self.invariant (ap (λ (v : QuerySessionView). v.state) c.self.view_is) begun c.requires.standing in
    let ready : is_roomy s own.clock_run ≡ true = ap (λ (v : QuerySessionView). v.ready) c.self.view_is ∙ c.requires.ready in
    let room = room-parts s own.clock_run ready in
    record {
      holds = c.settle.ensures.settled.holds;
      running = ap start_fits c.settle.ensures.running ∙ query.running;
      room = settled-room s own.clock_run c.settle.new.self query.due room.0 c.settle.ensures.room c.settle.ensures.next c.settle.ensures.round;
    }

pub invariant_of-self-2 : goal.invariant_of-self-2
invariant_of-self-2 c =
    let own = c.self.inside in
    let standing = subst (λ (v : QuerySessionView). has_ended v.state ≡ false) (sym c.self.view_is) c.requires.standing in
    let settles = subst (λ (v : QuerySessionView). SettlesQuery v.scenario v.book v.state c.args.shown) (sym c.self.view_is) c.requires.settles in
    let begun = some-told own.clock_run.start c.start.result.now c.is_none.result c.start.ensures c.is_none.ensures c.if-is_none.false in
    query_session-test own.setup own.clock_run c.settle.new.self c.advance_to_query.new.self own.number c.args.shown c.self.invariant begun standing settles c.settle.ensures.settled c.advance_to_query.ensures.holds c.advance_to_query.ensures.rest (c.advance_to_query.ensures.running ∙ c.settle.ensures.running) c.advance_to_query.ensures.state

pub returns-then-is_none-clause-state : goal.returns-then-is_none-clause-state
returns-then-is_none-clause-state c =
    let own = c.self.inside in
    let fresh = none-told own.clock_run.start c.start.result.now c.is_none.result c.start.ensures c.is_none.ensures c.if-is_none.true in
    answered-start own.setup own.clock_run c.begin.new.self own.number c.args.shown fresh c.begin.ensures.state
    ∙ ap (λ (v : QuerySessionView). answered v.scenario v.book v.state c.args.shown) c.self.view_is

pub returns-clause-state : goal.returns-clause-state
returns-clause-state c =
    let own = c.self.inside in
    let begun = some-told own.clock_run.start c.start.result.now c.is_none.result c.start.ensures c.is_none.ensures c.if-is_none.false in
    answered-test own.setup own.clock_run c.settle.new.self c.advance_to_query.new.self own.number c.args.shown begun c.settle.ensures.settled c.advance_to_query.ensures.state
    ∙ ap (λ (v : QuerySessionView). answered v.scenario v.book v.state c.args.shown) c.self.view_is
