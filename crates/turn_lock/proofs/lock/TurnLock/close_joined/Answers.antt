use Rattle.std.proofs.Common.{◌∙◌, ◌∷◌, ap, sym, subst}
use Rattle.std.specs.Prelude.{unwrap_or}
use Rattle.std.specs.Slots.{slots_items}
use Rattle.turn_lock.specs.Turns.{IsClosedHistory}
use Rattle.turn_lock.proofs.Lists.{none_is, some_is, some_or}
use Rattle.turn_lock.proofs.Joins.{ends}
use Rattle.turn_lock.proofs.lock.TurnLock.close_joined.Goals as goal

pub unreachable-requires : goal.unreachable-requires
unreachable-requires g c =
    let key = c.args.self.table.shared.key.value in
    let seat = c.args.pass.seat in
    let closed = c.close_with-closed.result in
    let t = ends g.T.Chronicle.base g.T.Chronicle.entries (g.T.Chronicle.base key) (g.T.Chronicle.entries key) seat.id seat.me.0 (g.T.Chronicle.base key) (unwrap_or seat.me.0.passes_made 0) c.requires.own.base (some_or seat.me.0.passes_made c.requires.makes) c.requires.idle.turn c.requires.many c.requires.all
    (slots_items closed.words) (slots_items closed.slots) c.close_with-closed.ensures.values.2 c.take-slot.result c.take-slot.ensures.value in
    none_is (sym c.in_default.is ∙ t.1)

pub returns-clause-base : goal.returns-clause-base
returns-clause-base g c =
    let key = c.args.self.table.shared.key.value in
    let seat = c.args.pass.seat in
    let closed = c.close_with-closed.result in
    let t = ends g.T.Chronicle.base g.T.Chronicle.entries (g.T.Chronicle.base key) (g.T.Chronicle.entries key) seat.id seat.me.0 (g.T.Chronicle.base key) (unwrap_or seat.me.0.passes_made 0) c.requires.own.base (some_or seat.me.0.passes_made c.requires.makes) c.requires.idle.turn c.requires.many c.requires.all
    (slots_items closed.words) (slots_items closed.slots) c.close_with-closed.ensures.values.2 c.take-slot.result c.take-slot.ensures.value in
    ap g.T.Chronicle.base (some_is (sym c.in-Some.is ∙ t.1)) ∙ t.2

pub returns-clause-whole : goal.returns-clause-whole
returns-clause-whole g c =
    let key = c.args.self.table.shared.key.value in
    let seat = c.args.pass.seat in
    let closed = c.close_with-closed.result in
    let t = ends g.T.Chronicle.base g.T.Chronicle.entries (g.T.Chronicle.base key) (g.T.Chronicle.entries key) seat.id seat.me.0 (g.T.Chronicle.base key) (unwrap_or seat.me.0.passes_made 0) c.requires.own.base (some_or seat.me.0.passes_made c.requires.makes) c.requires.idle.turn c.requires.many c.requires.all
    (slots_items closed.words) (slots_items closed.slots) c.close_with-closed.ensures.values.2 c.take-slot.result c.take-slot.ensures.value in
    subst (λ (x : g.row.T.Denot). IsClosedHistory (unwrap_or seat.me.0.passes_made 0) (g.T.Chronicle.entries key) (g.T.Chronicle.entries x) (seat.me.0.own ∷ seat.me.0.joined)) (sym (some_is (sym c.in-Some.is ∙ t.1))) t.3
