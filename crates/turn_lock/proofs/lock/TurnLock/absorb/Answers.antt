use Rattle.std.proofs.Common.{rules}
use Rattle.turn_lock.proofs.Joins.{joins}
use Rattle.turn_lock.proofs.lock.TurnLock.absorb.Goals as goal

pub join_seat-requires : goal.join_seat-requires
join_seat-requires g c =
    let key = c.args.self.now.table.shared.key.value in
    let seat = c.args.pass.now.seat in
    let other = c.args.other.seat in
    let one = c.requires.idle.0 in
    let two = c.requires.idle.1 in
    let a = c.requires.own.0 in
    let b = c.requires.own.1 in
    let base = g.T.Chronicle.base key in
    (a.table, b.table, two.carries, search rules, joins g.T.Chronicle.base g.T.Chronicle.entries base (g.T.Chronicle.entries key) seat.id seat.me.0 other.id other.me.0 base base a.base b.base one.ticket two.ticket one.turn two.turn)
