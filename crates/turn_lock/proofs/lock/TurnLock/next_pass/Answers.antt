use Rattle.std.proofs.Common.{rules}
use Rattle.turn_lock.proofs.Joins.{splits}
use Rattle.turn_lock.proofs.lock.TurnLock.next_pass.Goals as goal

pub split_seat-seat-requires : goal.split_seat-seat-requires
split_seat-seat-requires g c =
    let key = c.args.self.now.table.shared.key.value in
    let seat = c.args.pass.now.seat in
    let own = c.requires.own in
    let idle = c.requires.idle in
    (own.table, search rules, splits g.T.Chronicle.base g.T.Chronicle.entries (g.T.Chronicle.base key) (g.T.Chronicle.entries key) seat.id seat.me.0 (g.T.Chronicle.base key) c.args.number own.base c.requires.makes idle.ticket idle.turn c.requires.room)
