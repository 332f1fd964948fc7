-- If a channel is free, one was found.
use Rattle.std.proofs.Common.{◌≡◌, ◌∙◌, true, ap, sym, subst}
use Rattle.std.specs.Option.{is_some}
use Rattle.std.proofs.lemmas.Bool.{false≢true}
use Rattle.quick_fits.specs.Obstacles.{AreObstacles}
use Rattle.quick_fits.proofs.FreeLemmas.{found-free}
use Rattle.quick_fits.proofs.local_repair.propose.Goals as goal

pub returns : goal.returns
returns c = λ d there free.
    let are : AreObstacles c.args.book.now c.args.map.now c.args.station c.deref.result.now = subst (AreObstacles c.args.book.now c.args.map.now c.args.station) (sym c.deref.ensures.value) c.in_ok-ways.ensures in
    let found : is_some c.free_channel.result ≡ true = found-free c.args.book.now c.args.map.now c.args.station d c.deref.result.now c.domain.result.now (is_some c.free_channel.result) are c.domain.ensures c.free_channel.ensures.some there free in
    absurd (false≢true (sym (ap is_some c.in_default.is) ∙ found))
