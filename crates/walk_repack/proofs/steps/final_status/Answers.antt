use Rattle.std.proofs.Common.{refl}
use Rattle.walk_repack.proofs.WalkStateLemmas.{troubled-violates}
use Rattle.walk_repack.proofs.steps.final_status.Goals as goal

pub returns-in-Open : goal.returns-in-Open
returns-in-Open c number last =
    (troubled-violates c.args.walk_state.now.book c.args.walk_state.now.entries c.in-Open.station c.in-Open.ensures.violating, refl)
