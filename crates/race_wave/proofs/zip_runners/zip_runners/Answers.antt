use Rattle.std.proofs.Common.{length, sym, subst, ◌≤◌}
use Rattle.std.specs.Prelude.{vec_capacity}
use Rattle.race_wave.proofs.RunLemmas.{as-many, before}
use Rattle.race_wave.proofs.zip_runners.zip_runners.Goals as goal

pub zipped_passes-requires-clause-equal : goal.zipped_passes-requires-clause-equal
zipped_passes-requires-clause-equal g c = as-many g.R.Racer.worker c.args.board.now c.args.passes.items (length c.args.racers.items) c.requires.new

pub zipped_passes-requires-clause-room : goal.zipped_passes-requires-clause-room
zipped_passes-requires-clause-room g c =
    subst (λ n. n ≤ vec_capacity c.args.runners) (sym (as-many g.R.Racer.worker c.args.board.now c.args.passes.items (length c.args.racers.items) c.requires.new)) c.requires.room

pub returns-clause-runners : goal.returns-clause-runners
returns-clause-runners g c =
    before g.R.Racer.worker c.args.board.now (length c.args.racers.items) c.args.passes.items c.args.racers.items c.zipped_passes.result.items
    c.requires.all c.requires.idle c.requires.new c.requires.racers c.zipped_passes.ensures.passes c.zipped_passes.ensures.racers
