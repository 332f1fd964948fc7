use Rattle.std.proofs.Common.{sym, subst, ◌≤◌}
use Rattle.std.specs.Prelude.{vec_capacity}
use Rattle.race_wave.proofs.RunLemmas.{after-all, after-idle, after-many, after-wave, after-workers}
use Rattle.race_wave.proofs.run.run_wave.Goals as goal

pub unzip_runners-passes-requires-clause-room : goal.unzip_runners-passes-requires-clause-room
unzip_runners-passes-requires-clause-room g c =
    let runners = c.zip_runners-runners.result in
    let after = after-wave g.R.Racer.worker c.args.board.now runners.len runners.items c.deref_mut.result.now c.wave-done.new.runners _ runners.ok.0 c.deref_mut.ensures.value c.wave-done.ensures.raced in
    let long = after-many g.R.Racer.worker c.args.board.now c.args.racers.items runners.items _ c.zip_runners-runners.ensures.racers after.0 in (
      subst (λ n. n ≤ vec_capacity c.args.room.passes) (sym long) c.requires.room.passes,
      subst (λ n. n ≤ vec_capacity c.args.room.racers) (sym long) c.requires.room.racers,
    )

pub returns-clause-all : goal.returns-clause-all
returns-clause-all g c =
    let runners = c.zip_runners-runners.result in
    let after = after-wave g.R.Racer.worker c.args.board.now runners.len runners.items c.deref_mut.result.now c.wave-done.new.runners _ runners.ok.0 c.deref_mut.ensures.value c.wave-done.ensures.raced in
    after-all g.R.Racer.worker c.args.board.now c.args.passes.items c.unzip_runners-passes.result.0.items runners.items _
    c.requires.all c.zip_runners-runners.ensures.passes after.0 c.unzip_runners-passes.ensures.passes

pub returns-clause-idle : goal.returns-clause-idle
returns-clause-idle g c =
    let runners = c.zip_runners-runners.result in
    let after = after-wave g.R.Racer.worker c.args.board.now runners.len runners.items c.deref_mut.result.now c.wave-done.new.runners _ runners.ok.0 c.deref_mut.ensures.value c.wave-done.ensures.raced in
    after-idle g.R.Racer.worker c.args.board.now c.unzip_runners-passes.result.0.items runners.items _ after.0 c.unzip_runners-passes.ensures.passes

pub returns-clause-racers : goal.returns-clause-racers
returns-clause-racers g c =
    let runners = c.zip_runners-runners.result in
    let after = after-wave g.R.Racer.worker c.args.board.now runners.len runners.items c.deref_mut.result.now c.wave-done.new.runners _ runners.ok.0 c.deref_mut.ensures.value c.wave-done.ensures.raced in
    after-workers g.R.Racer.worker c.args.board.now c.args.racers.items c.unzip_runners-passes.result.1.items runners.items _
    c.zip_runners-runners.ensures.racers after.0 c.unzip_runners-passes.ensures.racers
