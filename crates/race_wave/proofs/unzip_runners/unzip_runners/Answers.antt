-- The runners that are left, and the elements moved to both lists, make up all of them.
use Rattle.std.proofs.Common.{◌≡◌}
use Rattle.std.specs.Vec.Iter.{into_iter_items}
use Rattle.race_wave.proofs.RunLemmas.{put-all, put-none, room-none}
use Rattle.race_wave.proofs.unzip_runners.unzip_runners.Goals as goal

pub loop-runner-init : goal.loop-runner-init
loop-runner-init g c =
    let left : into_iter_items c.into_iter-runner-iterator.result ≡ c.args.runners.items = c.into_iter-runner-iterator.ensures.into_iter_gives.0 in
    record {
      room_passes = room-none _ _ _ _ c.requires.empty.0 left c.requires.room.0;
      room_racers = room-none _ _ _ _ c.requires.empty.1 left c.requires.room.1;
      passes = put-none (λ r. r.pass) _ _ _ c.requires.empty.0 left;
      racers = put-none (λ r. r.racer) _ _ _ c.requires.empty.1 left;
    }

pub returns-clause-passes : goal.returns-clause-passes
returns-clause-passes g c =
    let left = c.loop-runner.runner-iterator.rest in
    put-all (λ r. r.pass) c.loop-runner.passes.items left.items c.args.runners.items _ left.ok.0 c.in-None.ensures.steps.0 c.loop-runner.invariant.passes

pub returns-clause-racers : goal.returns-clause-racers
returns-clause-racers g c =
    let left = c.loop-runner.runner-iterator.rest in
    put-all (λ r. r.racer) c.loop-runner.racers.items left.items c.args.runners.items _ left.ok.0 c.in-None.ensures.steps.0 c.loop-runner.invariant.racers
