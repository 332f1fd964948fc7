-- The buffers for the workers of a wave.
use Rattle.std.specs.Prelude.{◌≡◌, ◌≤◌, [], ℕ, vec_capacity}
use Rattle.race_wave.specs.declared.unzip_runners.RunnerBuffers.{RunnerBuffers}

-- Whether the three lists are empty, each with capacity for `count` elements.
pub record AreBuffersFor {R : Type 0} (count : ℕ) (room : RunnerBuffers R) : Type 0 where
  pub no_runners : room.runners.items ≡ []
  pub no_passes : room.passes.items ≡ []
  pub no_racers : room.racers.items ≡ []
  pub runners : count ≤ vec_capacity room.runners
  pub passes : count ≤ vec_capacity room.passes
  pub racers : count ≤ vec_capacity room.racers
