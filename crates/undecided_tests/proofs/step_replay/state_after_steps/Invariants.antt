use Rattle.std.proofs.Common.{◌≤◌}
use Rattle.undecided_tests.proofs.StepReplayLemmas.{IsFollowing}
use Rattle.undecided_tests.proofs.step_replay.state_after_steps.Given as goal

abbrev pub invariant-loop-k : goal.invariant-loop-k
invariant-loop-k l = IsFollowing l.sc l.rec l.steps l.k l.clock l.map l.fits.items × (l.k ≤ l.count)
