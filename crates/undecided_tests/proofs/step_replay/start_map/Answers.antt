-- The stations of a scenario within the limits ascend.
use Rattle.pack_defs.specs.Scenario.{facilities}
use Rattle.pack_defs.proofs.Words.{ascending-from}
use Rattle.undecided_tests.proofs.step_replay.start_map.Goals as goal

pub none-requires : goal.none-requires
none-requires c = rw c.as_slice.ensures (ascending-from (facilities c.args.sc.now) c.requires.ascend)
