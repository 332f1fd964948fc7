use Rattle.std.proofs.Common.{subst}
use Rattle.turn_lock.specs.Passes.{seen_of}
use Rattle.answer_board.specs.Boards.{raised}
use Rattle.answer_board.specs.Posts.{LookIs, SeesState}
use Rattle.race_wave.proofs.WaveLemmas.{number-of-task}
use Rattle.race_wave.proofs.wave.look_and_try.Goals as goal

pub try_and_post-requires-clause-number : goal.try_and_post-requires-clause-number
try_and_post-requires-clause-number g c =
    let made = raised c.args.board.now in
    number-of-task c.args.board.now (seen_of c.look.new.pass) c.in-Ok-Task.task
    (subst (λ look. SeesState made (seen_of c.look.new.pass) (λ state. LookIs made.scenario made.book state look)) c.in-Ok-Task.field-0-is c.in-Ok-Task.ensures.look)
