use Rattle.std.proofs.Common.{sym, subst}
use Rattle.turn_lock.specs.Passes.{seen_of}
use Rattle.answer_board.specs.Boards.{raised}
use Rattle.answer_board.specs.Posts.{WasCurrent}
use Rattle.answer_board.proofs.WasCurrentLemmas.{stood-on}
use Rattle.race_wave.proofs.wave.try_and_post.Goals as goal

pub post_through_gate-requires-clause-was_current : goal.post_through_gate-requires-clause-was_current
post_through_gate-requires-clause-was_current g c =
    let made = raised c.args.board.now in
    subst (WasCurrent made (seen_of c.attempt_with_poll.new.pass)) (sym c.certify_for_worker-certified.ensures.task)
    (stood-on made (seen_of c.args.pass.now) (seen_of c.attempt_with_poll.new.pass) c.args.task.now c.requires.was_current c.in-Ok-Said.ensures.same.seen)
