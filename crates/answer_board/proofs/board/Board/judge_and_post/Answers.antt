use Rattle.std.proofs.Common.{◌≡◌, ◌∙◌, Some, refl, sym, subst}
use Rattle.cert_types.specs.Certificate.{ReportsPlace}
use Rattle.cert_types.specs.Valid.{answer_fault}
use Rattle.auction_core.specs.declared.posting.Said.TheVariants.{Bad}
use Rattle.turn_lock.specs.Passes.{pass_number, seen_of}
use Rattle.answer_board.specs.Boards.{raised}
use Rattle.answer_board.specs.Posts.{StaysJudged}
use Rattle.answer_board.proofs.WasCurrentLemmas.{bad-on}
use Rattle.answer_board.proofs.board.Board.judge_and_post.Goals as goal

pub post_rejected-requires-clause-stands : goal.post_rejected-requires-clause-stands
post_rejected-requires-clause-stands g c =
    let task = c.args.task.now in
    let place = c.in-Rejected.place in
    let fault : answer_fault c.deref.result.now task c.args.worker.now c.args.answer ≡ Some place = subst (λ why. ReportsPlace why (answer_fault c.deref.result.now task c.args.worker.now c.args.answer)) c.in-Rejected.is c.in-Err.ensures.why in
    subst (StaysJudged (raised c.args.self.now) (seen_of c.args.pass.now) (record { worker = pass_number c.args.pass.now; number = task.number; said = Bad place })) (sym c.in-Err.ensures.back)
    (bad-on (raised c.args.self.now) (seen_of c.args.pass.now) (pass_number c.args.pass.now) task.number task c.args.worker.now place c.args.answer c.requires.was_current refl c.requires.worker
    (subst (λ b. answer_fault b task c.args.worker.now c.args.answer ≡ Some place) (c.deref.ensures ∙ c.args.self.now.book_is) fault))
