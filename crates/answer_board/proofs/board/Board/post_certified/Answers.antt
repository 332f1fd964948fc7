use Rattle.std.proofs.Common.{◌≡◌, ◌∙◌, sym, subst}
use Rattle.cert_types.specs.Valid.{IsValid}
use Rattle.turn_lock.specs.Passes.{known_of, pass_number, seen_of}
use Rattle.answer_board.specs.Boards.{raised}
use Rattle.answer_board.proofs.Faultless.{posted-faultless}
use Rattle.answer_board.proofs.WasCurrentLemmas.{good-on}
use Rattle.answer_board.proofs.board.Board.post_certified.Goals as goal

pub post_judged-requires-clause-stands : goal.post_judged-requires-clause-stands
post_judged-requires-clause-stands g c =
    let certified = c.args.certified in
    let same : certified.answer ≡ c.of-answer.result.value = sym (c.of-answer.ensures ∙ c.answer.ensures.answer) in
    good-on (raised c.args.self.now) (seen_of c.args.pass.now) (pass_number c.args.pass.now) c.args.number certified.task certified.worker certified c.of-answer.result.value c.requires.was_current c.requires.number c.requires.worker same
    (subst (λ b. IsValid b certified.task certified.worker c.of-answer.result.value) c.requires.book (subst (IsValid certified.book certified.task certified.worker) same c.answer.ensures.valid))

pub returns-in-Ok-clause-faultless : goal.returns-in-Ok-clause-faultless
returns-in-Ok-clause-faultless g c =
    let certified = c.args.certified in
    let same : certified.answer ≡ c.of-answer.result.value = sym (c.of-answer.ensures ∙ c.answer.ensures.answer) in
    posted-faultless (raised c.args.self.now) (known_of c.args.pass.now) _ (pass_number c.args.pass.now) c.args.number certified.worker certified c.of-answer.result.value _
    (good-on (raised c.args.self.now) (seen_of c.args.pass.now) (pass_number c.args.pass.now) c.args.number certified.task certified.worker certified c.of-answer.result.value c.requires.was_current c.requires.number c.requires.worker same
    (subst (λ b. IsValid b certified.task certified.worker c.of-answer.result.value) c.requires.book (subst (IsValid certified.book certified.task certified.worker) same c.answer.ensures.valid)))
    c.requires.worker c.in-Ok.ensures.posted
