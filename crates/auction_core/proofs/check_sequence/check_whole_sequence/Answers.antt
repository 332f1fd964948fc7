-- By the lemmas on the end of a transcript.
use Rattle.std.proofs.Common.{◌≡◌, ◌∙◌, rules, length}
use Rattle.auction_core.proofs.EndLemmas.{all-shown, end-err-at}
use Rattle.auction_core.proofs.check_sequence.check_whole_sequence.Goals as goal

pub returns-in-Err-check_end-clause-why : goal.returns-in-Err-check_end-clause-why
returns-in-Err-check_end-clause-why c =
    let f = c.in-Ok.ensures in
    end-err-at c.args.sc.now c.args.book.now c.args.transcript _ _ c.in-Err-check_end.e f.start f.at c.in-Err-check_end.ensures.why (search rules)

pub returns-in-Ok-check_end-clause-all : goal.returns-in-Ok-check_end-clause-all
returns-in-Ok-check_end-clause-all c =
    let f = c.in-Ok.ensures in
    let count : length c.in-Ok.query_session.state.steps ≡ length c.args.transcript.steps = c.in-Ok-check_end.ensures.all ∙ search rules in
    all-shown c.args.sc.now c.args.book.now c.args.transcript c.in-Ok.query_session.state f.start f.at c.in-Ok-check_end.ensures.ended count
