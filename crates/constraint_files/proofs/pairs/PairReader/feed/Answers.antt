use Rattle.std.proofs.lemmas.Result.{err_from_is_err_and}
use Rattle.constraint_files.proofs.PieceLaws.{pairs-keep, pairs-more}
use Rattle.constraint_files.proofs.pairs.PairReader.feed.Goals as goal

pub returns-in_err-feed : goal.returns-in_err-feed
returns-in_err-feed c = λ bytes domains e.
    let p = err_from_is_err_and c.from_residual.result c.from_residual.ensures.1 in
    rw (pairs-more bytes c.args.piece.now domains c.args.self e, ← c.self.view_is, p.1, p.2) c.in_err-feed.ensures

pub invariant_of-result : goal.invariant_of-result
invariant_of-result c = pairs-keep c.self.inside.lines c.in_ok-feed.field-0 c.args.piece.now c.self.invariant c.in_ok-feed.ensures

pub returns : goal.returns
returns c = λ bytes domains e. rw (pairs-more bytes c.args.piece.now domains c.args.self e, ← c.self.view_is) c.in_ok-feed.ensures
