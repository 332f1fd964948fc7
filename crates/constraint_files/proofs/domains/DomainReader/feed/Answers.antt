use Rattle.std.proofs.lemmas.Result.{err_from_is_err_and}
use Rattle.constraint_files.proofs.PieceLaws.{domains-keep, domains-more}
use Rattle.constraint_files.proofs.domains.DomainReader.feed.Goals as goal

pub returns-in_err-feed : goal.returns-in_err-feed
returns-in_err-feed c = λ bytes e.
    let p = err_from_is_err_and c.from_residual.result c.from_residual.ensures.1 in
    rw (domains-more bytes c.args.piece.now c.args.self e, ← c.self.view_is, p.1, p.2) c.in_err-feed.ensures

pub invariant_of-result : goal.invariant_of-result
invariant_of-result c = domains-keep c.self.inside.lines c.in_ok-feed.field-0 c.args.piece.now c.self.invariant c.in_ok-feed.ensures

pub returns : goal.returns
returns c = λ bytes e. rw (domains-more bytes c.args.piece.now c.args.self e, ← c.self.view_is) c.in_ok-feed.ensures
