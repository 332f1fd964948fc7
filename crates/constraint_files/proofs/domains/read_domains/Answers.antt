use Rattle.std.proofs.Common.{[]}
use Rattle.std.proofs.lemmas.Result.{err_from_is_err_and}
use Rattle.constraint_files.proofs.PieceLaws.{domains-stop}
use Rattle.constraint_files.proofs.domains.read_domains.Goals as goal

pub returns-in_err-feed : goal.returns-in_err-feed
returns-in_err-feed c =
    let p = err_from_is_err_and c.from_residual-in_err-feed.result c.from_residual-in_err-feed.ensures.1 in
    rw (p.1, p.2) (domains-stop c.args.bytes.now c.in_err-feed.field-0.0 (c.in_err-feed.ensures [] c.in_ok-make.ensures))
