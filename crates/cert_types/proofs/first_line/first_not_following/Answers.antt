-- The line of a log's fault is the first that does not follow.
use Rattle.std.proofs.Common.{◌≡◌, Some, option_map, sym, ap, ◌∙◌}
use Rattle.rup_check.specs.declared.error.LogErr.TheVariants.{BadLine}
use Rattle.rup_check.specs.Follows.{log_fault}
use Rattle.cert_types.proofs.LineLemmas.{first-following, line_of}
use Rattle.cert_types.proofs.first_line.first_not_following.Goals as goal

pub returns-in-Ok : goal.returns-in-Ok
returns-in-Ok c =
    sym (first-following c.args.clauses.now.vars c.args.clauses.now.list 1 c.args.log.now.lines ∙ ap (option_map line_of) (rw c.in-Ok.is at c.check_log.ensures))

pub returns-in-Err-BadLine : goal.returns-in-Err-BadLine
returns-in-Err-BadLine c =
    let fault : log_fault c.args.clauses.now.vars c.args.clauses.now.list c.args.log.now.lines ≡ Some (BadLine c.in-Err-BadLine.line c.in-Err-BadLine.field-0-1) = rw c.in-Err-BadLine.field-0-is at c.in-Err-BadLine.ensures in
    sym (first-following c.args.clauses.now.vars c.args.clauses.now.list 1 c.args.log.now.lines ∙ ap (option_map line_of) fault)
