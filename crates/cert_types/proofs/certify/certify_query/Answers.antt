-- The set of a query ascends.
use Rattle.cert_types.proofs.QueryLaws.{query-task}
use Rattle.cert_types.proofs.certify.certify_query.Goals as goal

pub certify-requires : goal.certify-requires
certify-requires c = query-task c.args.book.now c.args.task.now c.requires
