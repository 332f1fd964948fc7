-- The set of a query ascends.
use Rattle.std.proofs.Common.{◌≡◌, true, subst, sym}
use Rattle.pack_defs.specs.Lists.{is_ascending}
use Rattle.cert_types.proofs.QueryLaws.{query-task}
use Rattle.auction_core.proofs.certificates.outside.Goals as goal

pub clause_count-clauses-requires : goal.clause_count-clauses-requires
clause_count-clauses-requires c =
    subst (λ xs. is_ascending xs ≡ true) (sym c.as_slice.ensures) (query-task c.args.book.now c.args.task.now c.requires).rises
