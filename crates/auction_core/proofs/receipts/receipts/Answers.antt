-- The set of a query ascends, and a rejected receipt has the first error of all.
use Rattle.std.proofs.Common.{◌≡◌, ◌<◌, ◌∙◌, true, ap, arith, length, subst, sym}
use Rattle.pack_defs.specs.Lists.{is_ascending}
use Rattle.cert_types.proofs.QueryLaws.{query-task}
use Rattle.auction_core.specs.LogNumbers.{clauses_in}
use Rattle.auction_core.specs.NotShown.{each_fault}
use Rattle.auction_core.proofs.ReceiptLemmas.{err-told}
use Rattle.auction_core.proofs.receipts.receipts.Goals as goal

pub clause_count-clauses-requires : goal.clause_count-clauses-requires
clause_count-clauses-requires c =
    subst (λ xs. is_ascending xs ≡ true) (sym c.as_slice.ensures) (query-task c.args.book.now c.args.task.now c.requires.query).rises

pub returns-in-Err-clause-why : goal.returns-in-Err-clause-why
returns-in-Err-clause-why c =
    let book = c.args.book.now in
    let task = c.args.task.now in
    let steps = c.in-Some.ensures.steps.0 in
    let more = ap length steps in
    let place = c.each.invariant.place in
    let inside : c.each.i < length c.args.workers.now = omega (arith, more, place) in
    let clauses : c.clause_count-clauses.result ≡ clauses_in book task.set = c.clause_count-clauses.ensures.count ∙ ap (clauses_in book) c.as_slice.ensures in
    err-told c.in-Err.e book task c.args.workers.now c.in-Some.receipt c.next.new.self.rest.items c.args.firsts.now c.each.i c.clause_count-clauses.result _ c.is_first_of-right.result
    (each_fault book task c.args.workers.now c.args.receipts.items c.args.firsts.now)
    inside (omega (arith, inside, c.requires.firsts)) clauses c.is_first_of-right.ensures (rw steps at c.each.invariant.rest) c.in-Err.ensures.why
