-- The accepted receipts and the remaining ones are all, and the first error of all is that of the remaining ones.
use Rattle.std.proofs.Common.{◌≡◌, ◌+◌, ◌++◌, drop, length}
use Rattle.auction_core.specs.NotShown.{each_fault}
use Rattle.auction_core.proofs.receipts.receipts.Given as goal

abbrev pub invariant-each : goal.invariant-each
invariant-each l = record {
  all : l.checked.items ++ l.receipt-iterator.rest.items ≡ l.fn.receipts.items;
  rest : each_fault l.book l.task (drop l.i l.workers) l.receipt-iterator.rest.items (drop l.i l.firsts) ≡ each_fault l.book l.task l.workers l.fn.receipts.items l.firsts;
  place : l.i + length l.receipt-iterator.rest.items ≡ length l.workers;
}
