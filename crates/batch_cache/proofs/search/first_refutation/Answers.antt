use Rattle.std.proofs.Common.{◌∙◌, sym}
use Rattle.batch_cache.proofs.KeptRefutationLemmas.{passed-over}
use Rattle.batch_cache.proofs.search.first_refutation.Goals as goal

pub loop-key-preserved-then-not-may_answer : goal.loop-key-preserved-then-not-may_answer
loop-key-preserved-then-not-may_answer c =
    passed-over c.args.top c.args.book.now c.args.task.now c.args.worker.now c.args.asked.now c.in-Some.key.now c.in-Some.kept.now c.args.refutations.now.entries c.loop-key.key-iterator c.next.new.self
    c.requires.asked (sym c.may_answer.ensures ∙ c.if-not-may_answer.true) c.loop-key.invariant c.in-Some.ensures.steps
