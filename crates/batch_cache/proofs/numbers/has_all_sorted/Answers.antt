use Rattle.std.proofs.Common.{sym, arith}
use Rattle.batch_cache.proofs.WalkLemmas.{all-found, longer-not-found, walked-along}
use Rattle.batch_cache.proofs.numbers.has_all_sorted.Goals as goal

pub returns-then-these-sought : goal.returns-then-these-sought
returns-then-these-sought c = sym (longer-not-found c.args.these.now c.args.sought.now c.if-these-sought.true)

pub returns-then-next-sought : goal.returns-then-next-sought
returns-then-next-sought c =
    all-found c.args.these.now c.args.sought.now c.loop-number.number-index c.loop-number.next _ (omega arith) c.loop-number.invariant.left

pub returns : goal.returns
returns c =
    walked-along c.args.these.now c.args.sought.now c.loop-number.number-index c.loop-number.next _ c.loop-number-test.false
    c.loop-number.invariant.within c.loop-number.invariant.left
