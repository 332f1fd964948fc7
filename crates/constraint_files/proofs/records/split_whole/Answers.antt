use Rattle.std.proofs.Common.{arith}
use Rattle.constraint_files.proofs.PieceLemmas.{take-ends}
use Rattle.constraint_files.proofs.records.split_whole.Goals as goal

pub returns-then-bytes-end-eq-LINE_FEED-clause-whole : goal.returns-then-bytes-end-eq-LINE_FEED-clause-whole
returns-then-bytes-end-eq-LINE_FEED-clause-whole c = take-ends c.args.bytes.now c.loop-end.end (omega arith) c.loop-end.invariant.within c.if-bytes-end-eq-LINE_FEED.true
