use Rattle.std.proofs.Common.{◌+◌, add-one, arith, length}
use Rattle.std.proofs.lemmas.List.{take_all, take_rest}
use Rattle.constraint_files.specs.Records.{lines_of}
use Rattle.constraint_files.proofs.PieceLemmas.{none-before}
use Rattle.constraint_files.proofs.LineLemmas.{first_line, last_line}
use Rattle.constraint_files.proofs.records.split_line.Goals as goal

pub returns-then-byte-eq-LINE_FEED-clause-lines : goal.returns-then-byte-eq-LINE_FEED-clause-lines
returns-then-byte-eq-LINE_FEED-clause-lines c =
    let bytes = c.args.bytes.now in
    rw (take_rest bytes (c.loop-i.i + 1), add-one) (first_line bytes c.loop-i.i (omega arith) c.if-byte-eq-LINE_FEED.true c.loop-i.invariant)

pub returns-clause-lines : goal.returns-clause-lines
unfolding lines_of
returns-clause-lines c = last_line c.args.bytes.now c.requires (λ k l. c.loop-i.invariant k (omega arith))

pub returns-then-byte-eq-LINE_FEED-clause-one : goal.returns-then-byte-eq-LINE_FEED-clause-one
returns-then-byte-eq-LINE_FEED-clause-one c = none-before c.args.bytes.now c.loop-i.i c.loop-i.invariant

pub returns-clause-one : goal.returns-clause-one
returns-clause-one c =
    let all = none-before c.args.bytes.now (length c.args.bytes.now) (λ k l. c.loop-i.invariant k (omega arith)) in
    rw (take_all (length c.args.bytes.now) c.args.bytes.now (omega arith)) at all
