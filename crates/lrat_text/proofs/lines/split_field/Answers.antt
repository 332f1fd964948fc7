use Rattle.std.proofs.Common.{◌+◌, add-one, arith, ne_eqb, eq-eqb}
use Rattle.std.proofs.lemmas.List.{take_rest}
use Rattle.lrat_text.specs.Lines.{is_space}
use Rattle.lrat_text.proofs.SplitLemmas.{piece-at, one-piece, part-alone}
use Rattle.lrat_text.proofs.lines.split_field.Goals as goal

pub returns-then-byte-eq32-clause-fields : goal.returns-then-byte-eq32-clause-fields
returns-then-byte-eq32-clause-fields c =
    let line = c.args.line.now in
    rw (take_rest line (c.loop-i.i + 1), add-one) (piece-at is_space line c.loop-i.i (omega arith) (eq-eqb _ 32 c.if-byte-eq32.true) (λ k l. ne_eqb _ 32 (c.loop-i.invariant k l)))

pub returns-clause-fields : goal.returns-clause-fields
returns-clause-fields c = one-piece is_space c.args.line.now (λ k l. ne_eqb _ 32 (c.loop-i.invariant k (omega arith)))

pub returns-then-byte-eq32-clause-alone : goal.returns-then-byte-eq32-clause-alone
returns-then-byte-eq32-clause-alone c = part-alone c.args.line.now c.loop-i.i (λ k l. ne_eqb _ 32 (c.loop-i.invariant k l))

pub returns-clause-alone : goal.returns-clause-alone
returns-clause-alone c = one-piece is_space c.args.line.now (λ k l. ne_eqb _ 32 (c.loop-i.invariant k (omega arith)))
