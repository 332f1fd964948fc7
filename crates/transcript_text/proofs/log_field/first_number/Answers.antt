use Rattle.std.proofs.Common.{rules}
use Rattle.transcript_text.proofs.NumeralLemmas.{minus-fields, minus-said, unsigned}
use Rattle.transcript_text.proofs.log_field.first_number.Goals as goal

pub returns-then-first-eq45-clause-fields : goal.returns-then-first-eq45-clause-fields
returns-then-first-eq45-clause-fields c =
    minus-fields c.args.text.now c.in_ok-count.count c.in_ok-first.first.now _ (search rules) c.if-first-eq45.true c.in_ok-count.ensures.fields

pub returns-then-first-eq45-clause-said : goal.returns-then-first-eq45-clause-said
returns-then-first-eq45-clause-said c =
    minus-said c.args.text.now c.in_ok-count.count c.in_ok-first.first.now c.in_ok-count.var (search rules) c.if-first-eq45.true c.in_ok-count.ensures.numeral

pub returns-clause-said : goal.returns-clause-said
returns-clause-said c = unsigned _ _ c.in_ok-count-2.ensures.numeral
