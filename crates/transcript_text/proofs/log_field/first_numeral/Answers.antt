use Rattle.std.proofs.Common.{◌+◌, ◌∙◌, add-one, rules, sym}
use Rattle.std.proofs.lemmas.List.{take_rest}
use Rattle.transcript_text.proofs.NumeralLemmas.{digits-end, digits-space, first-byte, numeral}
use Rattle.transcript_text.proofs.log_field.first_numeral.Goals as goal

pub returns-then-byte-eq32-clause-fields : goal.returns-then-byte-eq32-clause-fields
returns-then-byte-eq32-clause-fields c =
    let text = c.args.text.now in
    let count = c.digits_at-count.result.0 in
    let at = c.in-Some.ensures.lookup.3 in
    rw (take_rest text (count + 1), add-one) (digits-space text count at.0 (sym (at.1 0) ∙ c.if-byte-eq32.true) c.digits_at-count.ensures.digits)

pub returns-then-byte-eq32-clause-numeral : goal.returns-then-byte-eq32-clause-numeral
returns-then-byte-eq32-clause-numeral c =
    numeral c.args.text.now c.digits_at-count.result.0 c.digits_at-count.result.1 c.digits_at-count.ensures.digits c.digits_at-count.ensures.value c.digits_at-count.ensures.few c.if-value-eq0.false (first-byte c.args.text.now c.in_ok-first.first.now (search rules) c.if-first-eq48.false)

pub returns-in-None-clause-fields : goal.returns-in-None-clause-fields
returns-in-None-clause-fields c =
    digits-end c.args.text.now c.digits_at-count.result.0 c.in-None.ensures.lookup.3 c.digits_at-count.ensures.digits

pub returns-in-None-clause-numeral : goal.returns-in-None-clause-numeral
returns-in-None-clause-numeral c =
    numeral c.args.text.now c.digits_at-count.result.0 c.digits_at-count.result.1 c.digits_at-count.ensures.digits c.digits_at-count.ensures.value c.digits_at-count.ensures.few c.if-value-eq0.false (first-byte c.args.text.now c.in_ok-first.first.now (search rules) c.if-first-eq48.false)
