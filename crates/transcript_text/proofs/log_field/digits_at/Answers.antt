use Rattle.std.proofs.Common.{◌∙◌, sym, get_or, arith}
use Rattle.pack_defs.proofs.Digits.{more-digits, more-value}
use Rattle.transcript_text.proofs.NumeralLemmas.{digit-most}
use Rattle.transcript_text.proofs.log_field.digits_at.Goals as goal

pub loop-i-preserved : goal.loop-i-preserved
loop-i-preserved c =
    let digit = sym c.is_ascii_digit.ensures.value ∙ c.if-not-is_ascii_digit.false in
    let step = more-value c.args.text.now c.loop-i.i c.loop-i-test.true digit in
    record {
      digits = more-digits c.args.text.now c.loop-i.i c.loop-i-test.true digit c.loop-i.invariant.digits;
      value = omega (arith, step);
      few = omega (arith, digit-most (get_or c.args.text.now c.loop-i.i 0) digit);
    }
