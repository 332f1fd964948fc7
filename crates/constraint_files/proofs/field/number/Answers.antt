use Rattle.std.proofs.Common.{◌≡◌, ◌+◌, ◌∙◌, sym, refl, true, take, arith}
use Rattle.std.specs.Str.{all_ascii_digits}
use Rattle.std.specs.Str.Parse.{digits_value}
use Rattle.std.proofs.lemmas.Bool.{eqb-false, eqb-true}
use Rattle.std.proofs.lemmas.List.{nil_from_length, take_all}
use Rattle.pack_defs.proofs.Digits.{more-digits, more-value}
use Rattle.constraint_files.specs.Field.{number}
use Rattle.constraint_files.proofs.NumberLemmas.{all-digits, bad-digit, too-large}
use Rattle.constraint_files.proofs.field.number.Goals as goal

pub returns-then-is_empty : goal.returns-then-is_empty
unfolding number
returns-then-is_empty c =
    let none = nil_from_length c.args.field.now (eqb-true _ 0 (sym c.is_empty.ensures ∙ c.if-is_empty.true)) in
    rw none refl

pub returns-then-not-is_ascii_digit : goal.returns-then-not-is_ascii_digit
returns-then-not-is_ascii_digit c =
    sym (bad-digit c.args.field.now c.loop-byte.byte-index c.loop-byte-test.true (sym c.is_ascii_digit.ensures.value ∙ c.if-not-is_ascii_digit.true))

pub returns-then-value-gt-GREATEST : goal.returns-then-value-gt-GREATEST
returns-then-value-gt-GREATEST c =
    let digit = sym c.is_ascii_digit.ensures.value ∙ c.if-not-is_ascii_digit.false in
    let step = more-value c.args.field.now c.loop-byte.byte-index c.loop-byte-test.true digit in
    sym (too-large c.args.field.now (c.loop-byte.byte-index + 1) (omega (arith, step)))

pub loop-byte-preserved : goal.loop-byte-preserved
loop-byte-preserved c =
    let digit = sym c.is_ascii_digit.ensures.value ∙ c.if-not-is_ascii_digit.false in
    let step = more-value c.args.field.now c.loop-byte.byte-index c.loop-byte-test.true digit in
    record {
      digits = more-digits c.args.field.now c.loop-byte.byte-index c.loop-byte-test.true digit c.loop-byte.invariant.digits;
      value = omega (arith, step);
      small = omega arith;
    }

pub returns : goal.returns
returns c =
    let field = c.args.field.now in
    let all : take c.loop-byte.byte-index field ≡ field = take_all _ _ (omega arith) in
    let digits : all_ascii_digits field ≡ true = rw all at c.loop-byte.invariant.digits in
    let value : c.loop-byte.value ≡ digits_value 10 field = rw all at c.loop-byte.invariant.value in
    let some = eqb-false _ 0 (sym c.is_empty.ensures ∙ c.if-is_empty.false) in
    rw value (sym (all-digits field (omega arith) digits (omega arith)))
