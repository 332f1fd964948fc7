-- The count is the number that the text is, if it is within bounds.
use Rattle.std.proofs.Common.{arith}
use Rattle.std.proofs.lemmas.Bool.Decides.{nat_tests}
use Rattle.command_words.proofs.NumberLemmas.{parsed-in, unparsed}
use Rattle.command_words.proofs.make_words.count_in.Goals as goal

pub returns-in_default : goal.returns-in_default
returns-in_default c = unparsed 32 1 c.args.most c.args.text.now c.parse.result c.in_default.field-0 c.parse.ensures.value.0 c.in_default.is (omega arith)

pub returns : goal.returns
returns c =
    parsed-in 32 1 c.args.most c.in-Ok.count c.args.text.now c.parse.result c.parse.ensures.value.0 c.in-Ok.is
    (grind (arith, nat_tests, c.if-count-most.false)) (grind (arith, nat_tests, c.if-count-lt1.false)) (grind (arith, nat_tests, c.if-count-most.false))
