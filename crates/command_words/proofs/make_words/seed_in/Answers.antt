-- The seed is the number that the text is.
use Rattle.std.proofs.Common.{arith}
use Rattle.command_words.specs.Words.{seed_limit}
use Rattle.command_words.proofs.NumberLemmas.{parsed-fits, parsed-in, unparsed}
use Rattle.command_words.proofs.make_words.seed_in.Goals as goal

pub returns-in-Ok : goal.returns-in-Ok
returns-in-Ok c =
    let p = c.parse.ensures.value.0 in
    let fits = parsed-fits 64 c.in-Ok.seed c.args.text.now c.parse.result p c.in-Ok.is in
    parsed-in 64 0 seed_limit c.in-Ok.seed c.args.text.now c.parse.result p c.in-Ok.is fits (omega arith) (omega (arith, fits))

pub returns-in-Err : goal.returns-in-Err
returns-in-Err c = unparsed 64 0 seed_limit c.args.text.now c.parse.result c.in-Err.field-0 c.parse.ensures.value.0 c.in-Err.is (omega arith)
