use Rattle.std.proofs.Common.{◌∙◌, sym, ap, arith}
use Rattle.std.specs.Option.{option_copied}
use Rattle.pack_defs.proofs.Words.{ascending-rest}
use Rattle.lrat_text.proofs.ReadLemmas.{next-by-last, next-of-none, not-next}
use Rattle.lrat_text.proofs.read.is_next.Goals as goal

pub returns-then-number-clauses : goal.returns-then-number-clauses
returns-then-number-clauses c = sym (not-next c.args.clauses c.args.numbers.now c.args.number (omega (arith, c.if-number-clauses.true)))

pub returns-in-Some : goal.returns-in-Some
returns-in-Some c = next-by-last c.args.clauses c.args.numbers.now c.in-Some.last.now c.args.number (omega (arith, c.if-number-clauses.false)) (ascending-rest c.args.clauses c.args.numbers.now c.requires) (sym c.last.ensures.value ∙ ap option_copied c.in-Some.is)

pub returns-in-None : goal.returns-in-None
returns-in-None c = sym (next-of-none c.args.clauses c.args.numbers.now c.args.number (omega (arith, c.if-number-clauses.false)) (sym c.last.ensures.value ∙ ap option_copied c.in-None.is))
