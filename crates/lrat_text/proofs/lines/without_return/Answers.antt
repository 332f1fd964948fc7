use Rattle.std.proofs.Common.{◌∙◌, sym, ap, eq-eqb, ne_eqb}
use Rattle.std.specs.Option.{option_copied}
use Rattle.lrat_text.specs.Lines.{without_return}
use Rattle.lrat_text.proofs.SplitLemmas.{return-by-last, nil-by-last, return-none}
use Rattle.lrat_text.proofs.lines.without_return.Goals as goal

pub returns-then-byte-eq-RETURN : goal.returns-then-byte-eq-RETURN
returns-then-byte-eq-RETURN c =
    let last = return-by-last c.args.line.now c.in-Some.byte.now (sym c.last.ensures.value ∙ ap option_copied c.in-Some.is) in
    sym (rw (eq-eqb c.in-Some.byte.now 13 c.if-byte-eq-RETURN.true) at last)

pub returns-else-byte-eq-RETURN : goal.returns-else-byte-eq-RETURN
returns-else-byte-eq-RETURN c =
    let last = return-by-last c.args.line.now c.in-Some.byte.now (sym c.last.ensures.value ∙ ap option_copied c.in-Some.is) in
    sym (rw (ne_eqb c.in-Some.byte.now 13 c.if-byte-eq-RETURN.false) at last)

pub returns-in-None : goal.returns-in-None
returns-in-None c =
    let nil = nil-by-last c.args.line.now (sym c.last.ensures.value ∙ ap option_copied c.in-None.is) in
    nil ∙ sym (ap without_return nil ∙ return-none)
