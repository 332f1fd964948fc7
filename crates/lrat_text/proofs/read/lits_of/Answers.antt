use Rattle.std.proofs.Common.{◌∙◌, Some, ap, sym}
use Rattle.lrat_text.specs.Lines.{words_of}
use Rattle.lrat_text.specs.Read.{log_lits_at}
use Rattle.lrat_text.proofs.ReadLemmas.{lits-more, lits-end, lits-bad, lits-none}
use Rattle.lrat_text.proofs.read.lits_of.Goals as goal

pub loop-word-preserved : goal.loop-word-preserved
loop-word-preserved c =
    rw c.in_ok-push-in-Some-Number.ensures.items
    (lits-more c.loop-word.lits.items c.args.n c.in-Some.word.now (words_of c.loop-word.rest.now) (words_of c.in-Some.after.now) c.in-Some-Number.lit (log_lits_at c.args.n (words_of c.args.words.now)) c.in-Some.ensures.words (sym c.in-Some-Number.ensures ∙ ap Some c.in-Some-Number.field-0-is) c.loop-word.invariant)

pub returns-in-Some-End : goal.returns-in-Some-End
returns-in-Some-End c = lits-end c.loop-word.lits.items c.args.n c.in-Some.word.now _ (words_of c.in-Some.after.now) _ c.in-Some.ensures.words (sym c.in-Some-End.ensures ∙ ap Some c.in-Some-End.field-0-is) c.loop-word.invariant

pub returns-in-None : goal.returns-in-None
returns-in-None c = lits-bad c.loop-word.lits.items c.args.n c.in-Some.word.now _ (words_of c.in-Some.after.now) _ c.in-Some.ensures.words (sym c.in-None.ensures) c.loop-word.invariant

pub returns : goal.returns
returns c = lits-none c.loop-word.lits.items c.args.n _ _ c.in_default.ensures.words c.loop-word.invariant
