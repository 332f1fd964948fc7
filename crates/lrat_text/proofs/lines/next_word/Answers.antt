use Rattle.std.proofs.Common.{sym, ap, ◌∙◌}
use Rattle.std.proofs.lemmas.List.{drop_all}
use Rattle.lrat_text.specs.Lines.{words_of}
use Rattle.lrat_text.proofs.SplitLemmas.{past-blank, no-words}
use Rattle.lrat_text.proofs.lines.next_word.Goals as goal

pub loop-i-preserved : goal.loop-i-preserved
loop-i-preserved c = past-blank c.args.line.now c.loop-i.i c.loop-i-test.true (sym c.is_blank.ensures ∙ c.if-not-is_blank.false) ∙ c.loop-i.invariant

pub returns-clause-words : goal.returns-clause-words
returns-clause-words c = sym c.loop-i.invariant ∙ (ap words_of (drop_all c.loop-i.i c.args.line.now c.loop-i-test.false) ∙ no-words)
