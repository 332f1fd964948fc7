use Rattle.std.proofs.Common.{◌≡◌, ◌∙◌, Some, ap, sym, rules, true, false}
use Rattle.pack_defs.specs.Lists.{is_empty}
use Rattle.lrat_text.specs.Lines.{words_of}
use Rattle.lrat_text.proofs.ReadLemmas.{hints-more, hints-stop, hints-end, hints-behind, hints-bad, hints-none}
use Rattle.lrat_text.proofs.read.hints_of.Goals as goal

pub loop-word-preserved : goal.loop-word-preserved
loop-word-preserved c =
    rw c.in_ok-push-in-Ok.ensures.items
    (hints-more c.loop-word.hints.items c.args.n c.args.clauses c.args.numbers.now c.in-Some.word.now _ (words_of c.in-Some.after.now) c.in-Some-Number.hint c.in-Ok.place _ c.in-Some.ensures.words (sym c.in-Some-Number.ensures ∙ ap Some c.in-Some-Number.field-0-is) c.in-Ok.ensures c.loop-word.invariant)

pub returns-in-Err : goal.returns-in-Err
returns-in-Err c =
    hints-stop c.loop-word.hints.items c.args.n c.args.clauses c.args.numbers.now c.in-Some.word.now _ (words_of c.in-Some.after.now) c.in-Some-Number.hint c.in-Err.why _ c.in-Some.ensures.words (sym c.in-Some-Number.ensures ∙ ap Some c.in-Some-Number.field-0-is) c.in-Err.ensures c.loop-word.invariant

pub returns-then-is_blank_line : goal.returns-then-is_blank_line
returns-then-is_blank_line c =
    let p : is_empty (words_of c.in-Some.after.now) ≡ true = search rules in
    hints-end c.loop-word.hints.items c.args.n c.args.clauses c.args.numbers.now c.in-Some.word.now _ (words_of c.in-Some.after.now) _ c.in-Some.ensures.words (sym c.in-Some-End.ensures ∙ ap Some c.in-Some-End.field-0-is) p c.loop-word.invariant

pub returns-in-Some-End : goal.returns-in-Some-End
returns-in-Some-End c =
    let p : is_empty (words_of c.in-Some.after.now) ≡ false = search rules in
    hints-behind c.loop-word.hints.items c.args.n c.args.clauses c.args.numbers.now c.in-Some.word.now _ (words_of c.in-Some.after.now) _ c.in-Some.ensures.words (sym c.in-Some-End.ensures ∙ ap Some c.in-Some-End.field-0-is) p c.loop-word.invariant

pub returns-in-None : goal.returns-in-None
returns-in-None c = hints-bad c.loop-word.hints.items c.args.n c.args.clauses c.args.numbers.now c.in-Some.word.now _ (words_of c.in-Some.after.now) _ c.in-Some.ensures.words (sym c.in-None.ensures) c.loop-word.invariant

pub returns : goal.returns
returns c = hints-none c.loop-word.hints.items c.args.n c.args.clauses c.args.numbers.now _ _ c.in_default.ensures.words c.loop-word.invariant
