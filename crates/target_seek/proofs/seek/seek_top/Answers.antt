use Rattle.target_seek.proofs.BinarySearchLemmas.{midway-goes_on}
use Rattle.target_seek.proofs.seek.seek_top.Goals as goal

pub loop-top-preserved : goal.loop-top-preserved
loop-top-preserved g c =
    let mid = c.loop-top.invariant in
    midway-goes_on (g.T.TopTest.base c.args.test.now) (g.T.TopTest.base c.loop-top.test) (g.T.TopTest.base c.ask.new.self)
    (g.T.TopTest.asked c.args.test.now) (g.T.TopTest.asked c.loop-top.test) (g.T.TopTest.asked c.ask.new.self)
    c.args.first c.args.last c.loop-top.search c.with_top_answer-search.result c.in-Some.top c.in_ok-answer.answer mid
    c.in_ok-answer.ensures.base c.in_ok-answer.ensures.asked c.in_ok-answer.ensures.truth
    (c.with_top_answer-search.ensures.searching c.args.first c.args.last mid.more c.in-Some.top mid.searching (cc))

pub returns-clause-asked : goal.returns-clause-asked
returns-clause-asked g c =
    let mid = c.loop-top.invariant in
    let found = c.found.ensures.sought c.args.first c.args.last mid.more mid.searching in
    record { more = mid.more; search = c.loop-top.search; asked = mid.asked; few = found.1; searching = mid.searching; found = (cc, found.0) }

pub returns-clause-truth : goal.returns-clause-truth
returns-clause-truth g c =
    let mid = c.loop-top.invariant in
    c.found.ensures.truth (g.T.TopTest.base c.args.test.now) c.args.first c.args.last mid.more mid.searching mid.are_true
