-- One more top was tested; at the end, all answers are true.
use Rattle.std.proofs.Common.{◌∙◌, List, subst, sym}
use Rattle.target_seek.specs.Searching.{IsSearching}
use Rattle.target_seek.specs.TopChannels.{AreTrue, AskedTop, SeekBase}
use Rattle.commands.specs.Seek.{asked_of, base_of}
use Rattle.commands.proofs.TopChannelRunLemmas.{records-true}
use Rattle.commands.proofs.top_channel_runs.search_tops.Goals as goal

pub loop-top-preserved : goal.loop-top-preserved
loop-top-preserved g c =
    let last = c.args.sources.scenario.top in
    let asked = asked_of c.loop-top.records.kept in
    let searching = c.with_top_answer-search.ensures.searching 14 last asked c.in-Some.top c.loop-top.invariant.1 (sym c.in-Some.ensures.next) in (
      c.in_ok-answer.ensures.base ∙ c.loop-top.invariant.0,
      subst (λ (more : List AskedTop). IsSearching 14 last more c.with_top_answer-search.result) (sym c.in_ok-answer.ensures.asked) searching,
    )

pub returns-clause-asked : goal.returns-clause-asked
returns-clause-asked g c =
    let found = c.found-sought.ensures.sought 14 c.args.sources.scenario.top (asked_of c.loop-top.records.kept) c.loop-top.invariant.1 in
    found.0

pub returns-clause-truth : goal.returns-clause-truth
returns-clause-truth g c =
    let asked = asked_of c.loop-top.records.kept in
    c.found-sought.ensures.truth (base_of c.args.sources) 14 c.args.sources.scenario.top asked c.loop-top.invariant.1
    (subst (λ (base : SeekBase). AreTrue base asked) c.loop-top.invariant.0 (records-true c.loop-top.records.base c.loop-top.records.kept c.keeps_records.ensures))

pub returns-clause-asked_few : goal.returns-clause-asked_few
returns-clause-asked_few g c =
    let found = c.found-sought.ensures.sought 14 c.args.sources.scenario.top (asked_of c.loop-top.records.kept) c.loop-top.invariant.1 in
    found.1
