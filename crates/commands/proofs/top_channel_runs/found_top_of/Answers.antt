-- Each answer has its record, and the result is true.
use Rattle.std.proofs.Common.{◌≡◌, ◌≤◌, ◌-◌, false, subst, true}
use Rattle.target_seek.specs.declared.top_test.TopAnswer.TheVariants.{Fits, Unfit, Open}
use Rattle.target_seek.specs.TopChannels.{IsSought, IsTruth}
use Rattle.commands.specs.Records.{IsRefutedRecordOf}
use Rattle.commands.specs.Seek.{asked_of, inputs_at, has_top_answer}
use Rattle.std.specs.List.{list_any}
use Rattle.commands.proofs.TopChannelRunLemmas.{above-first, below-unfit, least-top, told-less, told-there}
use Rattle.commands.proofs.top_channel_runs.found_top_of.Goals as goal

pub only_record-requires-clause-has_answer : goal.only_record-requires-clause-has_answer
only_record-requires-clause-has_answer c = told-there c.args.records.kept c.args.last Unfit (subst (IsSought 14 c.args.last (asked_of c.args.records.kept)) c.in-NoneFits.is c.requires.sought)

pub returns-in-NoneFits : goal.returns-in-NoneFits
returns-in-NoneFits c = subst (λ t. IsRefutedRecordOf (inputs_at c.args.records.base t) c.only_record.result) c.requires.last c.only_record.ensures

pub only_record-requires-in-LastOpen-clause-has_answer : goal.only_record-requires-in-LastOpen-clause-has_answer
only_record-requires-in-LastOpen-clause-has_answer c = told-there c.args.records.kept c.args.last Open (subst (IsSought 14 c.args.last (asked_of c.args.records.kept)) c.in-LastOpen.is c.requires.sought)

pub found_at_first_top-requires : goal.found_at_first_top-requires
found_at_first_top-requires c =
    let is = subst (IsSought 14 c.args.last (asked_of c.args.records.kept)) c.in-Least.is c.requires.sought in
    subst (λ t. list_any (has_top_answer t Fits) c.args.records.kept ≡ true) c.if-top-eq-FIRST.true
    (told-there c.args.records.kept c.in-Least.top Fits is.2)

pub found_above_first-requires-clause-has_answer : goal.found_above_first-requires-clause-has_answer
found_above_first-requires-clause-has_answer c =
    let is = subst (IsSought 14 c.args.last (asked_of c.args.records.kept)) c.in-Least.is c.requires.sought in
    told-there c.args.records.kept c.in-Least.top Fits is.2

pub found_above_first-requires-clause-answered_below : goal.found_above_first-requires-clause-answered_below
found_above_first-requires-clause-answered_below c =
    let is = subst (IsSought 14 c.args.last (asked_of c.args.records.kept)) c.in-Least.is c.requires.sought in
    told-there c.args.records.kept (c.in-Least.top - 1) Unfit
    (told-less (asked_of c.args.records.kept) c.in-Least.top c.if-top-eq-FIRST.false is.3)

pub returns-else-top-eq-FIRST : goal.returns-else-top-eq-FIRST
returns-else-top-eq-FIRST c =
    let base = c.args.records.base in
    let top = c.in-Least.top in
    let is = subst (IsSought 14 c.args.last (asked_of c.args.records.kept)) c.in-Least.is c.requires.sought in
    let truth = subst (IsTruth base 14 c.args.last) c.in-Least.is c.requires.truth in
    let above = above-first top is.0 c.if-top-eq-FIRST.false in
    least-top base c.found_above_first.result top false c.found_above_first.ensures.top c.found_above_first.ensures.is_open is.0 (subst (λ t. top ≤ t) c.requires.last is.1) c.found_above_first.ensures.rec
    (below-unfit base top c.found_above_first.result.below above c.found_above_first.ensures.below) (λ shut less from under. truth.1 less under from)

pub found_above_first-requires-in-AboveOpen-clause-has_answer : goal.found_above_first-requires-in-AboveOpen-clause-has_answer
found_above_first-requires-in-AboveOpen-clause-has_answer c =
    let is = subst (IsSought 14 c.args.last (asked_of c.args.records.kept)) c.in-AboveOpen.is c.requires.sought in
    told-there c.args.records.kept c.in-AboveOpen.top Fits is.2

pub found_above_first-requires-in-AboveOpen-clause-answered_below : goal.found_above_first-requires-in-AboveOpen-clause-answered_below
found_above_first-requires-in-AboveOpen-clause-answered_below c =
    let is = subst (IsSought 14 c.args.last (asked_of c.args.records.kept)) c.in-AboveOpen.is c.requires.sought in
    told-there c.args.records.kept (c.in-AboveOpen.top - 1) Open is.3
