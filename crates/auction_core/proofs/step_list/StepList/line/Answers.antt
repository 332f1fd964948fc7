-- The lines of the merged steps are the stored lines.
use Rattle.std.proofs.Common.{◌≡◌, ◌∙◌, MatchOption, Some, None, ap, option_map, refl, slice_get, subst, sym, true}
use Rattle.std.specs.Bool.{⊤}
use Rattle.std.proofs.lemmas.Option.{slice_get_past, slice_get_read}
use Rattle.auction_core.specs.StepList.{StepListView, step_line_of, names_only}
use Rattle.auction_core.proofs.StepLines.{line-there, names-there}
use Rattle.auction_core.proofs.step_list.StepList.line.Goals as goal

pub returns-in-Some-clause-line : goal.returns-in-Some-clause-line
returns-in-Some-clause-line c =
    let own = c.self.inside in
    let look = c.in-Some.ensures.lookup in
    let there : slice_get own.lines.items c.args.place ≡ Some c.in-Some.line.now =
    ap (λ ls. slice_get ls c.args.place) (sym c.deref.ensures.value) ∙ slice_get_read c.deref.result.now _ c.args.place c.in-Some.line.now refl look.3.0 look.1 in
    sym there ∙ (line-there own.lines.items own.told.items c.args.place c.self.invariant
    ∙ ap (λ (v : StepListView). option_map step_line_of (slice_get v.steps c.args.place)) c.self.view_is)

pub returns-in-None-clause-line : goal.returns-in-None-clause-line
returns-in-None-clause-line c =
    let own = c.self.inside in
    let there : slice_get own.lines.items c.args.place ≡ None =
    ap (λ ls. slice_get ls c.args.place) (sym c.deref.ensures.value) ∙ slice_get_past c.deref.result.now c.args.place c.in-None.ensures.lookup.3 in
    sym there ∙ (line-there own.lines.items own.told.items c.args.place c.self.invariant
    ∙ ap (λ (v : StepListView). option_map step_line_of (slice_get v.steps c.args.place)) c.self.view_is)

pub returns-in-Some-clause-names : goal.returns-in-Some-clause-names
returns-in-Some-clause-names c =
    let own = c.self.inside in
    subst (λ (v : StepListView). MatchOption (slice_get v.steps c.args.place) ⊤ (λ x. names_only x.station x.shown ≡ true)) c.self.view_is
    (names-there own.lines.items own.told.items c.args.place c.self.invariant)

pub returns-in-None-clause-names : goal.returns-in-None-clause-names
returns-in-None-clause-names c =
    let own = c.self.inside in
    subst (λ (v : StepListView). MatchOption (slice_get v.steps c.args.place) ⊤ (λ x. names_only x.station x.shown ≡ true)) c.self.view_is
    (names-there own.lines.items own.told.items c.args.place c.self.invariant)
