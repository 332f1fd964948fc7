-- By the lemmas on one more step, with a verdict of its own or without one.
use Rattle.std.proofs.Common.{◌∙◌, ◌++◌, ◌∷◌, [], ap}
use Rattle.auction_core.specs.StepList.{StepListView}
use Rattle.auction_core.proofs.StepLines.{kept-now, more-with, plain-with, steps-now}
use Rattle.auction_core.proofs.step_list.StepList.push.Goals as goal

pub invariant_of-self : goal.invariant_of-self
invariant_of-self c =
    let own = c.self.inside in
    let x = c.args.step in
    kept-now own.lines.items c.push_reserved.new.self.items own.told.items own.told.items x.round x.station c.step_kind_of-step_kind.result x.shown c.step_kind_of-step_kind.ensures c.push_reserved.ensures.items
    (plain-with own.told.items x.shown c.step_kind_of-step_kind.result c.has_verdict.result c.step_kind_of-step_kind.ensures c.has_verdict.ensures c.if-not-has_verdict.true) c.self.invariant

pub returns-then-not-has_verdict-clause-steps : goal.returns-then-not-has_verdict-clause-steps
returns-then-not-has_verdict-clause-steps c =
    let own = c.self.inside in
    let x = c.args.step in
    steps-now own.lines.items c.push_reserved.new.self.items own.told.items own.told.items x.round x.station c.step_kind_of-step_kind.result x.shown c.step_kind_of-step_kind.ensures c.push_reserved.ensures.items
    (plain-with own.told.items x.shown c.step_kind_of-step_kind.result c.has_verdict.result c.step_kind_of-step_kind.ensures c.has_verdict.ensures c.if-not-has_verdict.true) c.self.invariant.each c.requires.names
    ∙ ap (λ (v : StepListView). v.steps ++ x ∷ []) c.self.view_is

pub invariant_of-self-2 : goal.invariant_of-self-2
invariant_of-self-2 c =
    let own = c.self.inside in
    let x = c.args.step in
    kept-now own.lines.items c.push_reserved.new.self.items own.told.items c.push_reserved-2.new.self.items x.round x.station c.step_kind_of-step_kind.result x.shown c.step_kind_of-step_kind.ensures c.push_reserved.ensures.items
    (c.push_reserved-2.ensures.items ∙ more-with own.told.items x.shown c.step_kind_of-step_kind.result c.has_verdict.result c.step_kind_of-step_kind.ensures c.has_verdict.ensures c.if-not-has_verdict.false) c.self.invariant

pub returns-clause-steps : goal.returns-clause-steps
returns-clause-steps c =
    let own = c.self.inside in
    let x = c.args.step in
    steps-now own.lines.items c.push_reserved.new.self.items own.told.items c.push_reserved-2.new.self.items x.round x.station c.step_kind_of-step_kind.result x.shown c.step_kind_of-step_kind.ensures c.push_reserved.ensures.items
    (c.push_reserved-2.ensures.items ∙ more-with own.told.items x.shown c.step_kind_of-step_kind.result c.has_verdict.result c.step_kind_of-step_kind.ensures c.has_verdict.ensures c.if-not-has_verdict.false) c.self.invariant.each c.requires.names
    ∙ ap (λ (v : StepListView). v.steps ++ x ∷ []) c.self.view_is
