-- By cases on how the start was settled.
use Rattle.std.proofs.Common.{◌≡◌, rules, true, false, is_some, option_map, subst, sym}
use Rattle.auction_core.specs.Checked.{IsStepFault, is_empty_shown}
use Rattle.auction_core.specs.NotShown.{start_fault}
use Rattle.auction_core.specs.declared.prefix.ShownWhy.TheVariants.{NotValid}
use Rattle.auction_core.proofs.CheckLemmas.{not-some, empty-ok, empty-stands, empty-why, fit-unasked, fit-ok, fit-why, fit-stands}
use Rattle.auction_core.proofs.check_sequence.check_start.Goals as goal

pub returns-then-is_empty_shown-clause-fault : goal.returns-then-is_empty_shown-clause-fault
returns-then-is_empty_shown-clause-fault c =
    let v = c.args.query_session.now in
    let h : is_empty_shown v.state.start ≡ true = search rules in
    empty-ok v.scenario v.book v.state.order v.state c.args.start c.requires.opening c.in-Empty.is h

pub returns-then-is_empty_shown-clause-at : goal.returns-then-is_empty_shown-clause-at
returns-then-is_empty_shown-clause-at c =
    let v = c.args.query_session.now in
    let h : is_empty_shown v.state.start ≡ true = search rules in
    empty-stands v.scenario v.book v.state.order v.state c.args.start c.requires.opening c.in-Empty.is h

pub returns-in-Empty-clause-why : goal.returns-in-Empty-clause-why
returns-in-Empty-clause-why c =
    let v = c.args.query_session.now in
    let h : is_empty_shown v.state.start ≡ false = search rules in
    subst (λ r. IsStepFault r (option_map NotValid (start_fault v.scenario v.book c.args.start))) (sym c.not_valid.ensures) (empty-why v.scenario v.book v.state.order v.state c.args.start c.requires.opening c.in-Empty.is h)

pub returns-then-is_some-clause-why : goal.returns-then-is_some-clause-why
returns-then-is_some-clause-why c =
    let v = c.args.query_session.now in
    let h : is_some v.state.start ≡ true = search rules in
    subst (λ r. IsStepFault r (option_map NotValid (start_fault v.scenario v.book c.args.start))) (sym c.not_valid-then-is_some.ensures) (fit-unasked v.scenario v.book v.state.order v.state c.args.start c.in-Fits.delta c.requires.opening c.in-Fits.is h)

pub returns-in-Ok-clause-fault : goal.returns-in-Ok-clause-fault
returns-in-Ok-clause-fault c =
    let v = c.args.query_session.now in
    let h : is_some v.state.start ≡ false = search rules in
    fit-ok v.scenario v.book v.state.order v.state c.args.start c.in-Fits.delta c.requires.opening c.in-Fits.is (not-some v.state.start h) c.in-Ok.ensures.fault

pub returns-in-Ok-clause-at : goal.returns-in-Ok-clause-at
returns-in-Ok-clause-at c =
    let v = c.args.query_session.now in
    let h : is_some v.state.start ≡ false = search rules in
    fit-stands v.scenario v.book v.state.order v.state c.start_fit.new.query_session.state c.args.start c.in-Fits.delta c.requires.opening c.in-Fits.is (not-some v.state.start h) c.in-Ok.ensures.state

pub returns-in-Fits-clause-why : goal.returns-in-Fits-clause-why
returns-in-Fits-clause-why c =
    let v = c.args.query_session.now in
    let h : is_some v.state.start ≡ false = search rules in
    fit-why v.scenario v.book v.state.order v.state c.args.start c.in-Fits.delta c.in-Err.e c.requires.opening c.in-Fits.is (not-some v.state.start h) c.in-Err.ensures.why
