-- One more step, or the first error.
use Rattle.std.proofs.Common.{◌+◌, ◌∙◌, sym, arith, length}
use Rattle.auction_core.specs.Checked.{step_result}
use Rattle.auction_core.proofs.KeptLemmas.{early-more}
use Rattle.auction_core.proofs.CheckLemmas.{step-on, step-off, shorter, at-place}
use Rattle.auction_core.proofs.check_sequence.check_steps.Goals as goal

pub returns-in-Err-clause-why : goal.returns-in-Err-clause-why
returns-in-Err-clause-why c = λ order start found h.
    let i = c.steps.invariant in
    let e = sym i.left ∙ c.in-Some.ensures.steps.0 in
    let v = c.args.query_session.now in
    let w = c.steps.query_session in
    step-off v.scenario w.scenario v.book w.book order start c.args.steps.items c.steps.place c.in-Some.x c.next.new.self.rest.items found w.state c.at.result i.scenario i.book e (i.at order start found h)
    (c.at.ensures.why (step_result w.scenario w.book w.state c.steps.place c.in-Some.x) c.in-Err.ensures.why)

pub returns-in-Err-clause-early : goal.returns-in-Err-clause-early
returns-in-Err-clause-early c =
    let e = sym c.steps.invariant.left ∙ c.in-Some.ensures.steps.0 in
    let inside = shorter c.args.steps.items c.steps.place c.in-Some.x c.next.new.self.rest.items e in
    early-more c.at.result (c.steps.place + 1) (length c.args.steps.items) c.at.ensures.early (omega (arith, inside))

pub steps-preserved : goal.steps-preserved
steps-preserved c =
    let i = c.steps.invariant in
    let e = sym i.left ∙ c.in-Some.ensures.steps.0 in
    let v = c.args.query_session.now in
    let w = c.steps.query_session in
    let inside = shorter c.args.steps.items c.steps.place c.in-Some.x c.next.new.self.rest.items e in
    record {
      scenario = c.in-Ok.ensures.scenario ∙ i.scenario;
      book = c.in-Ok.ensures.book ∙ i.book;
      left = (at-place c.args.steps.items c.steps.place c.in-Some.x c.next.new.self.rest.items e).1;
      inside = omega (arith, inside);
      at = λ order start found h.
          step-on v.scenario w.scenario v.book w.book order start c.args.steps.items c.steps.place c.in-Some.x c.next.new.self.rest.items found w.state c.check_step.new.query_session.state i.scenario i.book e (i.at order start found h) c.in-Ok.ensures.told c.in-Ok.ensures.state;
    }
