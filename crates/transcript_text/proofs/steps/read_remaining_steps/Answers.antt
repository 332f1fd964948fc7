use Rattle.std.proofs.Common.{◌≡◌, ◌∙◌, Ok, ap, length, subst, sym}
use Rattle.transcript_text.specs.Pieces.{ArePrefixSteps, ReadsOn, StepsSoFar, stopped}
use Rattle.transcript_text.specs.Reading.{next_step}
use Rattle.transcript_text.specs.Steps.{Fails}
use Rattle.transcript_text.proofs.Ahead.{asked-same, end-read, step-read-as, stop-read}
use Rattle.transcript_text.proofs.PrefixSteps.{end-there, step-there, stop-there}
use Rattle.transcript_text.proofs.StepLoop.{step-fewer, took-line}
use Rattle.transcript_text.proofs.steps.read_remaining_steps.Goals as goal

pub loop-next-smaller : goal.loop-next-smaller
loop-next-smaller c =
    took-line c.loop-next.rest (next_step c.args.sc.now c.args.book.now (length c.loop-next.steps.items) c.loop-next.rest) c.in-Ok.next c.in-Ok.after (step-fewer c.args.sc.now c.args.book.now (length c.loop-next.steps.items) c.loop-next.rest)
    (asked-same (λ r. r ≡ Ok (c.in-Ok.next, c.in-Ok.after)) c.args.sc.now c.args.book.now c.len.result (length c.loop-next.steps.items) c.same_lines.result c.loop-next.rest (c.len.ensures ∙ c.loop-next.steps.ok.0) c.same_lines.ensures c.in-Ok.ensures)

pub loop-next-preserved : goal.loop-next-preserved
loop-next-preserved c = record {
  read = step-read-as c.args.sc.now c.args.book.now c.args.begun _ c.args.lines c.loop-next.rest c.in-Ok.after c.in-Some.step c.push.new.self.items c.loop-next.invariant.read
      (asked-same (λ r. r ≡ Ok (c.in-Ok.next, c.in-Ok.after)) c.args.sc.now c.args.book.now c.len.result (length c.loop-next.steps.items) c.same_lines.result c.loop-next.rest (c.len.ensures ∙ c.loop-next.steps.ok.0) c.same_lines.ensures c.in-Ok.ensures ∙ ap (λ o. Ok (o, c.in-Ok.after)) c.in-Some.is) c.in_ok-push-in-Some.ensures.items;
  there = step-there c.args.sc.now c.args.book.now c.args.begun _ c.args.lines c.loop-next.rest c.in-Ok.after c.in-Some.step c.push.new.self.items c.loop-next.invariant.there
      (asked-same (λ r. r ≡ Ok (c.in-Ok.next, c.in-Ok.after)) c.args.sc.now c.args.book.now c.len.result (length c.loop-next.steps.items) c.same_lines.result c.loop-next.rest (c.len.ensures ∙ c.loop-next.steps.ok.0) c.same_lines.ensures c.in-Ok.ensures ∙ ap (λ o. Ok (o, c.in-Ok.after)) c.in-Some.is) c.in_ok-push-in-Some.ensures.items;
}

pub returns-in-None-clause-read : goal.returns-in-None-clause-read
returns-in-None-clause-read c =
    subst (λ (x : StepsSoFar). ReadsOn c.args.sc.now c.args.book.now c.args.begun c.args.lines (Ok x)) (sym c.steps_so_far.ensures)
    (end-read c.args.sc.now c.args.book.now c.args.begun _ c.args.lines c.loop-next.rest c.in-Ok.after c.loop-next.invariant.read
    (asked-same (λ r. r ≡ Ok (c.in-Ok.next, c.in-Ok.after)) c.args.sc.now c.args.book.now c.len.result (length c.loop-next.steps.items) c.same_lines.result c.loop-next.rest (c.len.ensures ∙ c.loop-next.steps.ok.0) c.same_lines.ensures c.in-Ok.ensures ∙ ap (λ o. Ok (o, c.in-Ok.after)) c.in-None.is))

pub returns-in-Err-clause-read : goal.returns-in-Err-clause-read
returns-in-Err-clause-read c =
    subst (ReadsOn c.args.sc.now c.args.book.now c.args.begun c.args.lines) (sym c.stopped.ensures)
    (subst (λ (x : StepsSoFar). ReadsOn c.args.sc.now c.args.book.now c.args.begun c.args.lines (stopped c.in-Err.why x)) (sym c.steps_so_far-in-Err.ensures)
    (stop-read c.args.sc.now c.args.book.now c.args.begun _ c.args.lines c.loop-next.rest c.in-Err.why c.loop-next.invariant.read
    (asked-same (Fails c.in-Err.why) c.args.sc.now c.args.book.now c.len.result (length c.loop-next.steps.items) c.same_lines.result c.loop-next.rest (c.len.ensures ∙ c.loop-next.steps.ok.0) c.same_lines.ensures c.in-Err.ensures)))

pub returns-in-None-clause-there : goal.returns-in-None-clause-there
returns-in-None-clause-there c =
    subst (λ (x : StepsSoFar). ArePrefixSteps c.args.sc.now c.args.book.now c.args.begun c.args.lines (Ok x)) (sym c.steps_so_far.ensures)
    (end-there c.args.sc.now c.args.book.now c.args.begun _ c.args.lines c.loop-next.rest c.in-Ok.after c.loop-next.invariant.there
    (asked-same (λ r. r ≡ Ok (c.in-Ok.next, c.in-Ok.after)) c.args.sc.now c.args.book.now c.len.result (length c.loop-next.steps.items) c.same_lines.result c.loop-next.rest (c.len.ensures ∙ c.loop-next.steps.ok.0) c.same_lines.ensures c.in-Ok.ensures ∙ ap (λ o. Ok (o, c.in-Ok.after)) c.in-None.is))

pub returns-in-Err-clause-there : goal.returns-in-Err-clause-there
returns-in-Err-clause-there c =
    subst (ArePrefixSteps c.args.sc.now c.args.book.now c.args.begun c.args.lines) (sym c.stopped.ensures)
    (subst (λ (x : StepsSoFar). ArePrefixSteps c.args.sc.now c.args.book.now c.args.begun c.args.lines (stopped c.in-Err.why x)) (sym c.steps_so_far-in-Err.ensures)
    (stop-there c.args.sc.now c.args.book.now c.args.begun _ c.args.lines c.loop-next.rest c.in-Err.why c.loop-next.invariant.there
    (asked-same (Fails c.in-Err.why) c.args.sc.now c.args.book.now c.len.result (length c.loop-next.steps.items) c.same_lines.result c.loop-next.rest (c.len.ensures ∙ c.loop-next.steps.ok.0) c.same_lines.ensures c.in-Err.ensures)))
