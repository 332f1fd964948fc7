use Rattle.std.proofs.Common.{length}
use Rattle.transcript_text.proofs.Ahead.{AreRead}
use Rattle.transcript_text.proofs.PrefixSteps.{AreThere}
use Rattle.transcript_text.proofs.steps.read_remaining_steps.Given as goal

abbrev pub invariant-loop-next : goal.invariant-loop-next
invariant-loop-next l = record {
  read : AreRead l.sc l.book l.fn.begun l.fn.lines (record { order = l.order; start = l.start; steps = l.steps.items }) l.rest;
  there : AreThere l.sc l.book l.fn.begun l.fn.lines (record { order = l.order; start = l.start; steps = l.steps.items }) l.rest;
}

abbrev pub decreases-loop-next : goal.decreases-loop-next
decreases-loop-next l = length l.rest.left
