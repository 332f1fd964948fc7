use Rattle.std.proofs.Common.{◌≡◌, ◌++◌, drop, take}
use Rattle.pack_defs.specs.ClockRule.{opening_state}
use Rattle.auction_core.specs.Backed.{after_start, after_steps}
use Rattle.auction_core.specs.Clock.{IsClockOf}
use Rattle.transcript_text.specs.Spelling.{start_text, version_text}
use Rattle.transcript_text.proofs.Writes.{steps_text}
use Rattle.transcript_text.proofs.write.push_transcript.Given as goal

abbrev pub invariant-loop-step : goal.invariant-loop-step
invariant-loop-step l = record {
  clock : IsClockOf l.sc (after_steps l.sc (after_start l.sc l.rec.order l.rec.start) (take l.step-index l.step-items)).clock l.clock;
  text : l.text.items ++ steps_text l.sc l.book (after_steps l.sc (after_start l.sc l.rec.order l.rec.start) (take l.step-index l.step-items)).clock (drop l.step-index l.step-items)
      ≡ (version_text l.rec.order ++ start_text l.rec.start) ++ steps_text l.sc l.book (opening_state l.sc) l.rec.steps;
}
