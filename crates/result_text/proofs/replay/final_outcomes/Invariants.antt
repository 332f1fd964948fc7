use Rattle.std.proofs.Common.{◌≡◌, take}
use Rattle.pack_defs.specs.Scenario.{facilities}
use Rattle.auction_core.specs.Backed.{after_start, after_steps, undecided_of}
use Rattle.auction_core.specs.Clock.{IsClockOf}
use Rattle.result_text.specs.ResultText.{each_frozen_by}
use Rattle.result_text.proofs.replay.final_outcomes.Given as goal

abbrev pub invariant-loop-step : goal.invariant-loop-step
invariant-loop-step l = record {
  clock : IsClockOf l.sc (after_steps l.sc (after_start l.sc l.rec.order l.rec.start) (take l.step-index l.step-items)).clock l.clock;
  undecided : l.undecided.items ≡ each_frozen_by (undecided_of l.rec.steps) (facilities l.sc) l.clock.station_statuses;
}
