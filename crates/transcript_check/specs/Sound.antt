-- When a transcript is sound: its record is backed, and its logs are numbered after the clauses of their tests' sets.
use Rattle.std.specs.Prelude.{sum_by}
use Rattle.pack_defs.specs.declared.scenario.Scenario.{Scenario}
use Rattle.pack_defs.specs.Book.{BookView}
use Rattle.auction_core.specs.declared.record.Record.{Record}
use Rattle.auction_core.specs.declared.record.Ending.TheVariants.{Done}
use Rattle.auction_core.specs.Backed.{IsBacked, after_start, after_steps}
use Rattle.auction_core.specs.declared.transcript.Transcript.{Transcript}
use Rattle.auction_core.specs.LogNumbers.{AreNumbered, steps_in}

-- The record of a transcript: its order, its start and its steps, and the map and the total that they lead to.
abbrev pub transcript_record : Scenario → BookView → Transcript → Record
transcript_record sc book t =
    let state = after_steps sc (after_start sc t.order t.start) (steps_in t.steps) in
    record {
      scenario = sc;
      order = t.order;
      ending = Done;
      start = t.start;
      steps = steps_in t.steps;
      map = state.map;
      total = sum_by (λ x. x.price) state.clock.frozen;
    }

-- Whether the transcript is sound.
pub record IsSound (sc : Scenario) (book : BookView) (t : Transcript) : Type 0 where
  pub backed : IsBacked sc book t.order (transcript_record sc book t)
  pub numbered : AreNumbered sc book (after_start sc t.order t.start) t.steps
