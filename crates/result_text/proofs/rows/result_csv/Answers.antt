-- The rows are those of the rule's standings.
use Rattle.std.proofs.Common.{◌∙◌, ap, length, sym}
use Rattle.std.proofs.lemmas.Result.{IfOk-weaker}
use Rattle.auction_core.specs.Backed.{undecided_of}
use Rattle.auction_core.proofs.ClockLemmas.{length-standings}
use Rattle.result_text.proofs.ReplayLemmas.{length-frozen}
use Rattle.result_text.proofs.RowLemmas.{rows-text}
use Rattle.result_text.proofs.rows.result_csv.Goals as goal

pub stations_csv-requires-clause-station_statuses : goal.stations_csv-requires-clause-station_statuses
stations_csv-requires-clause-station_statuses c = length-standings c.in_ok-outcomes.ensures.clock.station_statuses ∙ sym (ap length c.as_slice.ensures)

pub stations_csv-requires-clause-undecided : goal.stations_csv-requires-clause-undecided
stations_csv-requires-clause-undecided c =
    ap length (c.deref.ensures.value ∙ c.in_ok-outcomes.ensures.undecided)
    ∙ (length-frozen (undecided_of c.args.rec.now.steps) c.in_ok-outcomes.ensures.clock.station_statuses ∙ sym (ap length c.as_slice.ensures))

pub returns : goal.returns
returns c =
    IfOk-weaker c.stations_csv.result _ _ (λ v h. h ∙ rows-text (undecided_of c.args.rec.now.steps) c.as_slice.result.now c.deref.result.now c.in_ok-outcomes.ensures.clock c.as_slice.ensures (c.deref.ensures.value ∙ c.in_ok-outcomes.ensures.undecided)) c.stations_csv.ensures
