-- How `run` ends, from how the auction of its inputs concludes.
use Rattle.std.proofs.Common.{◌⊎◌, ◌∙◌, ℕ, inl, inr, subst, Option}
use Rattle.auction_core.specs.Backed.{undecided_of}
use Rattle.auction_core.specs.declared.record.Record.{Record}
use Rattle.pack_defs.specs.declared.order.Order.{Order}
use Rattle.commands.specs.declared.inputs.Inputs.{Inputs}
use Rattle.commands.specs.Ends.{AreInputsOf, Concludes, EndsOutOfMemory, RunEnds, auction_texts}
use Rattle.commands.specs.Ends.Concludes.{Unfit, StartOpen, Delivered}
use Rattle.commands.specs.Ends.RunEnds.{RunOutOfMemory, Concluded}
use Rattle.commands.specs.Outside.{Outside}
use Rattle.commands.specs.Records.{IsRecordBy, done_status, run_order, summary_in}
use Rattle.command_words.specs.Words.{RunNames}
use Rattle.commands.proofs.DeliveryLemmas.{IsSince, delivers-since}
use Rattle.commands.proofs.EndLemmas.{ended-order}

-- Memory ran out after the reading.
pub starved-since : (before between after : Outside) (status : ℕ) (found : Option Record) → IsSince before between → EndsOutOfMemory between after status found → EndsOutOfMemory before after status found
starved-since before between after status found s h =
    let said = h.line in
    record { status_is = h.status_is; found_is = h.found_is; line = rw (s.held, s.sink_faults) at said; files = h.files ∙ s.files }

-- The auction concludes after the reading.
pub concludes-since : (order : Order) (names : RunNames) (inputs : Inputs) (rec : Record) (before between after : Outside) (status : ℕ) (found : Option Record) → IsSince before between →
    Concludes order names inputs rec between after status found → Concludes order names inputs rec before after status found
concludes-since order names inputs rec before between after status found s (Unfit of six kept said same) = Unfit of six kept (rw (s.held, s.sink_faults) at said) (same ∙ s.files)
concludes-since order names inputs rec before between after status found s (StartOpen of seven kept said same) = StartOpen of seven kept (rw (s.held, s.sink_faults) at said) (same ∙ s.files)
concludes-since order names inputs rec before between after status found s (Delivered of can held kept d) =
    Delivered of can held kept (delivers-since (auction_texts order names inputs rec) (summary_in order inputs (undecided_of rec.steps)) (done_status (undecided_of rec.steps)) before between after status d s)

pub run-concludes : (names : RunNames) (before between after : Outside) (status : ℕ) (found : Option Record) (inputs : Inputs) (rec : Record) → AreInputsOf names.inputs before inputs → IsSince before between → IsRecordBy inputs rec rec.ending →
    EndsOutOfMemory between after status found ⊎ Concludes rec.order names inputs rec between after status found → RunEnds run_order names before after status found
run-concludes names before between after status found inputs rec are s of (inl h) = RunOutOfMemory (starved-since before between after status found s h)
run-concludes names before between after status found inputs rec are s of (inr c) =
    Concluded inputs rec are (concludes-since run_order names inputs rec before between after status found s
    (subst (λ o. Concludes o names inputs rec between after status found) (ended-order run_order inputs rec rec.ending of) c))
