-- The auction of the inputs: the clock rule's outcome, its texts, and when a record is of that auction.
use Rattle.std.specs.Prelude.{◌≡◌, ℕ, if◌then◌else◌, IsFalse, IsTrue, List}
use Rattle.pack_defs.specs.Lists.{is_empty}
use Rattle.pack_defs.specs.declared.order.Order.{Order}
use Rattle.pack_defs.specs.declared.order.Order.TheVariants.{ByVolume}
use Rattle.pack_defs.specs.ClockRule.{ClockState, ClockTest, clock_rule, on_air_set}
use Rattle.pack_defs.specs.Packing.{IsPacking, fits}
use Rattle.pack_defs.specs.Prices.{start_set}
use Rattle.cert_types.specs.declared.answer.Receipt.{Receipt}
use Rattle.auction_core.specs.declared.record.Ending.{Ending}
use Rattle.auction_core.specs.declared.record.Ending.TheVariants.{Done, StartRefuted, StartUndecided}
use Rattle.auction_core.specs.declared.record.Record.{Record}
use Rattle.auction_core.specs.declared.record.Shown.TheVariants.{Undecided}
use Rattle.auction_core.specs.Backed.{AreReceipts, IsBacked, undecided_of}
use Rattle.auction_core.specs.State.{start_task}
use Rattle.result_text.specs.ResultText.{result_text, summary_text}
use Rattle.commands.specs.declared.inputs.Inputs.{Inputs}
use Rattle.commands.specs.Statuses.{DONE, LEFT_OPEN}

-- The test order of a run: each round tests its stations by volume.
abbrev pub run_order : Order
run_order = ByVolume

-- The final state of the clock rule on these inputs, where each round tests in this order and these tests are undecided.
abbrev pub outcome : Order → Inputs → List ClockTest → ClockState
outcome order inputs undecided = clock_rule inputs.scenario inputs.book order undecided

-- The text of the result for that outcome, which lists the undecided tests.
abbrev pub result_of : Order → Inputs → List ClockTest → List ℕ
result_of order inputs undecided = result_text inputs.scenario (outcome order inputs undecided) undecided

-- The text of the summary for that outcome, with these tests undecided.
abbrev pub summary_in : Order → Inputs → List ClockTest → List ℕ
summary_in order inputs undecided = summary_text inputs.scenario (outcome order inputs undecided) undecided

-- The text of the summary in the order of a run, with these tests undecided.
abbrev pub summary_of : Inputs → List ClockTest → List ℕ
summary_of inputs undecided = summary_in run_order inputs undecided

-- The status of a completed auction: 0 if no test is undecided, else 1.
abbrev pub done_status : List ClockTest → ℕ
done_status undecided = if is_empty undecided then DONE else LEFT_OPEN

-- The start set fits.
abbrev pub StartFits : Inputs → Type 0
StartFits inputs = IsTrue (fits inputs.book (start_set inputs.scenario))

-- The start set doesn't fit.
abbrev pub StartUnfit : Inputs → Type 0
StartUnfit inputs = IsFalse (fits inputs.book (start_set inputs.scenario))

-- The record is backed and of the completed auction of these inputs in this order, whose start set fits. Its map is clean and has
-- exactly the stations on air at the end, so no two of its entries interfere.
pub record IsRecordIn (order : Order) (inputs : Inputs) (rec : Record) : Type 0 where
  -- Its steps are the clock rule's tests, with those that it shows undecided, and each step is certified. An undecided step is
  -- certified by every worker's receipt that its whole budget was spent on that step.
  pub backed : IsBacked inputs.scenario inputs.book order rec
  pub ending : rec.ending ≡ Done
  pub starts : StartFits inputs
  pub packing : IsPacking inputs.book (on_air_set inputs.scenario (outcome order inputs (undecided_of rec.steps))) rec.map

-- The record is of the auction of these inputs in the order of a run, and the auction was completed.
abbrev pub IsRecordOf : Inputs → Record → Type 0
IsRecordOf inputs rec = IsRecordIn run_order inputs rec

-- The record is backed, its auction ended at the start as refuted, and the start set doesn't fit.
pub record IsRefutedRecordIn (order : Order) (inputs : Inputs) (rec : Record) : Type 0 where
  pub backed : IsBacked inputs.scenario inputs.book order rec
  pub ending : rec.ending ≡ StartRefuted
  pub starts : StartUnfit inputs

-- The record is backed in the order of a run, its auction ended at the start as refuted, and the start set doesn't fit.
abbrev pub IsRefutedRecordOf : Inputs → Record → Type 0
IsRefutedRecordOf inputs rec = IsRefutedRecordIn run_order inputs rec

-- The record is backed, and its auction ended at the start as undecided. Every worker's valid receipt says that its whole budget
-- was spent on the start set.
pub record IsOpenRecordIn (order : Order) (inputs : Inputs) (rec : Record) : Type 0 where
  pub backed : IsBacked inputs.scenario inputs.book order rec
  pub ending : rec.ending ≡ StartUndecided
  pub receipts : List Receipt
  pub shown : rec.start ≡ Undecided receipts
  pub spent : AreReceipts inputs.book (start_task inputs.scenario 1) inputs.scenario.workers receipts

-- The record is backed in the order of a run, and its auction ended at the start as undecided. Every worker's valid receipt says
-- that its whole budget was spent on the start set.
abbrev pub IsOpenRecordOf : Inputs → Record → Type 0
IsOpenRecordOf inputs rec = IsOpenRecordIn run_order inputs rec

-- The record is of the auction of these inputs in this order, with this ending: completed, start refuted, or start undecided.
abbrev pub IsEndedRecordIn : Order → Inputs → Record → Ending → Type 0
IsEndedRecordIn order inputs rec Done = IsRecordIn order inputs rec
IsEndedRecordIn order inputs rec StartRefuted = IsRefutedRecordIn order inputs rec
IsEndedRecordIn order inputs rec StartUndecided = IsOpenRecordIn order inputs rec

-- The record is of the auction of these inputs in the order of a run, with this ending.
abbrev pub IsRecordBy : Inputs → Record → Ending → Type 0
IsRecordBy inputs rec ending = IsEndedRecordIn run_order inputs rec ending
