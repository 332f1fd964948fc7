-- The beginning of a transcript from which an auction continues, and a record that continues from it.
use Rattle.std.specs.Prelude.{◌≡◌, ℕ, false, ◌++◌, List, Option, Some, None, MatchOption, Result, Ok, Err, ⊤}
use Rattle.std.specs.List.{list_any}
use Rattle.auction_core.specs.declared.prefix.Prefix.{Prefix}
use Rattle.auction_core.specs.declared.record.Record.{Record}
use Rattle.auction_core.specs.declared.record.Step.{Step}
use Rattle.auction_core.specs.Auction.{AuctionView}
use Rattle.auction_core.specs.Backed.{is_outside}
use Rattle.auction_core.specs.LogNumbers.{steps_in}
use Rattle.auction_core.specs.NotShown.{NotShown, not_kept, order_kept}
use Rattle.auction_core.specs.Prefix.{IsPrefix, resumed}
use Rattle.transcript_text.specs.declared.error.TextErr.{TextErr}
use Rattle.transcript_text.specs.PrefixReading.{prefix_of}
use Rattle.commands.specs.declared.messages.fault.TranscriptFault.{TranscriptFault}
use Rattle.commands.specs.declared.messages.fault.TranscriptFault.TheVariants.{Unread, Unshown}
use Rattle.commands.specs.declared.inputs.Inputs.{Inputs}
use Rattle.commands.specs.declared.shown.RecordErr.{RecordErr}
use Rattle.commands.specs.declared.shown.RecordErr.TheVariants.{Fault, NoMemory}

-- What is kept if each kept step verifies, else the fault of the first step that doesn't.
abbrev pub kept_or : Option NotShown → Prefix → Result Prefix TranscriptFault
kept_or None kept = Ok kept
kept_or (Some first) kept = Err (Unshown first.step first.why)

-- What is kept of a transcript's beginning, or its first fault: an error of its reader, or its first step that doesn't verify.
abbrev pub kept_prefix : Inputs → Result Prefix TextErr → Result Prefix TranscriptFault
kept_prefix inputs (Err why) = Err (Unread why)
kept_prefix inputs (Ok kept) = kept_or (not_kept inputs.scenario inputs.book kept) kept

-- What is kept of the transcript that begins with this text: everything complete in it, if each kept step verifies. Otherwise its
-- first fault.
unfoldable pub begun : Inputs → List ℕ → Result Prefix TranscriptFault
begun inputs text = kept_prefix inputs (prefix_of inputs.scenario inputs.book text)

-- The record continues what was kept: it has the kept order, the kept start if there is one, and first the kept steps.
pub record ContinuesFrom (kept : Prefix) (rec : Record) : Type 0 where
  -- Rounds test by volume if no first line was kept.
  pub order : rec.order ≡ order_kept kept
  pub start : MatchOption kept.start ⊤ (λ shown. rec.start ≡ shown)
  pub more : List Step
  pub steps : rec.steps ≡ steps_in kept.steps ++ more
  -- No later step is shown by an outside proof.
  pub own : list_any (λ x. is_outside x.shown) more ≡ false

-- ---- What the steps of `resume` return

-- The auction has the scenario and the book of the inputs, and is in the state after what was kept. What was kept is a possible
-- beginning of that auction.
pub record IsAfterPrefix (inputs : Inputs) (kept : Prefix) (auction : AuctionView) : Type 0 where
  pub scenario : auction.scenario ≡ inputs.scenario
  pub book : auction.book ≡ inputs.book
  pub state : auction.state ≡ resumed inputs.scenario inputs.book (order_kept kept) kept.start (steps_in kept.steps)
  pub is_prefix : IsPrefix inputs.scenario inputs.book (order_kept kept) kept.start (steps_in kept.steps)

-- The answer is what the definitions make of the beginning: the auction in the state after what is kept, or the first fault.
-- Memory may run out.
abbrev pub IsResumption : Inputs → Result Prefix TranscriptFault → Result AuctionView RecordErr → Type 0
IsResumption inputs wanted (Ok auction) = (kept : Prefix) × (wanted ≡ Ok kept) × IsAfterPrefix inputs kept auction
IsResumption inputs wanted (Err (Fault fault)) = wanted ≡ Err fault
IsResumption inputs wanted (Err NoMemory) = ⊤
