-- How `resume` ends: its status, its record, and what it leaves outside.
use Rattle.std.specs.Prelude.{◌≡◌, ℕ, List, Option, None, Ok, Err}
use Rattle.auction_core.specs.declared.prefix.Prefix.{Prefix}
use Rattle.auction_core.specs.declared.record.Record.{Record}
use Rattle.auction_core.specs.Auction.{AuctionView}
use Rattle.auction_core.specs.NotShown.{order_kept}
use Rattle.commands.specs.declared.messages.fault.TranscriptFault.{TranscriptFault}
use Rattle.commands.specs.declared.inputs.Inputs.{Inputs}
use Rattle.commands.specs.Ends.{AreInputsOf, Concludes, IsHalted, IsNotLoaded, EndsOutOfMemory, IsTextHeld}
use Rattle.commands.specs.Inputs.{transcript_limit}
use Rattle.commands.specs.Outside.{Outside, IsLinePrinted}
use Rattle.commands.specs.Resume.{ContinuesFrom, IsAfterPrefix, begun}
use Rattle.commands.specs.Statuses.{NOT_SHOWN}
use Rattle.commands.specs.Verified.{CanBeNamed, fault_line}
use Rattle.command_words.specs.Words.{ResumeNames, resume_input_names}

-- How `resume` ends: an input stopped it, memory ran out, or the beginning was not loaded. It also ends if the beginning's text
-- is rejected or a kept step doesn't verify. Otherwise the auction continues from what is kept, in its order, and concludes as a
-- run does.
pub data ResumeEnds (names : ResumeNames) (before after : Outside) (status : ℕ) (found : Option Record) : Type 0 where
  ResumeStopped : IsHalted names.run_files.inputs before after status → found ≡ None → ResumeEnds names before after status found
  ResumeOutOfMemory : EndsOutOfMemory before after status found → ResumeEnds names before after status found
  PrefixNotLoaded : (inputs : Inputs) → AreInputsOf names.run_files.inputs before inputs → IsNotLoaded transcript_limit names.prefix before after status →
      found ≡ None → after.files ≡ before.files → ResumeEnds names before after status found
  PrefixRejected : (inputs : Inputs) (text : List ℕ) (fault : TranscriptFault) → AreInputsOf names.run_files.inputs before inputs →
      CanBeNamed inputs → IsTextHeld (resume_input_names names) before text → begun inputs text ≡ Err fault → status ≡ NOT_SHOWN → found ≡ None →
      IsLinePrinted before after (fault_line names.prefix fault) → after.files ≡ before.files → ResumeEnds names before after status found
  Continued : (inputs : Inputs) (text : List ℕ) (kept : Prefix) (rec : Record) → AreInputsOf names.run_files.inputs before inputs →
      CanBeNamed inputs → IsTextHeld (resume_input_names names) before text → begun inputs text ≡ Ok kept → ContinuesFrom kept rec →
      Concludes (order_kept kept) names.run_files inputs rec before after status found → ResumeEnds names before after status found

-- An auction can continue from the beginning that was read: `auction` is in the state after what is kept.
pub record IsResumable (names : ResumeNames) (before : Outside) (inputs : Inputs) (auction : AuctionView) : Type 0 where
  pub accepted : AreInputsOf names.run_files.inputs before inputs
  pub named : CanBeNamed inputs
  pub text : List ℕ
  pub held : IsTextHeld (resume_input_names names) before text
  pub kept : Prefix
  pub sound : begun inputs text ≡ Ok kept
  pub behind : IsAfterPrefix inputs kept auction
