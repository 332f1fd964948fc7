-- What a transcript's text amounts to beside the inputs, and the line of its fault.
use Rattle.std.specs.Prelude.{ℕ, List, ◌++◌, codes, decimal, Option, Some, None, Result, Ok, Err}
use Rattle.auction_core.specs.declared.record.Record.{Record}
use Rattle.transcript_text.specs.declared.error.TextErr.{TextErr}
use Rattle.transcript_text.specs.declared.error.TextErr.TheVariants.{Version, BadLine, Truncated, NoMemory}
use Rattle.auction_core.specs.declared.transcript.Transcript.{Transcript}
use Rattle.transcript_text.specs.RoundTrip.{HasFileChannels, IsNamed}
use Rattle.transcript_text.specs.Reading.{transcript_of}
use Rattle.auction_core.specs.declared.prefix.ShownWhy.{ShownWhy}
use Rattle.auction_core.specs.declared.prefix.ShownWhy.TheVariants.{Order, NotValid}
use Rattle.auction_core.specs.NotShown.{NotShown, not_shown}
use Rattle.transcript_check.specs.Sound.{transcript_record}
use Rattle.commands.specs.declared.messages.fault.TranscriptFault.{TranscriptFault}
use Rattle.commands.specs.declared.messages.fault.TranscriptFault.TheVariants.{Unread, Unshown}
use Rattle.commands.specs.declared.inputs.Inputs.{Inputs}

-- The record if every step verifies, else the fault of the first step that doesn't.
abbrev pub shown_or : Option NotShown → Record → Result Record TranscriptFault
shown_or None rec = Ok rec
shown_or (Some first) rec = Err (Unshown first.step first.why)

-- The record that a transcript shows, or its first fault: an error of its reader, or its first step that doesn't verify.
abbrev pub record_by : Inputs → Result Transcript TextErr → Result Record TranscriptFault
record_by inputs (Err why) = Err (Unread why)
record_by inputs (Ok t) = shown_or (not_shown inputs.scenario inputs.book t) (transcript_record inputs.scenario inputs.book t)

-- The record that this transcript's text shows, if the text can be read and each of its steps verifies. Otherwise its first
-- fault.
unfoldable pub verified : Inputs → List ℕ → Result Record TranscriptFault
verified inputs text = record_by inputs (transcript_of inputs.scenario inputs.book text)

-- If the book's channels are those of a file, a transcript can name every number of the scenario and the book.
abbrev pub CanBeNamed : Inputs → Type 0
CanBeNamed inputs = HasFileChannels inputs.book → IsNamed inputs.scenario inputs.book

-- ---- The line of a fault

-- The end of the line: why a step doesn't verify.
unfoldable pub why_text : ShownWhy → List ℕ
why_text Order = codes ": order\n"
why_text (NotValid place) = codes ": not valid\n"

-- What the line says of a text that is no transcript, after the name of its file.
unfoldable pub unread_text : TextErr → List ℕ
unread_text Version = codes ": version\n"
unread_text (BadLine n) = codes ": line " ++ (decimal n ++ codes ": bad line\n")
unread_text Truncated = codes ": truncated\n"
unread_text NoMemory = codes ": out of memory\n"

-- What the line says of an invalid transcript, after the name of its file.
unfoldable pub fault_text : TranscriptFault → List ℕ
fault_text (Unread why) = unread_text why
fault_text (Unshown step why) = codes ": step " ++ (decimal step ++ why_text why)

-- The line of a transcript's fault.
abbrev pub fault_line : List ℕ → TranscriptFault → List ℕ
fault_line name fault = name ++ fault_text fault
