-- The text of a transcript: lines of fields, with exactly one text for each transcript. The lines of logs are LRAT's
-- (Cruz-Filipe et al. 2017); the other lines are this project's own.
use Rattle.std.specs.Prelude.{ℕ, ◌+◌, List, [], ◌∷◌, ◌++◌, map, length, codes, decimal}
use Rattle.std.specs.List.{flat_map}
use Rattle.pack_defs.specs.Book.{BookView}
use Rattle.pack_defs.specs.ClockRule.{ClockState, after_answer, opening_state}
use Rattle.pack_defs.specs.declared.order.Order.{Order}
use Rattle.pack_defs.specs.declared.order.Order.TheVariants.{ByFacility, ByVolume}
use Rattle.pack_defs.specs.declared.scenario.Scenario.{Scenario}
use Rattle.rup_check.specs.declared.line.Line.{Line}
use Rattle.cert_types.specs.declared.answer.Receipt.{Receipt}
use Rattle.cert_types.specs.declared.answer.Receipt.TheVariants.{Lines, Moves}
use Rattle.cert_types.specs.declared.answer.Refutation.{Refutation}
use Rattle.cert_types.specs.declared.answer.Refutation.TheVariants.{Proof, Dead}
use Rattle.auction_core.specs.declared.record.Shown.{Shown}
use Rattle.auction_core.specs.declared.record.Shown.TheVariants.{Empty, Fits, Same, NoChannel, Refuted, Outside, Undecided}
use Rattle.auction_core.specs.declared.record.Step.{Step}
use Rattle.auction_core.specs.declared.record.Record.{Record}
use Rattle.auction_core.specs.LogNumbers.{clauses_in, firsts_of}
use Rattle.auction_core.specs.State.{shows_room, test_of, tested_set}
use Rattle.lrat_text.specs.Lines.{line_of}
use Rattle.lrat_text.specs.Write.{log_text}
use Rattle.auction_core.specs.declared.transcript.Transcript.{Transcript}
use Rattle.auction_core.specs.declared.transcript.TranscriptStep.{TranscriptStep}

-- The line of a station and its channel, after a word.
abbrev pub entry_text : List ℕ → ℕ × ℕ → List ℕ
entry_text word x = line_of (word ∷ decimal x.0 ∷ decimal x.1 ∷ [])

-- The lines of a map's entries.
abbrev pub at_lines : List (ℕ × ℕ) → List ℕ
at_lines entries = flat_map (entry_text (codes "at")) entries

-- The lines of the start. A transcript is of a finished auction, so its start set is empty or fits; other starts have
-- no text.
unfoldable pub start_text : Shown → List ℕ
start_text Empty = line_of (codes "start" ∷ codes "empty" ∷ [])
start_text (Fits delta) = line_of (codes "start" ∷ codes "fit" ∷ decimal (length delta) ∷ []) ++ at_lines delta
start_text Same = []
start_text (NoChannel s) = []
start_text (Refuted worker how) = []
start_text (Outside proof) = []
start_text (Undecided receipts) = []

-- A step's first line: its word, its round and station, and more fields.
abbrev pub head_line : List ℕ → ℕ → ℕ → List (List ℕ) → List ℕ
head_line word round station more = line_of (word ∷ decimal round ∷ decimal station ∷ more)

-- The lines of a worker's receipt, whose log's first line has this number.
unfoldable pub receipt_text : ℕ → Receipt → ℕ → List ℕ
receipt_text worker (Lines log) first =
    line_of (codes "lines" ∷ decimal worker ∷ decimal (length log.lines) ∷ []) ++ log_text first log.lines
receipt_text worker (Moves moves) first =
    line_of (codes "moves" ∷ decimal worker ∷ decimal (length moves) ∷ []) ++ flat_map (entry_text (codes "move")) moves

-- The lines of the receipts of the workers from this one on, each with the number of its log's first line.
unfoldable pub receipts_text : ℕ → List Receipt → List ℕ → List ℕ
receipts_text worker [] firsts = []
receipts_text worker (x ∷ xs) [] = []
receipts_text worker (x ∷ xs) (first ∷ firsts) = receipt_text worker x first ++ receipts_text (worker + 1) xs firsts

-- The lines of a worker's refutation of a test.
unfoldable pub refuted_text : BookView → ℕ → ℕ → ℕ → Refutation → List ℕ
refuted_text book round station worker (Proof subset log) =
    head_line (codes "log") round station (decimal worker ∷ decimal (length log.lines) ∷ [])
    ++ (line_of (codes "on" ∷ map decimal subset) ++ log_text (clauses_in book subset + 1) log.lines)
refuted_text book round station worker (Dead p) =
    head_line (codes "dead") round station (decimal worker ∷ decimal p.f ∷ decimal p.a ∷ decimal p.g ∷ decimal p.b ∷ [])

-- The lines of a proof from outside of a test; its first line has the number in the list.
unfoldable pub outside_text : ℕ → ℕ → List Line → List ℕ → List ℕ
outside_text round station lines [] = []
outside_text round station lines (first ∷ firsts) =
    head_line (codes "outside") round station (decimal (length lines) ∷ []) ++ log_text first lines

-- The lines of a step, by how it was settled.
unfoldable pub shown_text : BookView → ℕ → ℕ → Shown → List ℕ → List ℕ
shown_text book round station Empty firsts = []
shown_text book round station (Fits delta) firsts =
    head_line (codes "fit") round station (decimal (length delta) ∷ []) ++ at_lines delta
shown_text book round station Same firsts = head_line (codes "same") round station []
shown_text book round station (NoChannel s) firsts = head_line (codes "none") round station []
shown_text book round station (Refuted worker how) firsts = refuted_text book round station worker how
shown_text book round station (Outside proof) firsts = outside_text round station proof.log.lines firsts
shown_text book round station (Undecided receipts) firsts =
    head_line (codes "undecided") round station (decimal (length receipts) ∷ []) ++ receipts_text 0 receipts firsts

-- The lines of a transcript's step.
abbrev pub step_text : BookView → TranscriptStep → List ℕ
step_text book x = shown_text book x.step.round x.step.station x.step.shown x.firsts

-- The version that names an order of tests within a round.
abbrev pub version_field : Order → List ℕ
version_field ByFacility = codes "1"
version_field ByVolume = codes "2"

-- The first line.
unfoldable pub version_text : Order → List ℕ
version_text order = line_of (codes "transcript" ∷ version_field order ∷ [])

-- The last line, which counts the steps.
unfoldable pub end_text : ℕ → List ℕ
end_text steps = line_of (codes "end" ∷ decimal steps ∷ [])

-- The text of a transcript.
unfoldable pub spelling : BookView → Transcript → List ℕ
spelling book t =
    version_text t.order ++ (start_text t.start ++ (flat_map (step_text book) t.steps ++ end_text (length t.steps)))

-- ---- the transcript of a record

-- The step of a transcript, in this state of the clock.
abbrev pub transcript_step : Scenario → BookView → ClockState → Step → TranscriptStep
transcript_step sc book clock x =
    record { step = x; firsts = firsts_of (clauses_in book (tested_set sc book clock x.station)) x.shown }

-- The steps of a transcript, from this state of the clock on.
abbrev pub transcript_steps : Scenario → BookView → ClockState → List Step → List TranscriptStep
transcript_steps sc book clock [] = []
transcript_steps sc book clock (x ∷ xs) =
    transcript_step sc book clock x ∷ transcript_steps sc book (after_answer sc clock (test_of x) (shows_room x.shown)) xs

-- The transcript of a record.
unfoldable pub transcript_for : Scenario → BookView → Record → Transcript
transcript_for sc book rec =
    record { order = rec.order; start = rec.start; steps = transcript_steps sc book (opening_state sc) rec.steps }

-- The text of a record's transcript.
abbrev pub transcript_text : Scenario → BookView → Record → List ℕ
transcript_text sc book rec = spelling book (transcript_for sc book rec)
