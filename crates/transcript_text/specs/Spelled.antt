-- The transcripts that a text can spell: their numbers, counts, stations, channels and workers fit the lines that
-- name them.
use Rattle.std.specs.Prelude.{ℕ, ◌+◌, ◌<◌, ◌≤◌, ◌^◌, ◌≡◌, true, List, [], ◌∷◌, length, Option, Some, None}
use Rattle.std.specs.List.{AllByRecursion}
use Rattle.pack_defs.specs.Limits.{GREATEST_CHANNEL, LEAST_CHANNEL}
use Rattle.pack_defs.specs.declared.scenario.Scenario.{Scenario}
use Rattle.pack_defs.specs.Scenario.{facilities}
use Rattle.pack_defs.specs.Book.{BookView}
use Rattle.pack_defs.specs.Lists.{is_in}
use Rattle.rup_check.specs.declared.line.Line.{Line}
use Rattle.cert_types.specs.declared.answer.Receipt.{Receipt}
use Rattle.cert_types.specs.declared.answer.Receipt.TheVariants.{Lines, Moves}
use Rattle.cert_types.specs.declared.answer.Refutation.{Refutation}
use Rattle.cert_types.specs.declared.answer.Refutation.TheVariants.{Proof, Dead}
use Rattle.auction_core.specs.declared.record.Shown.{Shown}
use Rattle.auction_core.specs.declared.record.Shown.TheVariants.{Empty, Fits, Same, NoChannel, Refuted, Outside, Undecided}
use Rattle.lrat_text.specs.Write.{greatest, IsLitSpelled}
use Rattle.auction_core.specs.declared.transcript.Transcript.{Transcript}
use Rattle.auction_core.specs.declared.transcript.TranscriptStep.{TranscriptStep}
use Rattle.auction_core.specs.LogNumbers.{clauses_in}
use Rattle.transcript_text.specs.Fields.{greatest_u32, most_counted, is_above}

-- Whether this is a station of the scenario that a line can name.
abbrev pub IsStation : Scenario → ℕ → Type 0
IsStation sc s = (is_in (facilities sc) s ≡ true) × (s ≤ greatest_u32)

-- Whether this is a channel, 14 to 51.
abbrev pub IsChannel : ℕ → Type 0
IsChannel c = (LEAST_CHANNEL ≤ c) × (c ≤ GREATEST_CHANNEL)

-- Whether this is a worker of the scenario that a line can name.
abbrev pub IsWorker : Scenario → ℕ → Type 0
IsWorker sc w = (w < length sc.workers) × (w ≤ greatest_u32)

-- Whether this is an entry: a station of the scenario, and a channel.
abbrev pub IsEntry : Scenario → ℕ × ℕ → Type 0
IsEntry sc x = IsStation sc x.0 × IsChannel x.1

-- Whether these are entries that ascend by station from above this one.
abbrev pub AreEntries : Scenario → Option ℕ → List (ℕ × ℕ) → Type 0
AreEntries sc above [] = Unit {0}
AreEntries sc above (x ∷ xs) = (IsEntry sc x × (is_above above x.0 ≡ true)) × AreEntries sc (Some x.0) xs

-- Whether these are stations that ascend from above this one.
abbrev pub AreStations : Scenario → Option ℕ → List ℕ → Type 0
AreStations sc above [] = Unit {0}
AreStations sc above (s ∷ ss) = (IsStation sc s × (is_above above s ≡ true)) × AreStations sc (Some s) ss

-- Whether a line can name this hint.
abbrev pub IsHint : ℕ → Type 0
IsHint h = (1 ≤ h) × (h ≤ greatest)

-- Whether these are lines of a log that is numbered from this number on.
abbrev pub AreLines : ℕ → List Line → Type 0
AreLines number [] = Unit {0}
AreLines number (line ∷ lines) =
    ((number ≤ greatest) × AllByRecursion IsLitSpelled line.lits × AllByRecursion IsHint line.hints) × AreLines (number + 1) lines

-- Whether these are the lines of a log whose first line has this number; 0 if it has no line.
abbrev pub IsLog : ℕ → List Line → Type 0
IsLog first [] = first ≡ 0
IsLog first (line ∷ lines) = AreLines first (line ∷ lines)

-- Whether this is a receipt whose log's first line has this number.
abbrev pub IsReceipt : Scenario → Receipt → ℕ → Type 0
IsReceipt sc (Lines log) first = (length log.lines ≤ most_counted) × IsLog first log.lines
IsReceipt sc (Moves moves) first = (length moves ≤ most_counted) × AllByRecursion (IsEntry sc) moves × (first ≡ 0)

-- Whether these are receipts, each with the number of its log's first line.
abbrev pub AreReceiptsSpelled : Scenario → List Receipt → List ℕ → Type 0
AreReceiptsSpelled sc [] [] = Unit {0}
AreReceiptsSpelled sc [] (n ∷ ns) = ⊥
AreReceiptsSpelled sc (x ∷ xs) [] = ⊥
AreReceiptsSpelled sc (x ∷ xs) (n ∷ ns) = IsReceipt sc x n × AreReceiptsSpelled sc xs ns

-- Whether a text can spell this refutation.
abbrev pub IsRefutation : Scenario → BookView → Refutation → Type 0
IsRefutation sc book (Proof subset log) =
    (length log.lines ≤ most_counted) × AreStations sc None subset × AreLines (clauses_in book subset + 1) log.lines
IsRefutation sc book (Dead p) = (IsStation sc p.f × IsChannel p.a) × (IsStation sc p.g × IsChannel p.b)

-- Whether the list has one number, which is that of the log's first line.
abbrev pub IsOneLog : List ℕ → List Line → Type 0
IsOneLog [] lines = ⊥
IsOneLog (first ∷ []) lines = IsLog first lines
IsOneLog (first ∷ second ∷ more) lines = ⊥

-- Whether a text can spell how a step of this station was settled, with the numbers of its logs.
abbrev pub IsShownSpelled : Scenario → BookView → ℕ → Shown → List ℕ → Type 0
IsShownSpelled sc book station Empty firsts = ⊥
IsShownSpelled sc book station (Fits delta) firsts = (length delta ≤ most_counted) × AreEntries sc None delta × (firsts ≡ [])
IsShownSpelled sc book station Same firsts = firsts ≡ []
IsShownSpelled sc book station (NoChannel s) firsts = (s ≡ station) × (firsts ≡ [])
IsShownSpelled sc book station (Refuted w how) firsts = IsWorker sc w × IsRefutation sc book how × (firsts ≡ [])
IsShownSpelled sc book station (Outside proof) firsts = (length proof.log.lines ≤ most_counted) × IsOneLog firsts proof.log.lines
IsShownSpelled sc book station (Undecided xs) firsts = (length xs ≡ length sc.workers) × AreReceiptsSpelled sc xs firsts

-- Whether a text can spell this step.
pub record IsStepSpelled (sc : Scenario) (book : BookView) (x : TranscriptStep) : Type 0 where
  pub round : x.step.round ≤ greatest_u32
  pub station : IsStation sc x.step.station
  pub shown : IsShownSpelled sc book x.step.station x.step.shown x.firsts

-- Whether a text can spell this start.
abbrev pub IsStartSpelled : Scenario → Shown → Type 0
IsStartSpelled sc Empty = Unit {0}
IsStartSpelled sc (Fits delta) = (length delta ≤ most_counted) × AreEntries sc None delta
IsStartSpelled sc Same = ⊥
IsStartSpelled sc (NoChannel s) = ⊥
IsStartSpelled sc (Refuted w how) = ⊥
IsStartSpelled sc (Outside proof) = ⊥
IsStartSpelled sc (Undecided xs) = ⊥

-- Whether the transcript can be written.
pub record IsSpelled (sc : Scenario) (book : BookView) (t : Transcript) : Type 0 where
  pub start : IsStartSpelled sc t.start
  pub steps : AllByRecursion (IsStepSpelled sc book) t.steps
  pub count : length t.steps < 2 ^ 64
  pub workers : length sc.workers < 2 ^ 32
