-- The least top channel up to which the start set fits: what is asked of each top, and what is found.
use Rattle.std.specs.Prelude.{◌≡◌, ◌≤◌, ◌<◌, ◌&&◌, ◌==◌, ◌++◌, ◌-◌, ℕ, All, Bool, true, false, List, map, Option, None, Ok, Result, IsFalse, MatchOption, codes, if◌then◌else◌}
use Rattle.std.specs.List.{list_any}
use Rattle.outside_io.specs.Files.{StoredFile}
use Rattle.pack_defs.specs.Limits.{GREATEST_CHANNEL, LEAST_CHANNEL}
use Rattle.pack_defs.specs.Scenario.{IsWithinLimits, facilities}
use Rattle.scenario_json.specs.Join.{first_missing}
use Rattle.scenario_json.specs.StartOnly.{start_only}
use Rattle.auction_core.specs.declared.record.Ending.{Ending}
use Rattle.auction_core.specs.declared.record.Ending.TheVariants.{Done, StartRefuted, StartUndecided}
use Rattle.auction_core.specs.declared.record.Record.{Record}
use Rattle.result_text.specs.ResultText.{count_line}
use Rattle.target_seek.specs.declared.top_test.TopAnswer.{TopAnswer}
use Rattle.target_seek.specs.declared.top_test.TopAnswer.TheVariants.{Fits, Unfit, Open}
use Rattle.target_seek.specs.TopChannels.{AskedTop, SeekBase, book_at, fits_at}
use Rattle.commands.specs.declared.inputs.Inputs.{Inputs}
use Rattle.commands.specs.declared.inputs.input_file.Stop.{Stop}
use Rattle.commands.specs.declared.inputs.sources.Sources.{Sources}
use Rattle.commands.specs.declared.top_channel_runs.TopRecord.{TopRecord}
use Rattle.commands.specs.declared.top_channel_runs.LeastTop.{LeastTop}
use Rattle.commands.specs.declared.top_channel_runs.FoundTop.{FoundTop}
use Rattle.commands.specs.declared.top_channel_runs.FoundTop.TheVariants.{NoneFits, LastOpen, Found}
use Rattle.commands.specs.Inputs.{and_then, inputs_by, sources_of}
use Rattle.commands.specs.Records.{IsOpenRecordOf, IsRecordBy, IsRecordOf, IsRefutedRecordOf}
use Rattle.commands.specs.Statuses.{DONE, LEFT_OPEN}
use Rattle.command_words.specs.Words.{InputNames}

-- ---- What is read

-- The scenario, the domains and the pairs: all that the start set and whether it fits depend on, apart from the top channel.
abbrev pub base_of : Sources → SeekBase
base_of s = record { scenario = s.scenario; domains = s.domains; pairs = s.pairs.list }

-- These sources, if each station of the scenario has a domain row.
abbrev pub joinable : Sources → Result Sources Stop
joinable s = and_then (inputs_by s) (λ inputs. Ok s)

-- What the files of these names hold, or the first error. A station without a domain row is an error.
abbrev pub seekable_of : List StoredFile → InputNames → Result Sources Stop
seekable_of files names = and_then (sources_of files names) joinable

-- The scenario is within the limits, and each of its stations has a domain row.
pub record IsSeekable (base : SeekBase) : Type 0 where
  pub limits : IsWithinLimits base.scenario
  pub whole : first_missing (facilities base.scenario) base.domains ≡ None

-- ---- What is asked of a top

-- The inputs of the auction of the start set alone up to this top channel, in which no price falls. Its start test asks whether
-- the set fits. The counts of the rows file don't matter to it.
abbrev pub inputs_at : SeekBase → ℕ → Inputs
inputs_at base top = record { scenario = start_only base.scenario top; book = book_at base top; self_pairs = 0; strangers = 0 }

-- What an auction of the start set alone says of it, by the auction's ending.
abbrev pub answer_of : Ending → TopAnswer
answer_of Done = Fits
answer_of StartRefuted = Unfit
answer_of StartUndecided = Open

-- The ending of an auction of the start set alone with this answer.
abbrev pub ending_by : TopAnswer → Ending
ending_by Fits = Done
ending_by Unfit = StartRefuted
ending_by Open = StartUndecided

-- The record is of the auction of the start set alone up to a top channel from 14 to 51.
pub record IsTopRecord (base : SeekBase) (x : TopRecord) : Type 0 where
  pub least : LEAST_CHANNEL ≤ x.top
  pub most : x.top ≤ GREATEST_CHANNEL
  pub auction : IsRecordBy (inputs_at base x.top) x.rec x.rec.ending

-- The top channels of these records, with their answers.
abbrev pub asked_of : List TopRecord → List AskedTop
asked_of xs = map (λ (x : TopRecord). record { top = x.top; answer = answer_of x.rec.ending }) xs

-- What was read, and the records of the top channels asked about so far.
pub record TopRecordsView : Type 0 where
  pub base : SeekBase
  pub kept : List TopRecord

-- The base is within the limits and has a domain row for each station. Each record is of the auction up to its own top channel.
pub record AreTopRecords (base : SeekBase) (xs : List TopRecord) : Type 0 where
  pub seekable : IsSeekable base
  pub each : All (IsTopRecord base) xs

-- The two answers are equal.
abbrev pub same_answer : TopAnswer → TopAnswer → Bool
same_answer Fits Fits = true
same_answer Fits Unfit = false
same_answer Fits Open = false
same_answer Unfit Fits = false
same_answer Unfit Unfit = true
same_answer Unfit Open = false
same_answer Open Fits = false
same_answer Open Unfit = false
same_answer Open Open = true

-- The record is of this top channel and has this answer.
abbrev pub has_top_answer : ℕ → TopAnswer → TopRecord → Bool
has_top_answer top answer x = (x.top == top) && same_answer (answer_of x.rec.ending) answer

-- If a record was picked, it is of this top channel and has this answer. If none was picked, the records left have one exactly if
-- all of them have one.
abbrev pub Picks : SeekBase → List TopRecord → List TopRecord → ℕ → TopAnswer → Option Record → Type 0
Picks base all left top answer picked =
    MatchOption picked (list_any (has_top_answer top answer) left ≡ list_any (has_top_answer top answer) all)
    (λ rec. IsRecordBy (inputs_at base top) rec (ending_by answer))

-- ---- What is found

-- The record of the auction up to one channel less. If that test is undecided, the top is above 14 and the record's start is
-- undecided. Otherwise the record's start is refuted, and there is no record exactly if the top is 14.
abbrev pub IsOneBelow : SeekBase → ℕ → Bool → Option Record → Type 0
IsOneBelow base top false below = MatchOption below (top ≡ LEAST_CHANNEL) (λ rec. (LEAST_CHANNEL < top) × IsRefutedRecordOf (inputs_at base (top - 1)) rec)
IsOneBelow base top true below = MatchOption below ⊥ (λ rec. (LEAST_CHANNEL < top) × IsOpenRecordOf (inputs_at base (top - 1)) rec)

-- The start set fits up to this top channel, which is from 14 to the scenario's own. Either it fits up to no smaller channel from
-- 14 on, or its test up to one channel less is undecided.
pub record IsLeastTop (base : SeekBase) (x : LeastTop) : Type 0 where
  pub least : LEAST_CHANNEL ≤ x.top
  pub most : x.top ≤ base.scenario.top
  -- The first record is of the completed auction up to the top, and the second is as `IsOneBelow` says.
  pub auction : IsRecordOf (inputs_at base x.top) x.rec
  pub lower : IsOneBelow base x.top x.is_open x.below
  pub none_less : IsFalse x.is_open → (less : ℕ) → LEAST_CHANNEL ≤ less → less < x.top → IsFalse (fits_at base less)

-- The search's result: the start set doesn't fit up to the scenario's own top, that test is undecided, or a least top was found.
abbrev pub IsFoundTop : SeekBase → FoundTop → Type 0
IsFoundTop base (NoneFits rec) = IsRefutedRecordOf (inputs_at base base.scenario.top) rec
IsFoundTop base (LastOpen rec) = IsOpenRecordOf (inputs_at base base.scenario.top) rec
IsFoundTop base (Found x) = IsLeastTop base x

-- What is printed: the top channel, and then the channel below it if its test is undecided.
abbrev pub top_text : ℕ → Bool → List ℕ
top_text top false = count_line (codes "top") top
top_text top true = count_line (codes "top") top ++ count_line (codes "undecided") (top - 1)

-- The status: 1 if the test of one channel less is undecided, else 0.
abbrev pub top_status : Bool → ℕ
top_status is_open = if is_open then LEFT_OPEN else DONE
