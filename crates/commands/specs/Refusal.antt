-- The line that says which input is rejected, and why.
use Rattle.std.specs.Prelude.{ℕ, ◌==◌, if◌then◌else◌, List, ◌++◌, codes, decimal}
use Rattle.constraint_files.specs.declared.error.RowWhy.{RowWhy}
use Rattle.constraint_files.specs.declared.error.RowWhy.TheVariants.{ShortRow, BadKey, BadNumber, ChannelRange, BadOffset, SecondDomain, TooMany}
use Rattle.scenario_json.specs.declared.error.ScenarioErr.{ScenarioErr}
use Rattle.scenario_json.specs.declared.error.ScenarioErr.TheVariants.{Syntax, MissingField, WrongKind, OutOfLimit, RepeatedStation, SumOverOpening, NoProver, NoMemory}
use Rattle.scenario_json.specs.declared.name.Name.{Name}
use Rattle.scenario_json.specs.Name.{name_text}
use Rattle.command_words.specs.declared.run_words.Input.{Input}
use Rattle.command_words.specs.declared.run_words.Input.TheVariants.{Domains, Scenario as ScenarioFile, Owners as OwnersFile, List as ListFile}
use Rattle.commands.specs.declared.messages.refusal.Refusal.{Refusal}
use Rattle.commands.specs.declared.messages.refusal.Refusal.TheVariants.{TooLong, Row, Scenario, MissingDomain, Owners, BadLine, EmptyList}
use Rattle.owner_line.specs.declared.error.OwnerWhy.{OwnerWhy}
use Rattle.owner_line.specs.declared.error.OwnerWhy.TheVariants as owner
use Rattle.command_words.specs.Words.{InputNames, name_of}

-- The file that is rejected.
abbrev pub input_of : Refusal → Input
input_of (TooLong input) = input
input_of (Row input line why) = input
input_of (Scenario error) = ScenarioFile
input_of (MissingDomain s) = Domains
input_of (Owners line why) = OwnersFile
input_of (BadLine line) = ListFile
input_of EmptyList = ListFile

-- The words for why a record is rejected.
unfoldable pub row_text : RowWhy → List ℕ
row_text ShortRow = codes "short row"
row_text BadKey = codes "unknown key"
row_text BadNumber = codes "bad number"
row_text ChannelRange = codes "channel out of range"
row_text BadOffset = codes "channels do not fit the key"
row_text SecondDomain = codes "second domain row"
row_text TooMany = codes "too many"

-- The words for why an owner's line is rejected.
unfoldable pub owner_text : OwnerWhy → List ℕ
owner_text owner.Fields = codes "not three fields"
owner_text owner.BadNumber = codes "bad number"
owner_text owner.RoundRange = codes "round out of range"
owner_text owner.UnknownStation = codes "unknown station"
owner_text owner.BadWord = codes "bad word"
owner_text owner.Repeated = codes "repeated"

-- The place in a list, if there is one, and the end of the line.
abbrev pub place_text : ℕ → List ℕ
place_text at = if at == 0 then codes "\n" else codes " at " ++ decimal at ++ codes "\n"

-- A member of the scenario, its place in a list if it has one, and the end of the line.
abbrev pub member_text : Name → ℕ → List ℕ
member_text name at = name_text name ++ place_text at

-- What the line says of a rejected scenario, after the name of its file.
unfoldable pub scenario_text : ScenarioErr → List ℕ
scenario_text Syntax = codes ": not JSON\n"
scenario_text (MissingField name at) = codes ": missing " ++ member_text name at
scenario_text (WrongKind name at) = codes ": wrong kind " ++ member_text name at
scenario_text (OutOfLimit name at) = codes ": out of limit " ++ member_text name at
scenario_text (RepeatedStation s) = codes ": repeated station " ++ decimal s ++ codes "\n"
scenario_text SumOverOpening = codes ": decrements exceed the opening\n"
scenario_text NoProver = codes ": no cdcl worker\n"
scenario_text NoMemory = codes ": out of memory\n"

-- What the line says of a rejected input, after the name of its file.
unfoldable pub refusal_text : Refusal → List ℕ
refusal_text (TooLong input) = codes ": too long\n"
refusal_text (Row input line why) = codes ": line " ++ decimal line ++ codes ": " ++ row_text why ++ codes "\n"
refusal_text (Scenario error) = scenario_text error
refusal_text (MissingDomain s) = codes ": no domain row for station " ++ decimal s ++ codes "\n"
refusal_text (Owners line why) = codes ": line " ++ decimal line ++ codes ": " ++ owner_text why ++ codes "\n"
refusal_text (BadLine line) = codes ": line " ++ decimal line ++ codes ": " ++ codes "bad list" ++ codes "\n"
refusal_text EmptyList = codes ": empty list\n"

-- The line for a rejected input, with the file's name.
abbrev pub refusal_line : InputNames → Refusal → List ℕ
refusal_line names refusal = name_of names (input_of refusal) ++ refusal_text refusal
