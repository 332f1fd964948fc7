-- What a run writes, `verify` accepts.
use Rattle.std.specs.Prelude.{◌≡◌, List, Option, Some, Ok}
use Rattle.outside_io.specs.Files.{StoredFile}
use Rattle.auction_core.specs.declared.record.Ending.TheVariants.{Done}
use Rattle.auction_core.specs.declared.record.Record.{Record}
use Rattle.transcript_text.specs.Spelling.{transcript_text}
use Rattle.commands.specs.declared.inputs.Inputs.{Inputs}
use Rattle.commands.specs.Inputs.{inputs_of}
use Rattle.commands.specs.Outside.{Outside}
use Rattle.commands.specs.Verified.{verified}
use Rattle.command_words.specs.Words.{InputNames}

-- Over modelled files: if the record is of a completed auction, verifying its transcript beside the inputs returns the record.
pub record IsVerifiable (names : InputNames) (before : Outside) (found : Option Record) : Type 0 where
  pub verifiable : (files : List StoredFile) (inputs : Inputs) (rec : Record) → before.files ≡ Some files → inputs_of files names ≡ Ok inputs →
      found ≡ Some rec → rec.ending ≡ Done → verified inputs (transcript_text inputs.scenario inputs.book rec) ≡ Ok rec
