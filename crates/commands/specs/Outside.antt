-- What the program touches, before and after: the folder and the sink.
use Rattle.std.specs.Prelude.{ℕ, Bool, List, Option}
use Rattle.outside_io.specs.Files.{StoredFile}
use Rattle.outside_io.specs.Models.{FolderModel, SinkModel}
use Rattle.commands.specs.Messages.{PrintsText}

-- The folder: its files if the model includes them (they are modelled), its fault count, and whether it is steady. A steady
-- folder fails only for a name that isn't there. The sink: its bytes if the model includes them, its fault count `sink_faults`, and how
-- many more bytes it guarantees to take.
pub record Outside : Type 0 where
  pub files : Option (List StoredFile)
  pub faults : ℕ
  pub steady : Bool
  pub held : Option (List ℕ)
  pub sink_faults : ℕ
  pub sure : ℕ

-- The outside that consists of this folder and this sink.
abbrev pub outside : FolderModel → SinkModel → Outside
outside folder sink = record {
  files = folder.files;
  faults = folder.faults;
  steady = folder.steady;
  held = sink.held;
  sink_faults = sink.faults;
  sure = sink.sure;
}

-- Between these two moments the sink took the text, or only its first bytes, maybe none, if its fault count rose. Nothing is said
-- of a sink that is not modelled.
abbrev pub IsLinePrinted : Outside → Outside → List ℕ → Type 0
IsLinePrinted before after text = PrintsText before.held after.held before.sink_faults after.sink_faults text

-- This sink took the text, or some of it from the first byte on if its fault count rose.
abbrev pub IsLinePrintedTo : SinkModel → SinkModel → List ℕ → Type 0
IsLinePrintedTo before after text = PrintsText before.held after.held before.faults after.faults text
