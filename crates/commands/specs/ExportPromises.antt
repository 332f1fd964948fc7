-- What `export` promises, clause by clause.
use Rattle.std.specs.Prelude.{◌≡◌, ◌≢◌, ℕ, true, [], ◌∷◌}
use Rattle.outside_io.specs.Faults.{HasRisen}
use Rattle.commands.specs.Messages.{unwritten_line}
use Rattle.commands.specs.Outside.{Outside, IsLinePrinted}
use Rattle.commands.specs.Statuses.{DONE, LEFT_OPEN, UNWRITTEN}
use Rattle.commands.specs.ViewPromises.{ViewPromises}
use Rattle.commands.specs.Views.{export_answer}
use Rattle.command_words.specs.Words.{ExportNames}

-- What `export` promises, by its status.
pub record ExportPromises (names : ExportNames) (before after : Outside) (status : ℕ) : Type 0 where
  -- It is a view that stores the packing formula of the stations that the step asked about.
  pub view : ViewPromises names.shown (names.formula ∷ []) (export_answer names) before after status
  -- The status is not 1, and at status 0 it prints nothing. At status 4 the folder is not steady, its fault count rose, and the line
  -- names the formula's file.
  pub never_open : status ≢ LEFT_OPEN
  pub silent : status ≡ DONE → after.held ≡ before.held
  pub unwritten : status ≡ UNWRITTEN → HasRisen before.faults after.faults × (before.steady ≢ true) × IsLinePrinted before after (unwritten_line names.formula)
