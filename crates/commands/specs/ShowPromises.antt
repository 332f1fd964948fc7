-- What `show` promises, clause by clause.
use Rattle.std.specs.Prelude.{Contains, ◌≡◌, ◌≢◌, ℕ, List, [], ◌∷◌, Some, None}
use Rattle.pack_defs.specs.ClockRule.{FrozenAt}
use Rattle.pack_defs.specs.Threshold.{IsThresholdPrice}
use Rattle.outside_io.specs.Files.{StoredFile}
use Rattle.commands.specs.Outside.{Outside}
use Rattle.commands.specs.Records.{outcome}
use Rattle.commands.specs.Statuses.{DONE, NOT_SETTLED}
use Rattle.commands.specs.VerifyPromises.{IsSoundTranscript}
use Rattle.commands.specs.ViewPromises.{ViewPromises}
use Rattle.commands.specs.Views.{show_answer}
use Rattle.command_words.specs.Words.{ShowNames}

-- What `show` promises, by its status.
pub record ShowPromises (names : ShowNames) (before after : Outside) (status : ℕ) : Type 0 where
  -- It is a view that stores the result and the channels of the transcript's record, and prints its summary.
  pub view : ViewPromises names.shown (names.result ∷ names.channels ∷ []) (show_answer names) before after status
  -- The status is not 10, since nothing that the words name is lacking.
  pub never_lacking : status ≢ NOT_SETTLED
  -- At status 0 over modelled files without an owners' file, each bought station is paid its threshold price. This is the greatest
  -- admissible value with which it would have been bought, by the rule in the transcript's order.
  pub paid : (files : List StoredFile) (s : IsSoundTranscript files names.shown) (f : FrozenAt) → before.files ≡ Some files →
      names.shown.inputs.owners ≡ None → status ≡ DONE → Contains (outcome s.rec.order s.inputs []).frozen f →
      IsThresholdPrice s.inputs.scenario s.inputs.book s.rec.order f.station f.price
