-- The promises of each command follow from how it ends.
use Rattle.std.proofs.Common.{◌≡◌, ℕ, inr, List, refl, Some, None}
use Rattle.commands.specs.declared.finish.Finish.{Finish}
use Rattle.commands.specs.BatchEnds.BatchEnds.{BatchOutOfMemory}
use Rattle.commands.specs.Ends.{EndsOutOfMemory}
use Rattle.commands.specs.Ends.CheckEnds.{CheckOutOfMemory}
use Rattle.commands.specs.Ends.ImportEnds.{ImportOutOfMemory}
use Rattle.commands.specs.Ends.MakeEnds.{MakeOutOfMemory}
use Rattle.commands.specs.Ends.RunEnds.{RunOutOfMemory}
use Rattle.commands.specs.Ends.SeekEnds.{SeekOutOfMemory}
use Rattle.commands.specs.Ends.VerifyEnds.{VerifyOutOfMemory}
use Rattle.commands.specs.Messages.{memory_line}
use Rattle.commands.specs.Outside.{Outside}
use Rattle.commands.specs.Records.{run_order}
use Rattle.commands.specs.ResumeEnds.ResumeEnds.{ResumeOutOfMemory}
use Rattle.commands.specs.Views.ViewEnds.{ViewOutOfMemory}
use Rattle.auction_cmd.specs.Program.{CommandEnds, CommandPromises, Declines, HasBatchAlone}
use Rattle.command_words.specs.Words.{Command, run, check, verify, show, resume, seek, batch, make, export, import, command_of, repeated_by}
use Rattle.command_words.proofs.NumberLemmas.{import-valued, resume-valued}
use Rattle.commands.proofs.OutputNames.{own-names, own-resumed}
use Rattle.commands.proofs.RunLemmas.{run-verifiable}
use Rattle.commands.proofs.SeekLemmas.{seek-promises}
use Rattle.auction_cmd.proofs.BatchLemmas.{batch-promises}
use Rattle.auction_cmd.proofs.CheckLemmas.{check-promises}
use Rattle.auction_cmd.proofs.ImportLemmas.{import-promises}
use Rattle.auction_cmd.proofs.MakeEndLemmas.{reached}
use Rattle.auction_cmd.proofs.MakeLemmas.{make-promises}
use Rattle.auction_cmd.proofs.ResumeLemmas.{resume-promises}
use Rattle.auction_cmd.proofs.RunPromiseLemmas.{run-promises}
use Rattle.auction_cmd.proofs.ShowLemmas.{export-promises, show-promises}
use Rattle.auction_cmd.proofs.VerifyLemmas.{verify-promises}

module _ (before after : Outside) (finish : Finish) where
  pub command-promises : (asked : Command) → repeated_by asked ≡ None → CommandEnds asked before after finish → CommandPromises asked before after finish
  command-promises (run names) once (end, others) = (run-promises run_order names before after finish.status finish.result end (inr (own-names names once)), run-verifiable run_order names before after finish.status finish.result end, others)
  command-promises (check names) once (end, others) = (check-promises names before after finish.status finish.result end, others)
  command-promises (verify names) once (end, others) = (verify-promises names before after finish.status finish.result end, others)
  command-promises (show names) once (end, none) = (show-promises names before after finish.status once end, none)
  command-promises (resume names) once (valued, end, others) =
      (resume-promises names before after finish.status finish.result end (inr (own-resumed names once)) (λ some. valued), others)
  command-promises (seek names) once (end, none) = (seek-promises names before after finish.status finish.result finish.below end, none)
  command-promises (batch names) once (end, alone) = (batch-promises names before after finish.status finish.batch end, alone)
  command-promises (make names) once (end, others) =
      (make-promises names before after finish.status finish.result (reached names before after finish.status finish.result end once), others)
  command-promises (export names) once (end, none) = (export-promises names before after finish.status end, none)
  command-promises (import names) once (valued, end, others) =
      (import-promises names before after finish.status finish.result end (inr once) (λ zero. valued), others)

  -- ---- memory ran out before the command was known

  abbrev starved : finish.status ≡ 8 → Declines before after finish memory_line → EndsOutOfMemory before after finish.status finish.result
  starved eight d = record { status_is = eight; found_is = d.none.none; line = d.line; files = d.files }

  abbrev starved-view : finish.status ≡ 8 → Declines before after finish memory_line → EndsOutOfMemory before after finish.status None
  starved-view eight d = record { status_is = eight; found_is = refl; line = d.line; files = d.files }

  abbrev batch-alone : Declines before after finish memory_line → HasBatchAlone finish
  batch-alone d = record { none = d.none.none; below = d.none.others.below }

  pub starved-ends : (words : List (List ℕ)) (asked : Command) → command_of words ≡ Some asked → finish.status ≡ 8 → Declines before after finish memory_line → CommandEnds asked before after finish
  starved-ends words (run names) is eight d = (RunOutOfMemory (starved eight d), d.none.others)
  starved-ends words (check names) is eight d = (CheckOutOfMemory (starved eight d), d.none.others)
  starved-ends words (verify names) is eight d = (VerifyOutOfMemory (starved eight d), d.none.others)
  starved-ends words (show names) is eight d = (ViewOutOfMemory (starved-view eight d), d.none)
  starved-ends words (resume names) is eight d = (resume-valued words names is, ResumeOutOfMemory (starved eight d), d.none.others)
  starved-ends words (seek names) is eight d = (SeekOutOfMemory (starved eight d) d.none.others.below, d.none.others.batch)
  starved-ends words (batch names) is eight d = (BatchOutOfMemory (starved-view eight d) d.none.others.batch, batch-alone d)
  starved-ends words (make names) is eight d = (MakeOutOfMemory (starved eight d), d.none.others)
  starved-ends words (export names) is eight d = (ViewOutOfMemory (starved-view eight d), d.none)
  starved-ends words (import names) is eight d = (import-valued words names is, ImportOutOfMemory (starved eight d), d.none.others)
