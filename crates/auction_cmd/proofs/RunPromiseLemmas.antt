-- The promises of a run, in any order, follow from how it ends.
use Rattle.std.proofs.Common.{◌≡◌, ℕ, List, [], ◌∷◌, refl, Option, Some}
use Rattle.pack_defs.specs.declared.order.Order.{Order}
use Rattle.outside_io.specs.Files.{StoredFile}
use Rattle.auction_core.specs.declared.record.Record.{Record}
use Rattle.commands.specs.Ends.{RunEnds}
use Rattle.commands.specs.Outside.{Outside}
use Rattle.commands.specs.RunPromises.{RunPromises, ModelledRun}
use Rattle.command_words.specs.Words.{RunNames}
use Rattle.commands.proofs.Halts.{reads-inputs}
use Rattle.commands.proofs.Statuses.{within}
use Rattle.auction_cmd.proofs.LiveLemmas.{run-live, run-unsaid}
use Rattle.commands.proofs.RunLemmas.{run-backed, run-decided, run-done, run-ended, run-others, run-part, run-recorded, run-statuses, run-stored, run-summed, run-surely, run-unrecorded, run-untouched, run-unwritten, IsOnce}
use Rattle.commands.proofs.StartLemmas.{run-complete, run-memory, run-nobody, run-open, run-opened, run-reading, run-refuted, run-unfit, run-unfits, run-unread}

told-run : (order : Order) (files : List StoredFile) (names : RunNames) (before after : Outside) (status : ℕ) (found : Option Record) → RunEnds order names before after status found → IsOnce names found → before.files ≡ Some files → ModelledRun order files names before after status found
told-run order files names before after status found end once modelled = record {
  done = λ h. run-done order names before after status found files end once modelled h;
  decided = λ zero. run-decided order names before after status found files end once modelled zero;
  unfit = λ six. run-unfit order names before after status found files end modelled six;
  unfits = λ inputs held unfit. run-unfits order names before after status found files inputs end modelled held unfit;
  left_open = λ seven. run-open order names before after status found files end modelled seven;
  nobody = λ inputs held none. run-nobody order names before after status found files inputs end modelled held none;
  stored = λ four. run-stored order names before after status found files end once modelled four;
  part_stored = λ eight some. run-part order names before after status found files end once modelled eight some;
  surely_written = λ steady room. run-surely order names before after status found files end modelled steady room;
  others = run-others order names before after status found files end once modelled;
  complete = λ inputs held fit. run-complete order names before after status found files inputs end modelled held fit;
  live = λ owners named some. run-live before after status found files order names owners end modelled named some;
  without_owners = λ none. run-unsaid before after status found files order names end modelled none;
}

pub run-promises : (order : Order) (names : RunNames) (before after : Outside) (status : ℕ) (found : Option Record) → RunEnds order names before after status found → IsOnce names found → RunPromises order names before after status found
run-promises order names before after status found end once = record {
  statuses = run-statuses order names before after status found end;
  unfit_untouched = λ h. run-ended order names before after status found end h;
  inputs = reads-inputs names.inputs before after status (run-reading order names before after status found end);
  failures = record {
    unread = λ three. run-unread order names before after status found end three;
    unwritten = λ four. run-unwritten order names before after status found end four;
    memory = λ eight. run-memory order names before after status found end eight;
  };
  keeps = record {
    backed = run-backed order names before after status found end;
    unrecorded = λ h. run-unrecorded order names before after status found end (within (3 ∷ 5 ∷ 9 ∷ 10 ∷ []) (2 ∷ 3 ∷ 5 ∷ 9 ∷ 10 ∷ []) status refl h);
    untouched = λ none. run-untouched order names before after status found end none;
  };
  modelled = λ files modelled. told-run order files names before after status found end once modelled;
  summed = λ h. run-summed order names before after status found end h;
  recorded = λ h. run-recorded order names before after status found end h;
  refuted_recorded = λ six. run-refuted order names before after status found end six;
  open_recorded = λ seven. run-opened order names before after status found end seven;
}
