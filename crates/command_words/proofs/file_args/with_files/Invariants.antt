-- Adding the remaining arguments to the command so far gives the same as adding all to the first command.
use Rattle.std.proofs.Common.{◌≡◌, drop, false, map}
use Rattle.clap.specs.Words.{app_of}
use Rattle.clap.specs.declared.builder.command.Command.TheViews.{out-Command}
use Rattle.command_words.specs.Words.{with_required}
use Rattle.command_words.proofs.file_args.with_files.Given as goal

abbrev pub invariant-loop-file : goal.invariant-loop-file
invariant-loop-file l = record {
  app : with_required (app_of l.command) (map (λ f. f.id.now) (drop l.file-index l.files)) ≡ with_required (app_of l.fn.command) (map (λ f. f.id.now) l.files);
  local : (out-Command l.command).has_globals ≡ false;
}
