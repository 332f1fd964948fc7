-- Each ending, from the results of the steps.
use Rattle.std.proofs.Common.{◌∙◌}
use Rattle.command_words.specs.Words.{verify_view}
use Rattle.commands.proofs.TranscriptLemmas.{denied-ends, unloaded-ends}
use Rattle.commands.proofs.shown.read_verified.Goals as goal

pub returns-in-Err-read_text-clause-ends : goal.returns-in-Err-read_text-clause-ends
returns-in-Err-read_text-clause-ends g c =
    rw c.without_record-in-Err-read_text.ensures.status
    (unloaded-ends (verify_view c.args.files.now) _ _ _ _ c.in-Ok.inputs c.in-Err-read_text.why _ _ _ (g.F.Folder.come c.read_text.new.folder) c.in-Ok.ensures.modelled c.in-Ok.ensures.files c.in-Ok.ensures.steady c.in-Ok.ensures.counted.kept
    c.in-Err-read_text.ensures.read c.print_unloaded.ensures c.without_record-in-Err-read_text.ensures.none (c.in-Err-read_text.ensures.files ∙ c.in-Ok.ensures.files))

pub returns-in-Ok-record_of-clause-shown : goal.returns-in-Ok-record_of-clause-shown
returns-in-Ok-record_of-clause-shown g c =
    let (text, read, so_many, is) = c.in-Ok-read_text.ensures.read in
    let (sound, own) = c.in-Ok-record_of.ensures text read in
    record {
      accepted = c.in-Ok.ensures.modelled;
      named = c.keeps_named_numbers.ensures;
      text = text;
      held = λ files at. is files (c.in-Ok.ensures.files ∙ at);
      sound = sound;
      own = own;
    }

pub returns-in-Err-record_of-clause-ends : goal.returns-in-Err-record_of-clause-ends
returns-in-Err-record_of-clause-ends g c =
    let (text, read, so_many, is) = c.in-Ok-read_text.ensures.read in
    rw c.without_record-in-Err-record_of.ensures.status
    (denied-ends (verify_view c.args.files.now) _ _ _ _ c.in-Ok.inputs text c.in-Err-record_of.why c.in-Ok.ensures.modelled c.keeps_named_numbers.ensures
    (λ files at. is files (c.in-Ok.ensures.files ∙ at))
    (c.in-Err-record_of.ensures text read) c.print_record_err.ensures c.without_record-in-Err-record_of.ensures.none (c.in-Ok-read_text.ensures.files ∙ c.in-Ok.ensures.files))
