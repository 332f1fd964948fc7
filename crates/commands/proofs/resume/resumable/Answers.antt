-- Each ending, from the results of the steps.
use Rattle.std.proofs.Common.{◌∙◌}
use Rattle.command_words.specs.Words.{resume_view}
use Rattle.commands.proofs.ResumeEndLemmas.{not-begun, prefix-unloaded}
use Rattle.commands.proofs.resume.resumable.Goals as goal

pub returns-in-Err-read_text-clause-ends : goal.returns-in-Err-read_text-clause-ends
returns-in-Err-read_text-clause-ends g c =
    rw c.without_record-in-Err-read_text.ensures.status
    (prefix-unloaded (resume_view c.args.files.now) _ _ _ _ c.in-Ok.inputs c.in-Err-read_text.why _ _ _ (g.F.Folder.come c.read_text.new.folder) c.in-Ok.ensures.modelled c.in-Ok.ensures.files c.in-Ok.ensures.steady c.in-Ok.ensures.counted.kept
    c.in-Err-read_text.ensures.read c.print_unloaded.ensures c.without_record-in-Err-read_text.ensures.none (c.in-Err-read_text.ensures.files ∙ c.in-Ok.ensures.files))

pub returns-in-Ok-begun-clause-resumable : goal.returns-in-Ok-begun-clause-resumable
returns-in-Ok-begun-clause-resumable g c =
    let (text, read, so_many, is) = c.in-Ok-read_text.ensures.read in
    let (kept, sound, behind) = c.in-Ok-begun.ensures text read in
    record {
      accepted = c.in-Ok.ensures.modelled;
      named = c.keeps_named_numbers.ensures;
      text = text;
      held = λ files at. is files (c.in-Ok.ensures.files ∙ at);
      kept = kept;
      sound = sound;
      behind = behind;
    }

pub returns-in-Err-begun-clause-ends : goal.returns-in-Err-begun-clause-ends
returns-in-Err-begun-clause-ends g c =
    let (text, read, so_many, is) = c.in-Ok-read_text.ensures.read in
    rw c.without_record-in-Err-begun.ensures.status
    (not-begun (resume_view c.args.files.now) _ _ _ _ c.in-Ok.inputs text c.in-Err-begun.why c.in-Ok.ensures.modelled c.keeps_named_numbers.ensures
    (λ files at. is files (c.in-Ok.ensures.files ∙ at))
    (c.in-Err-begun.ensures text read) c.print_record_err.ensures c.without_record-in-Err-begun.ensures.none (c.in-Ok-read_text.ensures.files ∙ c.in-Ok.ensures.files))
