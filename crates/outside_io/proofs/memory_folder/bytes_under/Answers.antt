use Rattle.std.proofs.Common.{List, ℕ, Some, ap, sym, ◌∙◌}
use Rattle.outside_io.specs.Files.{StoredFile}
use Rattle.outside_io.proofs.FileLaws.{bytes_of-place}
use Rattle.outside_io.proofs.memory_folder.bytes_under.Goals as goal

pub returns : goal.returns
returns c =
    let x = c.index-files-at.result in
    ap (λ (bytes : List ℕ). Some bytes) (c.deref.ensures.value ∙ ap (λ (f : StoredFile). f.bytes) c.file.view_is)
    ∙ sym (bytes_of-place c.args.files.now c.in_ok-at.at x c.args.name.now c.in_ok-at.ensures.found c.index-files-at.is)
