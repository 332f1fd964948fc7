use Rattle.std.proofs.Common.{ap, ◌∙◌}
use Rattle.outside_io.specs.Files.{with_file}
use Rattle.outside_io.specs.Memory.{FolderView}
use Rattle.outside_io.proofs.FileLaws.{Puts-with_file}
use Rattle.outside_io.proofs.memory_folder.MemoryFolderFolder.store.Goals as goal

pub returns-in-Ok-clause-modelled : goal.returns-in-Ok-clause-modelled
returns-in-Ok-clause-modelled c =
    let name = c.args.name.now in
    let bytes = c.args.bytes.now in
    rw (c.stored-in-Ok.ensures.same, c.in-Ok.ensures.ok ∙ ap (λ (v : FolderView). with_file v.files name bytes) c.self.view_is)
    (Puts-with_file c.args.self.now.files name bytes)
