use Rattle.std.proofs.Common.{ap}
use Rattle.outside_io.specs.Files.{StoredFile}
use Rattle.outside_io.proofs.FileLaws.{with_file-place, with_file-push}
use Rattle.outside_io.proofs.memory_folder.put.Goals as goal

pub returns-in_ok-files-in-Some-clause-ok : goal.returns-in_ok-files-in-Some-clause-ok
returns-in_ok-files-in-Some-clause-ok c =
    let place = rw c.deref.ensures.value at c.in-Some.ensures.found in
    let kept = ap (λ (x : StoredFile). x.name) c.behind-files.view_is in
    with_file-place c.args.files.now.items c.in-Some.at c.index_mut.result.now _ c.args.name.now c.args.bytes.now place c.index_mut.ensures.value kept c.in_ok-files-in-Some.ensures.items

pub returns-in_ok-push-in-None-clause-ok : goal.returns-in_ok-push-in-None-clause-ok
returns-in_ok-push-in-None-clause-ok c =
    let absent = rw c.deref.ensures.value at c.in-None.ensures.absent in
    let new = c.in_ok-new-in-None in
    with_file-push c.args.files.now.items c.push.new.self.items new.field-0 c.args.name.now c.args.bytes.now absent new.ensures.name new.ensures.bytes c.in_ok-push-in-None.ensures.items
