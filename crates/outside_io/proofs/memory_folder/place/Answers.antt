use Rattle.std.proofs.Common.{◌≡◌, false, ap, sym, ◌∙◌, arith}
use Rattle.std.specs.Str.{bytes_eq}
use Rattle.outside_io.specs.Files.{StoredFile}
use Rattle.outside_io.proofs.FileLaws.{bytes_of-take_more}
use Rattle.outside_io.proofs.memory_folder.place.Goals as goal

pub loop-i-preserved : goal.loop-i-preserved
loop-i-preserved c =
    let x = c.index-files-i.result in
    let name = c.args.name.now in
    let shown : x.name ≡ c.as_str.result.now = ap (λ (f : StoredFile). f.name) (sym c.file.view_is) ∙ sym c.as_str.ensures.value in
    let differs : bytes_eq x.name name ≡ false = ap (λ n. bytes_eq n name) shown ∙ sym c.eq.ensures ∙ c.if-eq.false in
    bytes_of-take_more c.args.files.now c.loop-i.i x name c.loop-i.invariant (omega arith) c.index-files-i.is differs
