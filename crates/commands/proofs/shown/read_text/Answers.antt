-- The reader has read exactly the pieces.
use Rattle.std.proofs.Common.{◌≡◌, ◌∙◌, ◌++◌, arith, length, rules, subst}
use Rattle.std.proofs.lemmas.Bool.Decides.{nat_tests}
use Rattle.std.proofs.lemmas.Result.{err_from_is_err_and}
use Rattle.transcript_text.specs.Pieces.{HasRead}
use Rattle.commands.proofs.TextReading.{has-ended, reading-begins, reading-ends, reading-fails, reading-goes-on}
use Rattle.commands.proofs.shown.read_text.Goals as goal

pub loop-piece-init : goal.loop-piece-init
loop-piece-init g c = record {
  so_far = reading-begins c.args.inputs.now (g.F.Folder.modelled c.args.folder.now).files c.args.name.now (g.F.Folder.left c.begin.new.self) (g.F.Folder.come c.begin.new.self) c.new-reader.result c.in_ok-begin.field-0
      (c.new-reader.ensures c.args.inputs.now.scenario c.args.inputs.now.book) c.in_ok-begin.ensures.modelled c.begin.ensures.come;
  files = c.begin.ensures.files;
  steady = c.begin.ensures.steady;
  most = c.begin.ensures.most;
  kept = c.begin.ensures.counted;
  faults_unchanged = search rules;
}

pub loop-piece-preserved : goal.loop-piece-preserved
loop-piece-preserved g c = record {
  so_far = reading-goes-on c.args.inputs.now (g.F.Folder.modelled c.args.folder.now).files c.args.name.now (g.F.Folder.left c.loop-piece.folder) (g.F.Folder.left c.piece.new.self) (g.F.Folder.come c.loop-piece.folder) (g.F.Folder.come c.piece.new.self) c.piece.new.into.items c.loop-piece.reader c.in_ok-reader.reader c.in_ok-piece.field-0
      c.loop-piece.invariant.so_far c.in_ok-piece.ensures.modelled c.piece.ensures.come
      (λ bytes had. subst (λ p. HasRead c.args.inputs.now.scenario c.args.inputs.now.book (bytes ++ p) c.in_ok-reader.reader) c.deref.ensures.value (c.in_ok-reader.ensures bytes had));
  files = c.piece.ensures.files ∙ c.loop-piece.invariant.files;
  steady = c.piece.ensures.steady ∙ c.loop-piece.invariant.steady;
  most = c.piece.ensures.most ∙ c.loop-piece.invariant.most;
  kept = search rules;
  faults_unchanged = search rules;
}

pub returns-in_err-piece-clause-read : goal.returns-in_err-piece-clause-read
returns-in_err-piece-clause-read g c =
    let p = err_from_is_err_and c.from_residual-in_err-piece.result c.from_residual-in_err-piece.ensures.1 in
    rw (p.1, p.2)
    (reading-fails c.args.inputs.now (g.F.Folder.modelled c.args.folder.now).files c.args.name.now (g.F.Folder.left c.loop-piece.folder) (g.F.Folder.left c.piece.new.self) (g.F.Folder.come c.loop-piece.folder) c.piece.new.into.items c.loop-piece.reader (g.F.Folder.modelled c.args.folder.now).steady (g.F.Folder.modelled c.loop-piece.folder).steady
    (g.F.Folder.modelled c.args.folder.now).faults (g.F.Folder.modelled c.loop-piece.folder).faults (g.F.Folder.modelled c.piece.new.self).faults (g.F.Folder.come c.piece.new.self) c.in_err-piece.field-0.0 c.loop-piece.invariant.so_far
    c.in_err-piece.ensures.modelled c.loop-piece.invariant.kept c.in_err-piece.ensures.failed c.loop-piece.invariant.steady c.in_err-piece.ensures.steady_never_fails)

pub returns-then-is_empty-clause-read : goal.returns-then-is_empty-clause-read
returns-then-is_empty-clause-read g c =
    let none : length c.piece.new.into.items ≡ 0 = grind (arith, nat_tests, c.piece.new.into.ok.0, c.is_empty.ensures, c.if-is_empty.true) in
    reading-ends c.args.inputs.now (g.F.Folder.modelled c.args.folder.now).files c.args.name.now (g.F.Folder.left c.loop-piece.folder) (g.F.Folder.left c.piece.new.self) (g.F.Folder.come c.loop-piece.folder) (g.F.Folder.come c.piece.new.self) (g.F.Folder.most c.piece.new.self) c.piece.new.into.items c.loop-piece.reader c.in_ok-piece.field-0
    (g.F.Folder.modelled c.args.folder.now).steady (g.F.Folder.modelled c.args.folder.now).faults (g.F.Folder.modelled c.piece.new.self).faults c.loop-piece.invariant.so_far
    c.in_ok-piece.ensures.modelled none c.piece.ensures.come c.piece.ensures.within (c.piece.ensures.most ∙ c.loop-piece.invariant.most)

pub returns-then-is_empty-clause-ended : goal.returns-then-is_empty-clause-ended
returns-then-is_empty-clause-ended g c =
    let none : length c.piece.new.into.items ≡ 0 = grind (arith, nat_tests, c.piece.new.into.ok.0, c.is_empty.ensures, c.if-is_empty.true) in
    has-ended (g.F.Folder.left c.loop-piece.folder) (g.F.Folder.left c.piece.new.self) c.piece.new.into.items c.in_ok-piece.field-0 c.in_ok-piece.ensures.modelled none
