use Rattle.std.proofs.Common.{◌≡◌, ◌∙◌, ◌++◌, Err, subst, arith, length}
use Rattle.std.proofs.lemmas.Bool.Decides.{nat_tests}
use Rattle.std.proofs.lemmas.Result.{err_from_is_err_and}
use Rattle.constraint_files.specs.Domains.{domains_fed, domains_of}
use Rattle.constraint_files.proofs.PieceLaws.{domains-refused}
use Rattle.commands.specs.Inputs.{refused_by, rows_read}
use Rattle.commands.specs.Constraints.{IsFed}
use Rattle.command_words.specs.declared.run_words.Input.TheVariants.{Domains}
use Rattle.commands.proofs.FeedLemmas.{feed-step, feed-end, feed-fails, feed-refused}
use Rattle.commands.proofs.CallLemmas.{pieces-fail, rows-stop}
use Rattle.commands.proofs.inputs.constraints.feed_domains.Goals as goal

pub returns-in_err-next_piece-clause-modelled : goal.returns-in_err-next_piece-clause-modelled
returns-in_err-next_piece-clause-modelled g c =
    let p = err_from_is_err_and c.from_residual.result c.from_residual.ensures.1 in
    rw (← c.loop-piece.invariant.steady, p.1, p.2)
    (feed-fails domains_fed (λ bytes. rows_read Domains (domains_of bytes)) (g.F.Folder.left c.args.folder.now) (g.F.Folder.left c.loop-piece.folder) (g.F.Folder.left c.next_piece.new.folder) c.next_piece.new.piece.items c.args.reader c.loop-piece.reader
    (g.F.Folder.modelled c.loop-piece.folder).steady c.in_err-next_piece.field-0.0 c.loop-piece.invariant.modelled c.in_err-next_piece.ensures.modelled)

pub returns-then-is_empty-clause-modelled : goal.returns-then-is_empty-clause-modelled
returns-then-is_empty-clause-modelled g c =
    let none : length c.next_piece.new.piece.items ≡ 0 = grind (arith, nat_tests, c.next_piece.new.piece.ok.0, c.is_empty.ensures, c.if-is_empty.true) in
    feed-end domains_fed (g.F.Folder.left c.args.folder.now) (g.F.Folder.left c.loop-piece.folder) (g.F.Folder.left c.next_piece.new.folder) c.next_piece.new.piece.items c.args.reader c.loop-piece.reader c.loop-piece.invariant.modelled c.in_ok-next_piece.ensures.modelled none

pub loop-piece-preserved : goal.loop-piece-preserved
loop-piece-preserved g c = record {
  modelled = feed-step domains_fed (g.F.Folder.left c.args.folder.now) (g.F.Folder.left c.loop-piece.folder) (g.F.Folder.left c.next_piece.new.folder) c.deref.result.now c.args.reader c.loop-piece.reader c.in-Ok.fed c.loop-piece.invariant.modelled
      (λ rest e. (c.deref.ensures.value ∙ (c.in_ok-next_piece.ensures.modelled rest e).0, (c.in_ok-next_piece.ensures.modelled rest e).1)) c.in-Ok.ensures;
  files = c.next_piece.ensures.files ∙ c.loop-piece.invariant.files;
  steady = c.next_piece.ensures.steady ∙ c.loop-piece.invariant.steady;
  faults_unchanged = c.in_ok-next_piece.ensures.counted.rises ∙ c.loop-piece.invariant.faults_unchanged;
  calls = c.in_ok-next_piece.ensures.called ∙ c.loop-piece.invariant.calls;
}

pub returns-in-Err-clause-modelled : goal.returns-in-Err-clause-modelled
returns-in-Err-clause-modelled g c =
    λ done rest e f.
    rw c.refused_by.ensures
    (subst (λ s. IsFed s (domains_fed (done ++ rest)) (rows_read Domains (domains_of (done ++ rest))) (Err (refused_by Domains c.in-Err.why))) c.loop-piece.invariant.steady
    (feed-refused domains_fed domains_of Domains (g.F.Folder.left c.args.folder.now) (g.F.Folder.left c.loop-piece.folder) (g.F.Folder.left c.next_piece.new.folder) c.deref.result.now c.args.reader c.loop-piece.reader
    (g.F.Folder.modelled c.loop-piece.folder).steady c.in-Err.why domains-refused c.loop-piece.invariant.modelled
    (λ rest e. (c.deref.ensures.value ∙ (c.in_ok-next_piece.ensures.modelled rest e).0, (c.in_ok-next_piece.ensures.modelled rest e).1)) c.in-Err.ensures done rest e f))

pub returns-then-is_empty-clause-ended : goal.returns-then-is_empty-clause-ended
returns-then-is_empty-clause-ended g c =
    c.in_ok-next_piece.ensures.ended (grind (arith, nat_tests, c.next_piece.new.piece.ok.0, c.is_empty.ensures, c.if-is_empty.true))

pub returns-in_err-next_piece-clause-called : goal.returns-in_err-next_piece-clause-called
returns-in_err-next_piece-clause-called g c =
    let p = err_from_is_err_and c.from_residual.result c.from_residual.ensures.1 in
    rw (p.1, p.2)
    (pieces-fail Domains c.in_err-next_piece.field-0.0 _ _ _ c.loop-piece.invariant.calls c.in_err-next_piece.ensures.called)

pub returns-in-Err-clause-called : goal.returns-in-Err-clause-called
returns-in-Err-clause-called g c = rw c.refused_by.ensures (rows-stop Domains c.in-Err.why _ _ (c.in_ok-next_piece.ensures.called ∙ c.loop-piece.invariant.calls))
