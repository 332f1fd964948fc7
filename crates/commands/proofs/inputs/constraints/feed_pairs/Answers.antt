use Rattle.std.proofs.Common.{◌≡◌, ◌∙◌, ◌++◌, Err, subst, arith, length}
use Rattle.std.proofs.lemmas.Bool.Decides.{nat_tests}
use Rattle.std.proofs.lemmas.Result.{err_from_is_err_and}
use Rattle.constraint_files.specs.PairTable.{pairs_fed, pairs_of}
use Rattle.constraint_files.proofs.PieceLaws.{pairs-refused}
use Rattle.commands.specs.Inputs.{refused_by, rows_read}
use Rattle.commands.specs.Constraints.{IsFed}
use Rattle.command_words.specs.declared.run_words.Input.TheVariants.{Rows}
use Rattle.commands.proofs.FeedLemmas.{feed-step, feed-end, feed-fails, feed-refused}
use Rattle.commands.proofs.CallLemmas.{pieces-fail, rows-stop}
use Rattle.commands.proofs.inputs.constraints.feed_pairs.Goals as goal

pub returns-in_err-next_piece-clause-modelled : goal.returns-in_err-next_piece-clause-modelled
returns-in_err-next_piece-clause-modelled g c =
    let p = err_from_is_err_and c.from_residual.result c.from_residual.ensures.1 in
    rw (← c.loop-piece.invariant.steady, p.1, p.2)
    (λ done rest domains e f. feed-fails (λ bytes. pairs_fed bytes domains) (λ bytes. rows_read Rows (pairs_of bytes domains)) (g.F.Folder.left c.args.folder.now) (g.F.Folder.left c.loop-piece.folder) (g.F.Folder.left c.next_piece.new.folder) c.next_piece.new.piece.items c.args.reader c.loop-piece.reader
    (g.F.Folder.modelled c.loop-piece.folder).steady c.in_err-next_piece.field-0.0 (c.loop-piece.invariant.modelled domains) c.in_err-next_piece.ensures.modelled done rest e f)

pub returns-then-is_empty-clause-modelled : goal.returns-then-is_empty-clause-modelled
returns-then-is_empty-clause-modelled g c =
    let none : length c.next_piece.new.piece.items ≡ 0 = grind (arith, nat_tests, c.next_piece.new.piece.ok.0, c.is_empty.ensures, c.if-is_empty.true) in
    λ done rest domains e f. feed-end (λ bytes. pairs_fed bytes domains) (g.F.Folder.left c.args.folder.now) (g.F.Folder.left c.loop-piece.folder) (g.F.Folder.left c.next_piece.new.folder) c.next_piece.new.piece.items c.args.reader c.loop-piece.reader (c.loop-piece.invariant.modelled domains) c.in_ok-next_piece.ensures.modelled none done rest e f

pub loop-piece-preserved : goal.loop-piece-preserved
loop-piece-preserved g c = record {
  modelled = λ domains. feed-step (λ bytes. pairs_fed bytes domains) (g.F.Folder.left c.args.folder.now) (g.F.Folder.left c.loop-piece.folder) (g.F.Folder.left c.next_piece.new.folder) c.deref.result.now c.args.reader c.loop-piece.reader c.in-Ok.fed (c.loop-piece.invariant.modelled domains)
      (λ rest e. (c.deref.ensures.value ∙ (c.in_ok-next_piece.ensures.modelled rest e).0, (c.in_ok-next_piece.ensures.modelled rest e).1)) (λ bytes had. c.in-Ok.ensures bytes domains had);
  files = c.next_piece.ensures.files ∙ c.loop-piece.invariant.files;
  steady = c.next_piece.ensures.steady ∙ c.loop-piece.invariant.steady;
  faults_unchanged = c.in_ok-next_piece.ensures.counted.rises ∙ c.loop-piece.invariant.faults_unchanged;
  calls = c.in_ok-next_piece.ensures.called ∙ c.loop-piece.invariant.calls;
}

pub returns-in-Err-clause-modelled : goal.returns-in-Err-clause-modelled
returns-in-Err-clause-modelled g c =
    λ done rest domains e f.
    rw c.refused_by.ensures
    (subst (λ s. IsFed s (pairs_fed (done ++ rest) domains) (rows_read Rows (pairs_of (done ++ rest) domains)) (Err (refused_by Rows c.in-Err.why))) c.loop-piece.invariant.steady
    (feed-refused (λ bytes. pairs_fed bytes domains) (λ bytes. pairs_of bytes domains) Rows (g.F.Folder.left c.args.folder.now) (g.F.Folder.left c.loop-piece.folder) (g.F.Folder.left c.next_piece.new.folder) c.deref.result.now c.args.reader c.loop-piece.reader
    (g.F.Folder.modelled c.loop-piece.folder).steady c.in-Err.why (λ xs ys why. pairs-refused xs ys domains why) (c.loop-piece.invariant.modelled domains)
    (λ rest e. (c.deref.ensures.value ∙ (c.in_ok-next_piece.ensures.modelled rest e).0, (c.in_ok-next_piece.ensures.modelled rest e).1)) (λ bytes had. c.in-Err.ensures bytes domains had) done rest e f))

pub returns-then-is_empty-clause-ended : goal.returns-then-is_empty-clause-ended
returns-then-is_empty-clause-ended g c =
    c.in_ok-next_piece.ensures.ended (grind (arith, nat_tests, c.next_piece.new.piece.ok.0, c.is_empty.ensures, c.if-is_empty.true))

pub returns-in_err-next_piece-clause-called : goal.returns-in_err-next_piece-clause-called
returns-in_err-next_piece-clause-called g c =
    let p = err_from_is_err_and c.from_residual.result c.from_residual.ensures.1 in
    rw (p.1, p.2)
    (pieces-fail Rows c.in_err-next_piece.field-0.0 _ _ _ c.loop-piece.invariant.calls c.in_err-next_piece.ensures.called)

pub returns-in-Err-clause-called : goal.returns-in-Err-clause-called
returns-in-Err-clause-called g c = rw c.refused_by.ensures (rows-stop Rows c.in-Err.why _ _ (c.in_ok-next_piece.ensures.called ∙ c.loop-piece.invariant.calls))
