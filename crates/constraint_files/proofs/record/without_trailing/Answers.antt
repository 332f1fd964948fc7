use Rattle.std.proofs.Common.{◌∙◌, arith, sym}
use Rattle.constraint_files.specs.Records.{is_blank}
use Rattle.constraint_files.proofs.FieldLemmas.{trailing-next, trailing-none, trailing-stop}
use Rattle.constraint_files.proofs.record.without_trailing.Goals as goal
use Rattle.constraint_files.proofs.record.without_trailing.Goals.{then-loop-end-test+else-is_blank, else-loop-end-test}

pub loop-end-preserved : goal.loop-end-preserved
loop-end-preserved c =
    let loop = c.loop-end in
    let passes = sym c.is_blank.ensures ∙ c.if-is_blank.true in
    record {
      fits = omega arith;
      kept = loop.invariant.kept ∙ trailing-next is_blank c.args.field.now loop.end 0 (omega arith) loop.invariant.fits passes;
    }

pub returns : goal.returns
returns c =
    let loop = c.loop-end in
    elim c.loop-end-test.branch [
      | then-loop-end-test+else-is_blank w ↦
          let stays = sym w.is_blank.ensures ∙ w.if-is_blank.false in
          sym (loop.invariant.kept ∙ trailing-stop is_blank c.args.field.now loop.end 0 (omega arith) loop.invariant.fits stays)
      | else-loop-end-test w ↦ sym (loop.invariant.kept ∙ trailing-none is_blank c.args.field.now loop.end (omega arith))
    ]
