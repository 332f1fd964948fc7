-- How each command ends, and what the words say of it.
use Rattle.command_words.specs.Words.{import_view, make_view, resume_view}
use Rattle.command_words.proofs.NumberLemmas.{command-sized, import-valued, resume-valued}
use Rattle.commands.specs.Calls.{input_calls}
use Rattle.command_words.specs.Words.{inputs_view}
use Rattle.auction_cmd.proofs.DiaryLemmas.{run-diary}
use Rattle.auction_cmd.proofs.auction.carry_out.Goals as goal

pub make-requires-clause-some : goal.make-requires-clause-some
make-requires-clause-some g c κs within =
    let sized = command-sized c.requires.0 (make_view c.in-Make.files) (rw c.in-Make.is at c.requires.1) in
    sized.0

pub make-requires-clause-most : goal.make-requires-clause-most
make-requires-clause-most g c κs within =
    let sized = command-sized c.requires.0 (make_view c.in-Make.files) (rw c.in-Make.is at c.requires.1) in
    sized.1

pub returns-in-Run-clause-ends : goal.returns-in-Run-clause-ends
returns-in-Run-clause-ends g c = rw c.in-Run.is (c.run.ensures.ends, record { below = c.run.ensures.no_other; batch = c.run.ensures.no_batch })

pub returns-in-Check-clause-ends : goal.returns-in-Check-clause-ends
returns-in-Check-clause-ends g c = rw c.in-Check.is (c.check.ensures.ends, record { below = c.check.ensures.no_other; batch = c.check.ensures.no_batch })

pub returns-in-Verify-clause-ends : goal.returns-in-Verify-clause-ends
returns-in-Verify-clause-ends g c = rw c.in-Verify.is (c.verify.ensures.ends, record { below = c.verify.ensures.no_other; batch = c.verify.ensures.no_batch })

pub returns-in-Show-clause-ends : goal.returns-in-Show-clause-ends
returns-in-Show-clause-ends g c =
    rw c.in-Show.is (c.run_view.ensures.ends, record { none = c.run_view.ensures.none; others = record { below = c.run_view.ensures.no_other; batch = c.run_view.ensures.no_batch } })

pub returns-in-Resume-clause-ends : goal.returns-in-Resume-clause-ends
returns-in-Resume-clause-ends g c =
    rw c.in-Resume.is (
      resume-valued c.requires.0 (resume_view c.in-Resume.files) (rw c.in-Resume.is at c.requires.1),
      c.resume.ensures.ends,
      record { below = c.resume.ensures.no_other; batch = c.resume.ensures.no_batch },
    )

pub returns-in-Seek-clause-ends : goal.returns-in-Seek-clause-ends
returns-in-Seek-clause-ends g c = rw c.in-Seek.is (c.seek.ensures.ends, c.seek.ensures.no_batch)

pub returns-in-Batch-clause-ends : goal.returns-in-Batch-clause-ends
returns-in-Batch-clause-ends g c = rw c.in-Batch.is (c.batch.ensures.ends, record { none = c.batch.ensures.none; below = c.batch.ensures.no_other })

pub returns-in-Make-clause-ends : goal.returns-in-Make-clause-ends
returns-in-Make-clause-ends g c = rw c.in-Make.is (c.make.ensures.ends, record { below = c.make.ensures.no_other; batch = c.make.ensures.no_batch })

pub returns-in-Export-clause-ends : goal.returns-in-Export-clause-ends
returns-in-Export-clause-ends g c =
    let view = c.run_view-in-Export.ensures in
    rw c.in-Export.is (view.ends, record { none = view.none; others = record { below = view.no_other; batch = view.no_batch } })

pub returns-in-Import-clause-ends : goal.returns-in-Import-clause-ends
returns-in-Import-clause-ends g c =
    rw c.in-Import.is (
      import-valued c.requires.0 (import_view c.in-Import.files) (rw c.in-Import.is at c.requires.1),
      c.import.ensures.ends,
      record { below = c.import.ensures.no_other; batch = c.import.ensures.no_batch },
    )

pub returns-in-Run-clause-called : goal.returns-in-Run-clause-called
returns-in-Run-clause-called g c = rw c.in-Run.is (λ kept. run-diary (input_calls (inputs_view c.in-Run.files.inputs)) _ _ _ _ _ _ (c.run.ensures.called kept))

pub returns-in-Check-clause-called : goal.returns-in-Check-clause-called
returns-in-Check-clause-called g c = rw c.in-Check.is tt

pub returns-in-Verify-clause-called : goal.returns-in-Verify-clause-called
returns-in-Verify-clause-called g c = rw c.in-Verify.is tt

pub returns-in-Show-clause-called : goal.returns-in-Show-clause-called
returns-in-Show-clause-called g c = rw c.in-Show.is tt

pub returns-in-Resume-clause-called : goal.returns-in-Resume-clause-called
returns-in-Resume-clause-called g c = rw c.in-Resume.is tt

pub returns-in-Seek-clause-called : goal.returns-in-Seek-clause-called
returns-in-Seek-clause-called g c = rw c.in-Seek.is tt

pub returns-in-Batch-clause-called : goal.returns-in-Batch-clause-called
returns-in-Batch-clause-called g c = rw c.in-Batch.is tt

pub returns-in-Make-clause-called : goal.returns-in-Make-clause-called
returns-in-Make-clause-called g c = rw c.in-Make.is tt

pub returns-in-Export-clause-called : goal.returns-in-Export-clause-called
returns-in-Export-clause-called g c = rw c.in-Export.is tt

pub returns-in-Import-clause-called : goal.returns-in-Import-clause-called
returns-in-Import-clause-called g c = rw c.in-Import.is tt
