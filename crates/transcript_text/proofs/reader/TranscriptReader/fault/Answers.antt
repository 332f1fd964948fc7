use Rattle.std.proofs.Common.{◌∙◌, ap, subst, sym}
use Rattle.pack_defs.specs.declared.scenario.Scenario.{Scenario}
use Rattle.pack_defs.specs.Book.{BookView}
use Rattle.lrat_text.specs.Lines.{ended_lines}
use Rattle.transcript_text.specs.declared.error.TextErr.TheVariants.{BadLine}
use Rattle.transcript_text.specs.Pieces.{IsFaulty, ReadSoFar}
use Rattle.transcript_text.proofs.Fed.{behind-faulty, refused-faulty}
use Rattle.transcript_text.proofs.reader.TranscriptReader.fault.Goals as goal

pub returns-in-Refused : goal.returns-in-Refused
returns-in-Refused c = λ sc book. refused-faulty sc book c.args.self.now c.in-Refused.why (sym (ap (λ (read : ReadSoFar). read.stage) c.self.view_is) ∙ c.in-Refused.is)

pub returns-in-Some : goal.returns-in-Some
returns-in-Some c =
    subst (λ (read : ReadSoFar). (sc : Scenario) (book : BookView) → IsFaulty sc book read (BadLine c.self.inside.number)) c.self.view_is
    (λ sc book.
    behind-faulty sc book (record { stage = c.self.inside.stage; number = c.self.inside.number; left = c.self.inside.left.items }) c.in-Whole.field-0 _ _ c.in-Whole.is
    (sym (ap ended_lines c.deref.ensures.value) ∙ c.in-Some.ensures.lines))
