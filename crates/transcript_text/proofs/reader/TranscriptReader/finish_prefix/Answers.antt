use Rattle.std.proofs.Common.{subst, sym}
use Rattle.transcript_text.specs.Pieces.{HasRead}
use Rattle.transcript_text.proofs.Fed.{opening-there, refused-not-there, steps-are-there, whole-there}
use Rattle.transcript_text.proofs.reader.TranscriptReader.finish_prefix.Goals as goal

pub returns-in-Opening : goal.returns-in-Opening
returns-in-Opening c = λ bytes h.
    opening-there c.args.sc.now c.args.book.now bytes c.deref.result.now (record { stage = c.self.inside.stage; number = c.self.inside.number; left = c.self.inside.left.items }) c.read_prefix.result
    (subst (HasRead c.args.sc.now c.args.book.now bytes) (sym c.self.view_is) h) c.in-Opening.is c.deref.ensures.value c.read_prefix.ensures

pub returns-in-Steps : goal.returns-in-Steps
returns-in-Steps c = λ bytes h.
    steps-are-there c.args.sc.now c.args.book.now bytes (record { stage = c.self.inside.stage; number = c.self.inside.number; left = c.self.inside.left.items }) c.in-Steps.begun c.in_ok-lines_from-in-Steps.field-0 c.deref-in-Steps.result.now c.prefix_steps.result
    (subst (HasRead c.args.sc.now c.args.book.now bytes) (sym c.self.view_is) h) c.in-Steps.is c.in_ok-lines_from-in-Steps.ensures c.deref-in-Steps.ensures.value c.prefix_steps.ensures

pub returns-in-Whole : goal.returns-in-Whole
returns-in-Whole c = λ bytes h.
    whole-there c.args.sc.now c.args.book.now bytes (record { stage = c.self.inside.stage; number = c.self.inside.number; left = c.self.inside.left.items }) c.in-Whole.begun c.in_ok-rest-in-Whole.rest c.deref-in-Whole.result.now c.prefix_on_error.result
    (subst (HasRead c.args.sc.now c.args.book.now bytes) (sym c.self.view_is) h) c.in-Whole.is c.in_ok-rest-in-Whole.ensures c.deref-in-Whole.ensures.value c.prefix_on_error.ensures

pub returns-in-Refused : goal.returns-in-Refused
returns-in-Refused c = λ bytes h.
    refused-not-there c.args.sc.now c.args.book.now bytes (record { stage = c.self.inside.stage; number = c.self.inside.number; left = c.self.inside.left.items }) c.in-Refused.why (subst (HasRead c.args.sc.now c.args.book.now bytes) (sym c.self.view_is) h) c.in-Refused.is
