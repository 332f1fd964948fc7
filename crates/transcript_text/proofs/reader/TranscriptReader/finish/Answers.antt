use Rattle.std.proofs.Common.{subst, sym}
use Rattle.transcript_text.specs.Pieces.{HasRead}
use Rattle.transcript_text.proofs.Fed.{opening-ends, refused-ends, steps-end-so, whole-ends}
use Rattle.transcript_text.proofs.reader.TranscriptReader.finish.Goals as goal

pub returns-in-Opening : goal.returns-in-Opening
returns-in-Opening c = λ bytes h.
    opening-ends c.args.sc.now c.args.book.now bytes c.deref.result.now (record { stage = c.self.inside.stage; number = c.self.inside.number; left = c.self.inside.left.items }) c.read_transcript.result
    (subst (HasRead c.args.sc.now c.args.book.now bytes) (sym c.self.view_is) h) c.in-Opening.is c.deref.ensures.value c.read_transcript.ensures

pub returns-in-Steps : goal.returns-in-Steps
returns-in-Steps c = λ bytes h.
    steps-end-so c.args.sc.now c.args.book.now bytes (record { stage = c.self.inside.stage; number = c.self.inside.number; left = c.self.inside.left.items }) c.in-Steps.begun c.is_whole.result c.in_ok-lines-in-Steps.lines c.deref-in-Steps.result.now c.deref-in-Steps-2.result.now c.continue_reading.result
    (subst (HasRead c.args.sc.now c.args.book.now bytes) (sym c.self.view_is) h) c.in-Steps.is c.in_ok-lines-in-Steps.ensures c.deref-in-Steps.ensures.value c.is_whole.ensures c.deref-in-Steps-2.ensures.value c.continue_reading.ensures

pub returns-in-Whole : goal.returns-in-Whole
returns-in-Whole c = λ bytes h.
    whole-ends c.args.sc.now c.args.book.now bytes (record { stage = c.self.inside.stage; number = c.self.inside.number; left = c.self.inside.left.items }) c.in-Whole.begun c.is_whole-in-Whole.result c.in_ok-rest-in-Whole.rest c.deref-in-Whole.result.now c.deref-in-Whole-2.result.now c.ended_on_error.result
    (subst (HasRead c.args.sc.now c.args.book.now bytes) (sym c.self.view_is) h) c.in-Whole.is c.in_ok-rest-in-Whole.ensures c.deref-in-Whole.ensures.value c.is_whole-in-Whole.ensures c.deref-in-Whole-2.ensures.value c.ended_on_error.ensures

pub returns-in-Refused : goal.returns-in-Refused
returns-in-Refused c = λ bytes h. refused-ends c.args.sc.now c.args.book.now bytes (record { stage = c.self.inside.stage; number = c.self.inside.number; left = c.self.inside.left.items }) c.in-Refused.why (subst (HasRead c.args.sc.now c.args.book.now bytes) (sym c.self.view_is) h) c.in-Refused.is
