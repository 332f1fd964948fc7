use Rattle.std.proofs.Common.{◌≡◌, ◌∙◌, ap, drop, length, List, ℕ, subst, sym, take}
use Rattle.transcript_text.specs.Pieces.{HasLinesOf, ReadSoFar, ReadersAgree}
use Rattle.transcript_text.proofs.Cuts.{to-the-end}
use Rattle.transcript_text.proofs.Fed.{reads-same}
use Rattle.transcript_text.proofs.reader.TranscriptReader.read_on.Goals as goal

pub returns : goal.returns
returns c =
    let old : ReadSoFar = record { stage = c.self.inside.stage; number = c.self.inside.number; left = c.self.inside.left.items } in
    let new : ReadSoFar = record { stage = c.in_ok-stage.stage; number = c.rest.inside.number; left = c.in_ok-kept.kept.items } in
    let part : List ℕ = c.whole_part-whole.result.now in
    subst (λ (read : ReadSoFar). ReadersAgree c.args.sc.now c.args.book.now read new) c.self.view_is
    (reads-same c.args.sc.now c.args.book.now old new c.in_ok-lines_from.field-0 c.in_ok-stage.rest part c.rest.inside.text.now
    (subst (λ (xs : List ℕ). part ≡ take (length part) xs) c.deref.ensures.value c.whole_part-whole.ensures.front) c.whole_part-whole.ensures.whole c.in_ok-lines_from.ensures c.in_ok-stage.ensures (sym c.rest.view_is)
    (subst (λ (xs : List ℕ). HasLinesOf c.rest.inside.text.now xs c.in_ok-kept.kept.items) (to-the-end (length part) c.deref-2.result.now ∙ ap (drop (length part)) c.deref-2.ensures.value) c.in_ok-kept.ensures))
