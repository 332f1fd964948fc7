use Rattle.std.proofs.Common.{◌∙◌, ◌++◌, List, ℕ, ap}
use Rattle.transcript_text.proofs.Cuts.{kept-lines}
use Rattle.transcript_text.proofs.pieces.kept_of.Goals as goal

pub returns : goal.returns
returns c =
    kept-lines c.args.text.now c.whole_part.result.now c.args.behind.now c.extend_from_slice-2.new.self.items c.whole_part.ensures.whole c.whole_part.ensures.lines
    (c.in_ok-extend_from_slice-2.ensures.items ∙ ap (λ (front : List ℕ). front ++ c.args.behind.now) (c.in_ok-extend_from_slice.ensures.items ∙ ap (λ (front : List ℕ). front ++ c.whole_part.result.now) c.new-kept.ensures.items))
