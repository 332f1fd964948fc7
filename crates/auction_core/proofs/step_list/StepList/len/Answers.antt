-- There is a step for each line.
use Rattle.std.proofs.Common.{◌∙◌, length, sym, ap}
use Rattle.auction_core.specs.StepList.{StepListView}
use Rattle.auction_core.proofs.StepLines.{length-merged}
use Rattle.auction_core.proofs.step_list.StepList.len.Goals as goal

pub returns : goal.returns
returns c =
    let own = c.self.inside in
    c.len.ensures ∙ (own.lines.ok.0 ∙ (sym (length-merged own.lines.items own.told.items) ∙ ap (λ (v : StepListView). length v.steps) c.self.view_is))
