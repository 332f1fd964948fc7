-- By the lemma on the components near a station.
use Rattle.std.proofs.Common.{◌∙◌, ◌==◌, if◌then◌else◌, ℕ, ap}
use Rattle.auction_core.proofs.LabelLemmas.{joined-is}
use Rattle.auction_core.proofs.component_labels.ComponentLabels.join.Goals as goal

pub returns-clause-labels : goal.returns-clause-labels
returns-clause-labels c z =
    c.put.ensures.labels z
    ∙ (ap (λ (f : ℕ → ℕ). if z == c.args.station then c.args.number else f z) c.merge_all.ensures.labels
    ∙ joined-is c.args.book.now c.args.self.now c.args.station c.args.number z c.neighbours.result.now c.neighbours.ensures.interfere)
