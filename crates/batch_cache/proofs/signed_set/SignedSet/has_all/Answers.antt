use Rattle.std.proofs.Common.{List, ℕ, ap, ◌∙◌}
use Rattle.batch_cache.specs.Walks.{has_all_sorted}
use Rattle.batch_cache.proofs.WalkLemmas.{told}
use Rattle.batch_cache.proofs.signed_set.SignedSet.has_all.Goals as goal

pub returns : goal.returns
returns c =
    c.has_all_sorted.ensures
    ∙ (ap (λ (zs : List ℕ). has_all_sorted zs c.deref-3.result.now) c.deref-2.ensures.value
    ∙ (ap (has_all_sorted c.self.inside.stations.items) c.deref-3.ensures.value
    ∙ told c.args.self.now c.args.others.now c.self.inside.stations.items c.others.inside.stations.items c.self.inside.ascends c.others.inside.ascends
    c.self.view_is c.others.view_is c.self.invariant.0 c.others.invariant.0 c.if-not-self.false c.if-not-others.false))
