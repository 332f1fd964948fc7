use Rattle.std.proofs.Common.{◌∙◌, ℕ, List, [], map, subst}
use Rattle.pack_defs.specs.declared.pair.Pair.{Pair}
use Rattle.pack_defs.specs.Neighbours.{HasInserted}
use Rattle.pack_defs.proofs.NeighbourLemmas.{list-for}
use Rattle.pack_defs.proofs.neighbours.neighbour_list.Goals as goal

pub returns : goal.returns
returns c =
    let firsts : List ℕ = c.add_firsts.new.near.items in
    let near : List ℕ = c.add_seconds.new.near.items in
    let begun = subst (λ (xs : List ℕ). HasInserted xs (map (λ p. p.f) c.pairs_with_second.result.now) firsts) c.new-near.ensures.items c.in_ok-add_firsts.ensures in
    let one = subst (λ (ps : List Pair). HasInserted [] (map (λ p. p.f) ps) firsts) (c.pairs_with_second.ensures ∙ c.requires.by_second.same c.args.station) begun in
    let two = subst (λ (ps : List Pair). HasInserted firsts (map (λ p. p.g) ps) near) c.pairs_with_first.ensures c.in_ok-add_seconds.ensures in
    rw c.from_vec.ensures (list-for c.args.pairs.now c.args.station firsts near one two)
