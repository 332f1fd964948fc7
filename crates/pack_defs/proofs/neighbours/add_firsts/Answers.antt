use Rattle.pack_defs.proofs.NeighbourLemmas.{also-next, also-none}
use Rattle.pack_defs.proofs.neighbours.add_firsts.Goals as goal

pub loop-p-init : goal.loop-p-init
loop-p-init c = also-none c.args.near.now.items c.requires

pub loop-p-preserved : goal.loop-p-preserved
loop-p-preserved c =
    also-next (λ p. p.f) c.args.pairs.now c.loop-p.p-index _ c.args.near.now.items c.loop-p.near.items c.put.new.near.items c.loop-p-test.true c.loop-p.invariant c.in_ok-put.ensures
