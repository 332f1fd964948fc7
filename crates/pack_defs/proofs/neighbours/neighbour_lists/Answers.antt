use Rattle.std.proofs.Common.{◌∙◌, subst}
use Rattle.pack_defs.specs.declared.domain.Domain.{Domain}
use Rattle.pack_defs.specs.Neighbours.{IsListFor}
use Rattle.pack_defs.proofs.NeighbourLemmas.{lists-all, lists-next}
use Rattle.pack_defs.proofs.neighbours.neighbour_lists.Goals as goal

pub loop-domain-preserved : goal.loop-domain-preserved
loop-domain-preserved c = λ top.
    let own = subst (λ (d : Domain). IsListFor c.args.pairs.now d.station c.in_ok-neighbour_list.field-0) c.domain-item.is c.in_ok-neighbour_list.ensures in
    c.in_ok-push.ensures.items
    ∙ lists-next (record { top = top; domains = c.args.domains.now; pairs = c.args.pairs.now }) c.loop-domain.domain-index c.domain-item.result c.loop-domain.lists.items c.in_ok-neighbour_list.field-0 c.loop-domain-test.true c.requires.domains c.requires.within (c.loop-domain.invariant top) own

pub returns : goal.returns
returns c = λ top. lists-all (record { top = top; domains = c.args.domains.now; pairs = c.args.pairs.now }) c.loop-domain.domain-index c.loop-domain.lists.items c.loop-domain-test.false (c.loop-domain.invariant top)
