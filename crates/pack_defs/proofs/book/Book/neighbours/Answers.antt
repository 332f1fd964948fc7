use Rattle.std.proofs.Common.{◌≡◌, ◌∙◌, ap, subst, sym}
use Rattle.pack_defs.specs.Book.{BookView, IsInOrder}
use Rattle.pack_defs.specs.Lists.{is_in}
use Rattle.pack_defs.specs.Neighbours.{lists_for}
use Rattle.pack_defs.proofs.NeighbourLemmas.{list-at, neighbours-are, neighbours-ascend, neighbours-none}
use Rattle.pack_defs.proofs.book.Book.neighbours.Goals as goal

pub returns-in-Some-clause-ascending : goal.returns-in-Some-clause-ascending
returns-in-Some-clause-ascending c =
    let book : BookView = c.args.self.now in
    let order = subst (λ (b : BookView). IsInOrder b) c.self.view_is c.self.invariant.0 in
    let lists = subst (λ (b : BookView). c.self.inside.near.items ≡ lists_for b) c.self.view_is c.self.invariant.3 in
    let near = c.as_slice.ensures ∙ list-at book c.self.inside.near.items c.in-Some.i c.args.f c.index.result.now lists c.in-Some.ensures.0 c.in-Some.ensures.1 c.index.ensures in
    rw near (neighbours-ascend book c.args.f order.domains)

pub returns-in-Some-clause-interfere : goal.returns-in-Some-clause-interfere
returns-in-Some-clause-interfere c = λ t.
    let book : BookView = c.args.self.now in
    let order = subst (λ (b : BookView). IsInOrder b) c.self.view_is c.self.invariant.0 in
    let lists = subst (λ (b : BookView). c.self.inside.near.items ≡ lists_for b) c.self.view_is c.self.invariant.3 in
    let near = c.as_slice.ensures ∙ list-at book c.self.inside.near.items c.in-Some.i c.args.f c.index.result.now lists c.in-Some.ensures.0 c.in-Some.ensures.1 c.index.ensures in
    ap (λ xs. is_in xs t) near ∙ neighbours-are book c.args.f t order

pub returns-in-None-clause-near : goal.returns-in-None-clause-near
returns-in-None-clause-near c =
    sym (neighbours-none c.args.self.now c.args.f (subst (λ (b : BookView). IsInOrder b) c.self.view_is c.self.invariant.0) c.in-None.ensures)

pub returns-in-None-clause-interfere : goal.returns-in-None-clause-interfere
returns-in-None-clause-interfere c = λ t.
    let order = subst (λ (b : BookView). IsInOrder b) c.self.view_is c.self.invariant.0 in
    ap (λ xs. is_in xs t) (sym (neighbours-none c.args.self.now c.args.f order c.in-None.ensures)) ∙ neighbours-are c.args.self.now c.args.f t order
