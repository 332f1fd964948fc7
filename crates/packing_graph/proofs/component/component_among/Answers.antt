use Rattle.std.proofs.Common.{◌≡◌, ◌∙◌, ℕ, List, sym, ap}
use Rattle.std.proofs.lemmas.Result.{IfOk-weaker}
use Rattle.pack_defs.specs.Components.{component}
use Rattle.pack_defs.specs.Lists.{is_in}
use Rattle.pack_defs.proofs.Words.{same-ascending}
use Rattle.packing_graph.specs.Sets.{with_station}
use Rattle.packing_graph.proofs.Reached.{component-ascends}
use Rattle.packing_graph.proofs.WalkLemmas.{key-in}
use Rattle.packing_graph.proofs.component.component_among.Goals as goal

pub returns-clause-component : goal.returns-clause-component
returns-clause-component g c =
    let on : List ℕ = g.S.StationSet.stations c.args.on.now in
    let stations : List ℕ = component c.args.book.now (with_station on c.args.station) c.args.station in
    IfOk-weaker c.listed.result _ _ (λ list both.
    let same : (t : ℕ) → is_in list.items t ≡ is_in stations t = λ t. ap (λ xs. is_in xs t) both.0 ∙ key-in c.in_ok-seen.seen t ∙ c.in_ok-seen.ensures t in
    same-ascending list.items stations both.1 (component-ascends c.args.book.now on c.args.station c.requires) (λ t h. sym (same t) ∙ h) (λ t h. same t ∙ h))
    c.listed.ensures
