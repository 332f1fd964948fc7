use Rattle.std.proofs.Common.{◌≡◌, ◌∙◌, ap, map, subst, sym, true}
use Rattle.pack_defs.proofs.Words.{ascending-from}
use Rattle.pack_defs.specs.declared.station.Station.{Station}
use Rattle.pack_defs.specs.Lists.{is_ascending}
use Rattle.pack_defs.specs.Scenario.{facilities}
use Rattle.scenario_json.proofs.join.join.Goals as goal

pub build-requires-clause-ids : goal.build-requires-clause-ids
build-requires-clause-ids c =
    let sc = c.args.sc.now in
    let same : c.deref-2.result.now ≡ facilities sc =
    c.deref-2.ensures.value ∙ c.in_ok-ids.ensures ∙ ap (λ xs. map (λ (x : Station). x.id) xs) c.as_slice.ensures in
    subst (λ ids. is_ascending ids ≡ true) (sym same) (ascending-from (facilities sc) c.requires.ascend)
