use Rattle.std.proofs.Common.{◌∙◌}
use Rattle.scenario_json.proofs.StartLemmas.{made-only}
use Rattle.scenario_json.proofs.start_only.start_only.Goals as goal

pub returns : goal.returns
returns c =
    made-only c.args.sc.now c.args.top _ _ _ _ c.requires.limits.ascend
    (c.from_vec.ensures ∙ c.new.ensures.items)
    (c.from_vec-2.ensures ∙ c.in_ok-stations.ensures)
    (c.from_vec-3.ensures ∙ (c.in_ok-workers.ensures.items ∙ c.as_slice.ensures))
    c.in_ok-owners.ensures
