-- Each result is that of the call at its place.
use Rattle.std.proofs.Common.{◌∙◌, IfOk, get_or, subst, sym}
use Rattle.commands.specs.contracts.inputs.Inputs as Inputs
use Rattle.commands.specs.BatchRun.{IsRun}
use Rattle.commands.proofs.BatchEndLemmas.{both-ok, zip-both}
use Rattle.commands.proofs.batch_run.run_each.Goals as goal

pub returns : goal.returns
returns g c = both-ok _ _ _ c.map_vec.result c.map_vec.ensures.len c.map_vec.ensures.each (λ v long each.
    zip-both _ c.args.auctions.items v.items (sym v.ok.0 ∙ (long ∙ c.args.auctions.ok.0)) (λ i d e lt.
    let k = (each i e lt).1 in
    subst (λ (j : (Inputs.the_row).Denot). IfOk (get_or v.items i e) (IsRun j)) (sym (k.job_is d)) k.call.met))
