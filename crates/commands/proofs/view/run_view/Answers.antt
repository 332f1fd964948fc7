-- The transcript was not verified.
use Rattle.commands.proofs.ShownLemmas.{unverified}
use Rattle.commands.proofs.view.run_view.Goals as goal

pub returns-in-Err-clause-ends : goal.returns-in-Err-clause-ends
returns-in-Err-clause-ends g c =
    unverified (g.V.View.shown c.args.view.now) (g.V.View.says c.args.view.now) _ _ _ c.in-Err.finish.result (rw c.files.ensures at c.in-Err.ensures.ends) c.in-Err.ensures.none
