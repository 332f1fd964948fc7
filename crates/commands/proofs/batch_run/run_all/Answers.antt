-- Memory ran out in none of the auctions.
use Rattle.commands.proofs.BatchEndLemmas.{none-wants}
use Rattle.commands.proofs.batch_run.run_all.Goals as goal

pub returns : goal.returns
returns g c = none-wants c.args.auctions.items c.in_ok-rans.rans.items c.all_or_error.result (λ v. v.items) c.all_or_error.ensures (c.in_ok-rans.ensures)
