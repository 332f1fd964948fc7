-- The auction is in the state after the kept steps.
use Rattle.commands.proofs.ResumeEndLemmas.{stands-behind}
use Rattle.commands.proofs.resume.auction_after_prefix.Goals as goal

pub returns-in-Ok : goal.returns-in-Ok
returns-in-Ok c =
    let e = c.in-Ok.ensures in
    stands-behind c.args.inputs.now c.args.kept c.in-Ok.auction e.none (record { scenario = e.scenario; book = e.book; state = e.state; is_prefix = e.kept })
