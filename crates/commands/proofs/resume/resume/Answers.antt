-- The auction continued, and concludes.
use Rattle.command_words.specs.Words.{resume_view}
use Rattle.commands.proofs.ResumeEndLemmas.{went-on}
use Rattle.commands.proofs.resume.resume.Goals as goal

pub returns-clause-ends : goal.returns-clause-ends
returns-clause-ends g c =
    went-on (resume_view c.args.files.now) _ _ _ _ _ c.in-Ok.found.inputs c.in-Ok.found.auction c.in-Ok-finish_auction.rec c.in-Ok.ensures.resumable c.in-Ok.ensures.same c.in-Ok-finish_auction.ensures.continues c.conclude.ensures.ends
