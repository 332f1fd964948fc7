-- The status says whether a test is undecided.
use Rattle.std.proofs.Common.{◌∙◌, true, false, ap, sym}
use Rattle.std.specs.List.{list_any}
use Rattle.auction_core.specs.Backed.{is_undecided}
use Rattle.commands.proofs.EndLemmas.{status-by}
use Rattle.commands.proofs.run.done_status.Goals as goal

pub returns-then-any_undecided : goal.returns-then-any_undecided
returns-then-any_undecided c =
    sym (status-by c.args.rec.now.steps true (sym c.if-any_undecided.true ∙ (c.any_undecided.ensures ∙ ap (list_any (λ x. is_undecided x.shown)) c.as_slice.ensures)))

pub returns : goal.returns
returns c =
    sym (status-by c.args.rec.now.steps false (sym c.if-any_undecided.false ∙ (c.any_undecided.ensures ∙ ap (list_any (λ x. is_undecided x.shown)) c.as_slice.ensures)))
