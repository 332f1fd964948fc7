use Rattle.std.proofs.Common.{◌≡◌, ◌∙◌, refl, sym, subst, MatchOption}
use Rattle.std.specs.Prelude.{⊤}
use Rattle.cert_types.specs.Query.{IsQuery}
use Rattle.auction_core.proofs.TaskLemmas.{no-task, task-has}
use Rattle.answer_board.proofs.WasCurrentLemmas.{same-number}
use Rattle.answer_board.proofs.post.worker_to_judge.Goals as goal
use Rattle.auction_core.proofs.Keeps.{not-ended}

pub unreachable-requires : goal.unreachable-requires
unreachable-requires c =
    let now = c.args.auction.now in
    let at = not-ended now.scenario now.state c.args.worker c.args.number c.requires in
    no-task now.scenario now.book now.state at.0 (sym c.in-Ok-None.ensures.task ∙ c.in-Ok-None.field-0-is)

pub worker_at-requires : goal.worker_at-requires
worker_at-requires c =
    let now = c.args.auction.now in
    (not-ended now.scenario now.state c.args.worker c.args.number c.requires).1

pub returns : goal.returns
returns c =
    let now = c.args.auction.now in
    let stands = sym c.in-Ok-Some.ensures.task ∙ c.in-Ok-Some.field-0-is in (
      record { beginning = refl; history = refl },
      record {
        stands = stands;
        query = subst (λ o. MatchOption o ⊤ (IsQuery now.book)) c.in-Ok-Some.field-0-is c.in-Ok-Some.ensures.query;
        worker = c.worker_at.ensures;
        number = same-number now.scenario now.state c.args.worker c.args.number c.requires ∙ sym (task-has now.scenario now.book now.state (λ t. t.number ≡ now.state.number) refl (λ t. refl) c.in-Ok-Some.task stands);
      },
    )
