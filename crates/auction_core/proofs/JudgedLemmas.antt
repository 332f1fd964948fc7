-- A posting whose answer was checked before does what a posting with that answer does.
use Rattle.std.proofs.Common.{◌≡◌, ap, sym, ◌∙◌, Option, Some, None, refl, option_and_then, MatchOption}
use Rattle.std.specs.Prelude.{slice_get}
use Rattle.std.specs.Option.{option_map_or}
use Rattle.pack_defs.specs.Book.{BookView}
use Rattle.pack_defs.specs.declared.scenario.Scenario.{Scenario}
use Rattle.pack_defs.specs.declared.worker.Worker.{Worker}
use Rattle.cert_types.specs.declared.task.Task.{Task}
use Rattle.cert_types.specs.declared.answer.Answer.{Answer}
use Rattle.cert_types.specs.Valid.{answer_fault, IsValid}
use Rattle.auction_core.specs.declared.posting.Posting.{Posting}
use Rattle.auction_core.specs.declared.posting.Reply.{Reply}
use Rattle.auction_core.specs.declared.posting.Said.{Said}
use Rattle.auction_core.specs.declared.posting.Said.TheVariants.{Good, Bad}
use Rattle.auction_core.specs.State.{CoreState, task_of}
use Rattle.auction_core.specs.Take.{accepted, fault_of, judged, take, unjudged_reply}
use Rattle.auction_core.specs.Said.{IsJudgementOf, JudgesAnswer, taken, reply_to_judged, with_answer}

none-invalid : (book : BookView) (answer : Answer) (o : Option Task) (p : Option Worker) → MatchOption o ⊥ (λ task. MatchOption p ⊥ (λ worker. IsValid book task worker answer)) → option_and_then (λ task. option_and_then (λ worker. answer_fault book task worker answer) p) o ≡ None
none-invalid book answer None p h = absurd h
none-invalid book answer (Some task) None h = absurd h
none-invalid book answer (Some task) (Some worker) h = h

told-judged : (sc : Scenario) (book : BookView) (state : CoreState) (posting : Posting) (answer : Answer) (said : Said) → IsJudgementOf sc book state posting answer said → reply_to_judged sc book state posting.worker said ≡ judged sc book state (with_answer posting answer) (fault_of sc book state (with_answer posting answer))
told-judged sc book state posting answer (Good certified) h =
    ap (accepted sc book state posting.worker) h.0
    ∙ sym (ap (judged sc book state (with_answer posting answer)) (none-invalid book answer (task_of sc book state) (slice_get sc.workers posting.worker) h.1))
told-judged sc book state posting answer (Bad place) h = sym (ap (judged sc book state (with_answer posting answer)) h)

pub looked : (sc : Scenario) (book : BookView) (state : CoreState) (posting : Posting) (answer : Answer) → JudgesAnswer sc book state posting answer → taken sc book state posting ≡ take sc book state (with_answer posting answer)
unfolding take taken
looked sc book state posting answer h =
    let whole = judged sc book state (with_answer posting answer) (fault_of sc book state (with_answer posting answer)) in
    let go : (o : Option Reply) → unjudged_reply sc state posting.worker posting.number ≡ o → option_map_or (λ reply. (reply, state)) o (reply_to_judged sc book state posting.worker posting.said) ≡ option_map_or (λ reply. (reply, state)) o whole = λ o. elim o as (λ o. unjudged_reply sc state posting.worker posting.number ≡ o → option_map_or (λ reply. (reply, state)) o (reply_to_judged sc book state posting.worker posting.said) ≡ option_map_or (λ reply. (reply, state)) o whole) [
      | None ↦ λ e. told-judged sc book state posting answer posting.said (h e)
      | Some reply ↦ λ e. refl
    ] in
    go (unjudged_reply sc state posting.worker posting.number) refl
