-- What a posting does if its answer was checked before it was posted. Checking first is this project's own; the effect of the
-- answer is the same.
use Rattle.std.specs.Prelude.{◌≡◌, ⊤, ℕ, None, Some}
use Rattle.std.specs.Option.{option_map_or}
use Rattle.pack_defs.specs.Book.{BookView}
use Rattle.pack_defs.specs.declared.scenario.Scenario.{Scenario}
use Rattle.cert_types.specs.declared.answer.Answer.{Answer}
use Rattle.auction_core.specs.declared.posting.Posting.{Posting}
use Rattle.auction_core.specs.declared.posting.Reply.{Reply}
use Rattle.auction_core.specs.declared.posting.Reply.TheVariants.{Rejected}
use Rattle.auction_core.specs.declared.posting.Said.{Said}
use Rattle.auction_core.specs.declared.posting.Said.TheVariants.{Good, Bad}
use Rattle.auction_core.specs.State.{CoreState}
use Rattle.auction_core.specs.Take.{PostingView, accepted, fault_of, unjudged_reply}
use Rattle.auction_core.specs.Rule.{Answers}

-- The effect of a worker's answer that was checked: the reply and the state after it.
abbrev pub reply_to_judged : Scenario → BookView → CoreState → ℕ → Said → Reply × CoreState
reply_to_judged sc book state w (Good certified) = accepted sc book state w certified.answer
reply_to_judged sc book state w (Bad place) = (Rejected place, state)

-- The reply to a posting whose answer was checked, and the state after it.
unfoldable pub taken : Scenario → BookView → CoreState → Posting → Reply × CoreState
taken sc book state posting =
    option_map_or (λ reply. (reply, state)) (unjudged_reply sc state posting.worker posting.number)
    (reply_to_judged sc book state posting.worker posting.said)

-- The posting with this answer, as if it had not been checked.
abbrev pub with_answer : Posting → Answer → PostingView
with_answer posting answer = record { worker = posting.worker; number = posting.number; answer = answer }

-- Whether the verdict is true of this answer.
abbrev pub IsJudgementOf : Scenario → BookView → CoreState → Posting → Answer → Said → Type 0
IsJudgementOf sc book state posting answer (Good certified) =
    (certified.answer ≡ answer) × Answers sc book state posting.worker answer
IsJudgementOf sc book state posting answer (Bad place) = fault_of sc book state (with_answer posting answer) ≡ Some place

-- Whether the posting is turned away, or its verdict is true of this answer.
abbrev pub JudgesAnswer : Scenario → BookView → CoreState → Posting → Answer → Type 0
JudgesAnswer sc book state posting answer =
    unjudged_reply sc state posting.worker posting.number ≡ None → IsJudgementOf sc book state posting answer posting.said

-- Whether an accepted answer is valid for the current query; nothing is required of a rejected one.
abbrev pub AnswersIfGood : Scenario → BookView → CoreState → ℕ → Said → Type 0
AnswersIfGood sc book state w (Good certified) = Answers sc book state w certified.answer
AnswersIfGood sc book state w (Bad place) = ⊤

-- Whether the posting is turned away, or its answer, if accepted, is valid for the current query and the worker.
abbrev pub MayBeTaken : Scenario → BookView → CoreState → Posting → Type 0
MayBeTaken sc book state posting =
    unjudged_reply sc state posting.worker posting.number ≡ None → AnswersIfGood sc book state posting.worker posting.said
