-- The reply to a posting, and the state after it. Workers that answer queries, and the replies, are this project's own.
use Rattle.std.specs.Prelude.{ℕ, Bool, not, ◌+◌, ◌==◌, nat_lt, nat_le, if◌then◌else◌, List, [], ◌∷◌, length, map, Option, Some, None, option_and_then, slice_get}
use Rattle.std.specs.List.{list_any}
use Rattle.std.specs.Option.{option_map_or}
use Rattle.pack_defs.specs.Book.{BookView}
use Rattle.pack_defs.specs.declared.scenario.Scenario.{Scenario}
use Rattle.cert_types.specs.declared.answer.Answer.{Answer}
use Rattle.cert_types.specs.declared.answer.Answer.TheVariants.{Fit, Refuted as Refutes, Spent}
use Rattle.cert_types.specs.declared.answer.Place.{Place}
use Rattle.cert_types.specs.Valid.{answer_fault}
use Rattle.auction_core.specs.declared.record.Shown.{Shown}
use Rattle.auction_core.specs.declared.record.Shown.TheVariants.{Fits, Refuted, Undecided}
use Rattle.auction_core.specs.declared.posting.Reply.{Reply}
use Rattle.auction_core.specs.declared.posting.Reply.TheVariants.{Ended, WrongQuery, Stranger, Rejected, Advanced, AlreadySpent, Noted}
use Rattle.auction_core.specs.State.{CoreState, NotedSpent, has_ended, task_of, answered}

-- A posting of a worker for the query of this number.
pub record PostingView : Type 0 where
  pub worker : ℕ
  pub number : ℕ
  pub answer : Answer

-- The reply and the state once the current query is settled in this way; the reply has the number of the next query.
abbrev pub advanced : Scenario → BookView → CoreState → Shown → Reply × CoreState
advanced sc book state shown =
    let next = answered sc book state shown in
    (Advanced (if has_ended next then None else Some next.number), next)

-- Whether a receipt of worker w is pending.
abbrev pub is_noted : List NotedSpent → ℕ → Bool
is_noted noted w = list_any (λ n. n.worker == w) noted

-- The pending receipts with one more, ascending by worker.
abbrev pub noted_with : NotedSpent → List NotedSpent → List NotedSpent
noted_with x [] = x ∷ []
noted_with x (n ∷ ns) = if nat_lt x.worker n.worker then x ∷ n ∷ ns else n ∷ noted_with x ns

-- The effect of a valid receipt: a second one changes nothing, that of the last worker settles the query, any other becomes
-- pending.
abbrev pub spent : Scenario → BookView → CoreState → NotedSpent → Reply × CoreState
spent sc book state x =
    if is_noted state.noted x.worker then (AlreadySpent, state)
    else (if length state.noted + 1 == length sc.workers
    then advanced sc book state (Undecided (map (λ n. n.receipt) (noted_with x state.noted)))
    else (Noted, record state { noted = noted_with x state.noted }))

-- The effect of a valid answer.
abbrev pub accepted : Scenario → BookView → CoreState → ℕ → Answer → Reply × CoreState
accepted sc book state w (Fit delta) = advanced sc book state (Fits delta)
accepted sc book state w (Refutes how) = advanced sc book state (Refuted w how)
accepted sc book state w (Spent receipt) = spent sc book state (record { worker = w; receipt = receipt })

-- The effect of an answer, given its first error.
abbrev pub judged : Scenario → BookView → CoreState → PostingView → Option Place → Reply × CoreState
judged sc book state posting None = accepted sc book state posting.worker posting.answer
judged sc book state posting (Some place) = (Rejected place, state)

-- The reply to a posting that is turned away: the auction has ended, the number is another query's, or there is no such worker.
-- `None` if the answer is to be read.
abbrev pub unjudged_reply : Scenario → CoreState → ℕ → ℕ → Option Reply
unjudged_reply sc state w number =
    if has_ended state then Some Ended
    else (if not (number == state.number) then Some (WrongQuery state.number)
    else (if nat_le (length sc.workers) w then Some Stranger
    else None))

-- The first error of a posting's answer to the current query. `None` if there is no current query or no such worker; such a posting
-- is turned away.
abbrev pub fault_of : Scenario → BookView → CoreState → PostingView → Option Place
fault_of sc book state posting =
    option_and_then (λ task. option_and_then (λ worker. answer_fault book task worker posting.answer) (slice_get sc.workers posting.worker)) (task_of sc book state)

-- The reply to a posting, and the state after it: the posting is turned away, or its answer takes effect if it is valid.
unfoldable pub take : Scenario → BookView → CoreState → PostingView → Reply × CoreState
take sc book state posting =
    option_map_or (λ reply. (reply, state)) (unjudged_reply sc state posting.worker posting.number)
    (judged sc book state posting (fault_of sc book state posting))

-- The state after these postings, one after another.
abbrev pub after_postings : Scenario → BookView → List PostingView → CoreState → CoreState
after_postings sc book [] state = state
after_postings sc book (p ∷ ps) state = after_postings sc book ps (take sc book state p).1
