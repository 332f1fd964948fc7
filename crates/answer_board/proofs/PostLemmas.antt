-- Verdicts on answers, and what a posting changes.
use Rattle.std.proofs.Common.{◌≡◌, ◌∙◌, ℕ, true, false, List, [], ◌∷◌, ◌++◌, Option, Some, None, is_some, option_and_then, refl, sym, ap, subst, inl, inr, append_assoc}
use Rattle.std.specs.Prelude.{slice_get, MatchOption}
use Rattle.std.proofs.lemmas.Bool.{cases_Bool, false≢true}
use Rattle.pack_defs.specs.Book.{BookView}
use Rattle.pack_defs.specs.declared.scenario.Scenario.{Scenario}
use Rattle.pack_defs.specs.declared.worker.Worker.{Worker}
use Rattle.cert_types.specs.declared.answer.Answer.{Answer}
use Rattle.cert_types.specs.declared.answer.Place.{Place}
use Rattle.cert_types.specs.declared.task.Task.{Task}
use Rattle.cert_types.specs.Certificate.{Certificate}
use Rattle.cert_types.specs.Valid.{IsValid, answer_fault}
use Rattle.auction_core.specs.declared.posting.Posting.{Posting}
use Rattle.auction_core.specs.declared.posting.Reply.{Reply}
use Rattle.auction_core.specs.declared.posting.Said.{Said}
use Rattle.auction_core.specs.declared.posting.Said.TheVariants.{Good, Bad}
use Rattle.auction_core.specs.Auction.{AuctionView, entry_with_reply, accepted_answer}
use Rattle.auction_core.specs.Replay.{EntryView, entry_of, kept_answer, replay_from}
use Rattle.auction_core.specs.Rule.{Answers, IsValidOf}
use Rattle.auction_core.specs.QuerySession.{QuerySessionView}
use Rattle.auction_core.specs.Said.{AnswersIfGood, IsJudgementOf, MayBeTaken, JudgesAnswer, taken, reply_to_judged, with_answer}
use Rattle.auction_core.specs.State.{CoreState, has_ended, task_of}
use Rattle.auction_core.specs.Take.{PostingView, take, unjudged_reply}
use Rattle.auction_core.proofs.TakingLemmas.{taken-told, taken-turned}
use Rattle.auction_core.proofs.TaskLemmas.{no-task}
use Rattle.auction_core.proofs.Replays.{turned-cases}
use Rattle.auction_core.proofs.AuctionLemmas.{none-kept}
use Rattle.answer_board.specs.Entries.{plain_entries, numbered}
use Rattle.turn_lock.specs.declared.chronicle.PassKnowledge.{PassKnowledge}
use Rattle.turn_lock.specs.Turns.{StartsWith}
use Rattle.answer_board.specs.Boards.{beginning_of}
use Rattle.answer_board.specs.Posts.{IsPosted, IsPostingTaken, StaysJudged, left_by}

-- ---- the current query

pub none_from : {A : Type 0} (o : Option A) → false ≡ is_some o → o ≡ None
none_from None e = refl
none_from (Some x) e = absurd (false≢true e)

-- Without a query the auction has ended.
pub ended-of : (sc : Scenario) (book : BookView) (state : CoreState) → task_of sc book state ≡ None → has_ended state ≡ true
ended-of sc book state none = elim (cases_Bool (has_ended state)) [
  | inl ended ↦ ended
  | inr on ↦ absurd (no-task sc book state on none)
]

-- ---- the verdict on an answer

-- The verdict on a valid answer of the worker.
pub good-stands : (sc : Scenario) (book : BookView) (state : CoreState) (w number : ℕ) (task : Task) (worker : Worker) (certified : Certificate) (answer : Answer) → task_of sc book state ≡ Some task → slice_get sc.workers w ≡ Some worker → certified.answer ≡ answer → IsValid book task worker answer → JudgesAnswer sc book state (record { worker = w; number = number; said = Good certified }) answer
good-stands sc book state w number task worker certified answer e f same v t =
    let of : IsValidOf sc book task w answer = subst (λ o. MatchOption o ⊥ (λ worker. IsValid book task worker answer)) (sym f) v in
    (same, subst (λ o. MatchOption o ⊥ (λ task. IsValidOf sc book task w answer)) (sym e) of)

-- The verdict on an invalid answer is its place.
pub bad-stands : (sc : Scenario) (book : BookView) (state : CoreState) (w number : ℕ) (task : Task) (worker : Worker) (place : Place) (answer : Answer) → task_of sc book state ≡ Some task → slice_get sc.workers w ≡ Some worker → answer_fault book task worker answer ≡ Some place → JudgesAnswer sc book state (record { worker = w; number = number; said = Bad place }) answer
bad-stands sc book state w number task worker place answer e f fault t =
    ap (λ o. option_and_then (λ task. option_and_then (λ worker. answer_fault book task worker answer) (slice_get sc.workers w)) o) e
    ∙ (ap (λ o. option_and_then (λ worker. answer_fault book task worker answer) o) f ∙ fault)

said-may : (sc : Scenario) (book : BookView) (state : CoreState) (posting : Posting) (answer : Answer) (said : Said) → IsJudgementOf sc book state posting answer said → AnswersIfGood sc book state posting.worker said
said-may sc book state posting answer (Good certified) h = subst (Answers sc book state posting.worker) (sym h.0) h.1
said-may sc book state posting answer (Bad place) h = tt

-- A correct verdict may be taken.
pub stands-may : (sc : Scenario) (book : BookView) (state : CoreState) (posting : Posting) (answer : Answer) → JudgesAnswer sc book state posting answer → MayBeTaken sc book state posting
stands-may sc book state posting answer h t = said-may sc book state posting answer posting.said (h t)

-- ---- what the history keeps

turned-kept : (sc : Scenario) (state : CoreState) (w number : ℕ) (reply : Reply) → unjudged_reply sc state w number ≡ Some reply → (answer : Answer) → kept_answer reply answer ≡ None
turned-kept sc state w number reply t answer = turned-cases sc state w number (λ r. kept_answer r answer ≡ None) reply refl refl refl t

-- Whether the history keeps the same answer with and without a check.
abbrev KeptAlike : Said → Answer → Reply → Type 0
KeptAlike said answer reply = option_and_then (kept_answer reply) (accepted_answer said) ≡ kept_answer reply answer

said-kept : (sc : Scenario) (book : BookView) (state : CoreState) (posting : Posting) (answer : Answer) (said : Said) → IsJudgementOf sc book state posting answer said → KeptAlike said answer (reply_to_judged sc book state posting.worker said).0
said-kept sc book state posting answer (Good certified) h = ap (kept_answer (reply_to_judged sc book state posting.worker (Good certified)).0) h.0
said-kept sc book state posting answer (Bad place) h = refl

alike : (sc : Scenario) (book : BookView) (state : CoreState) (posting : Posting) (answer : Answer) → JudgesAnswer sc book state posting answer → KeptAlike posting.said answer (taken sc book state posting).0
alike sc book state posting answer h =
    let go : (o : Option Reply) → unjudged_reply sc state posting.worker posting.number ≡ o → KeptAlike posting.said answer (taken sc book state posting).0 = λ o. elim o as (λ o. unjudged_reply sc state posting.worker posting.number ≡ o → KeptAlike posting.said answer (taken sc book state posting).0) [
      | None ↦ λ t. subst (λ out. KeptAlike posting.said answer out.0) (taken-told sc book state posting posting.said t refl) (said-kept sc book state posting answer posting.said (h t))
      | Some reply ↦ λ t. subst (λ out. KeptAlike posting.said answer out.0) (taken-turned sc book state posting reply t)
          (none-kept reply (accepted_answer posting.said) (turned-kept sc state posting.worker posting.number reply t) ∙ sym (turned-kept sc state posting.worker posting.number reply t answer))
    ] in
    go (unjudged_reply sc state posting.worker posting.number) refl

pub kept-alike : (sc : Scenario) (book : BookView) (state new : CoreState) (posting : Posting) (answer : Answer) (reply : Reply) → JudgesAnswer sc book state posting answer → (reply, new) ≡ taken sc book state posting → entry_with_reply posting reply ≡ entry_of (with_answer posting answer) reply
kept-alike sc book state new posting answer reply h e =
    let same : option_and_then (kept_answer reply) (accepted_answer posting.said) ≡ kept_answer reply answer = subst (λ out. KeptAlike posting.said answer out.0) (sym e) (alike sc book state posting answer h) in
    ap (λ o. record { worker = posting.worker; number = posting.number; reply = reply; answer = o }) same

-- ---- histories with numbers

pub entries-numbered : (es : List EntryView) → plain_entries (numbered es) ≡ es
entries-numbered [] = refl
entries-numbered (e ∷ es) = ap (λ l. e ∷ l) (entries-numbered es)

pub numbered-more : (es : List EntryView) (e : EntryView) → numbered (es ++ e ∷ []) ≡ numbered es ++ (e.worker, e) ∷ []
numbered-more [] e = refl
numbered-more (x ∷ es) e = ap (λ l. (x.worker, x) ∷ l) (numbered-more es e)

-- Whether two auctions began alike.
abbrev pub AlikeBase : AuctionView → AuctionView → Type 0
AlikeBase a b = beginning_of a ≡ beginning_of b

-- Whether the history of an auction leads to its state.
abbrev pub Replays : AuctionView → Type 0
Replays a = replay_from a.scenario a.book a.history a.opened ≡ Some a.state

-- The state after the history that was seen.
pub seen-replays : (made value : AuctionView) (seen : List (ℕ × EntryView)) → AlikeBase value made → numbered value.history ≡ seen → Replays value → left_by made seen ≡ Some value.state
seen-replays made value seen base is h =
    ap (λ es. left_by made es) (sym is)
    ∙ (ap (λ es. replay_from made.scenario made.book es made.opened) (entries-numbered value.history)
    ∙ (ap (λ (s : QuerySessionView). replay_from s.scenario s.book value.history s.state) (sym base) ∙ h))

-- What a posting within a turn changes; the turn began at `mid` and ends at `last`.
pub posted : (made value after : AuctionView) (posting : PostingView) (reply : Reply) (first mid last : PassKnowledge EntryView)
    → AlikeBase value made → numbered value.history ≡ mid.seen → Replays value → Replays after
    → IsPostingTaken value after posting reply → StartsWith mid.seen first.seen → mid.mine ≡ first.mine
    → last.seen ≡ numbered after.history → last.mine ≡ mid.mine ++ (posting.worker, entry_of posting reply) ∷ []
    → IsPosted made posting first last reply
posted made value after posting reply first mid last base is h k taken begins same seen mine =
    let e = entry_of posting reply in
    let after_base : AlikeBase after value = taken.beginning in
    let whole : numbered after.history ≡ mid.seen ++ (posting.worker, e) ∷ [] = ap numbered taken.history ∙ (numbered-more value.history e ∙ ap (λ l. l ++ (posting.worker, e) ∷ []) is) in
    record {
      before = mid.seen;
      state = value.state;
      begins = begins;
      replays = seen-replays made value mid.seen base is h;
      told = ap (λ (o : Reply × CoreState). o.0) taken.told ∙ ap (λ (b : QuerySessionView). (take b.scenario b.book value.state posting).0) base;
      seen = seen ∙ whole;
      leaves = seen-replays made after last.seen (after_base ∙ base) (sym seen) k ∙ ap (λ s. Some s) (ap (λ (o : Reply × CoreState). o.1) taken.told ∙ ap (λ (b : QuerySessionView). (take b.scenario b.book value.state posting).1) base);
      mine = mine ∙ ap (λ l. l ++ (posting.worker, e) ∷ []) same;
    }

-- The same if nothing was done in an earlier turn.
pub posted-from : (made : AuctionView) (posting : PostingView) (reply : Reply) (first mid last : PassKnowledge EntryView) → StartsWith mid.seen first.seen → mid.mine ≡ first.mine → IsPosted made posting mid last reply → IsPosted made posting first last reply
posted-from made posting reply first mid last begins same h = record {
  before = h.before;
  state = h.state;
  begins = (begins.0 ++ h.begins.0, h.begins.1 ∙ (ap (λ l. l ++ h.begins.0) begins.1 ∙ append_assoc first.seen begins.0 h.begins.0));
  replays = h.replays;
  told = h.told;
  seen = h.seen;
  leaves = h.leaves;
  mine = h.mine ∙ ap (λ l. l ++ (posting.worker, entry_of posting reply) ∷ []) same;
}

-- The verdict on an answer is correct within the turn.
pub stands-here : (made value : AuctionView) (first seen : List (ℕ × EntryView)) (posting : Posting) (answer : Answer) → StaysJudged made first posting answer
    → AlikeBase value made → numbered value.history ≡ seen → Replays value → StartsWith seen first → JudgesAnswer value.scenario value.book value.state posting answer
stands-here made value first seen posting answer on base is replays begins =
    subst (λ (b : QuerySessionView). JudgesAnswer b.scenario b.book value.state posting answer) (sym base) (on seen value.state begins (seen-replays made value seen base is replays))
