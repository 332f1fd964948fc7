-- A posting whose answer was checked goes into a history that replays. For `auction`.
use Rattle.std.proofs.Common.{◌≡◌, ℕ, ◌-◌, ◌≤◌, Bool, true, false, ◌&&◌, nat_lt, if◌then◌else◌, List, [], ◌∷◌, ◌++◌, length, Option, Some, None, option_and_then, refl, sym, ap, ◌∙◌, subst, arith}
use Rattle.std.proofs.lemmas.Bool.{and_parts, cond-true, lt-ltb, ltb-true}
use Rattle.pack_defs.specs.Book.{BookView, IsInOrder}
use Rattle.pack_defs.specs.declared.scenario.Scenario.{Scenario}
use Rattle.cert_types.specs.declared.answer.Answer.{Answer}
use Rattle.cert_types.specs.declared.answer.Answer.TheVariants.{Fit}
use Rattle.auction_core.specs.declared.posting.Posting.{Posting}
use Rattle.auction_core.specs.declared.posting.Reply.{Reply}
use Rattle.auction_core.specs.declared.posting.Reply.TheVariants.{Ended, WrongQuery, Stranger, Rejected}
use Rattle.auction_core.specs.declared.posting.Said.{Said}
use Rattle.auction_core.specs.declared.posting.Said.TheVariants.{Good, Bad}
use Rattle.auction_core.specs.Auction.{IsBetween, IsReady, IsReplayed, entry_with_reply, accepted_answer, spare_of, state_at}
use Rattle.auction_core.specs.QuerySession.{QuerySessionView}
use Rattle.auction_core.specs.PendingReceipts.{PendingReceiptsView}
use Rattle.auction_core.specs.Replay.{EntryView, after_entry, kept_answer, replay_from, stands}
use Rattle.auction_core.specs.Rule.{IsAuction, KeepsTheRule}
use Rattle.auction_core.specs.Said.{AnswersIfGood, IsJudgementOf, MayBeTaken, JudgesAnswer, taken, with_answer}
use Rattle.auction_core.specs.Setup.{IsOfAuction}
use Rattle.auction_core.specs.State.{CoreState}
use Rattle.auction_core.specs.Take.{is_noted, unjudged_reply}
use Rattle.auction_core.proofs.Kept.{kept-rule, rule-kept}
use Rattle.auction_core.proofs.JudgedLemmas.{looked}
use Rattle.auction_core.proofs.Orders.{replay-order}
use Rattle.auction_core.proofs.Replays.{replay-keeps, take-leads, turned-cases, turned-leads}
use Rattle.auction_core.proofs.TakingLemmas.{taken-told, taken-turned}

pub is-auction : (sc : Scenario) (book : BookView) → IsOfAuction sc book → IsInOrder book → IsAuction sc book
is-auction sc book a o = let some = a.limits.some_worker in record { stations = a.limits.ascend; in_order = o; workers = omega arith }

-- an auction whose history replays keeps the rule
pub replayed-rule : (sc : Scenario) (book : BookView) (opened : CoreState) (history : List EntryView) (state : CoreState) → IsReplayed sc book opened history state → KeepsTheRule sc book state
replayed-rule sc book opened history state h =
    let a = is-auction sc book h.auction h.in_order in
    kept-rule sc book state (replay-keeps sc book history opened state a (rule-kept sc book opened h.kept) h.replays)

-- without entries, the history replays to the opened state
none-replayed : (sc : Scenario) (book : BookView) (opened : CoreState) → IsOfAuction sc book → IsInOrder book → KeepsTheRule sc book opened → IsReplayed sc book opened [] opened
none-replayed sc book opened a o k = record { auction = a; in_order = o; kept = k; replays = refl }

-- ---- one more entry

from-push : (sc : Scenario) (book : BookView) (es : List EntryView) (e : EntryView) (at state new : CoreState) → replay_from sc book es at ≡ Some state → after_entry sc book state e e.answer ≡ Some new → replay_from sc book (es ++ e ∷ []) at ≡ Some new
from-push sc book [] e at state new h k =
    let same : at ≡ state = cc in
    ap (option_and_then (replay_from sc book [])) (ap (λ s. after_entry sc book s e e.answer) same ∙ k)
from-push sc book (x ∷ xs) e at state new h k =
    let go : (o : Option CoreState) → option_and_then (replay_from sc book xs) o ≡ Some state → option_and_then (replay_from sc book (xs ++ e ∷ [])) o ≡ Some new = λ o. elim o as (λ o. option_and_then (replay_from sc book xs) o ≡ Some state → option_and_then (replay_from sc book (xs ++ e ∷ [])) o ≡ Some new) [
      | None ↦ λ r. cc
      | Some next ↦ λ r. from-push sc book xs e next state new r k
    ] in
    go (after_entry sc book at x x.answer) h

-- the entry of a posting with this reply leads to this state
abbrev Leads : Scenario → BookView → CoreState → Posting → Reply → CoreState → Type 0
Leads sc book state posting reply new =
    after_entry sc book state (entry_with_reply posting reply) (option_and_then (kept_answer reply) (accepted_answer posting.said)) ≡ Some new

pub none-kept : (reply : Reply) (o : Option Answer) → ((answer : Answer) → kept_answer reply answer ≡ None) → option_and_then (kept_answer reply) o ≡ None
none-kept reply None h = refl
none-kept reply (Some answer) h = h answer

turned-told : (sc : Scenario) (book : BookView) (state : CoreState) (posting : Posting) (reply : Reply) → unjudged_reply sc state posting.worker posting.number ≡ Some reply → Leads sc book state posting reply state
turned-told sc book state posting reply t =
    let o : Option Answer = accepted_answer posting.said in
    turned-cases sc state posting.worker posting.number (λ r. unjudged_reply sc state posting.worker posting.number ≡ Some r → Leads sc book state posting r state) reply
    (λ e. ap (after_entry sc book state (entry_with_reply posting Ended)) (none-kept Ended o (λ answer. refl)) ∙ turned-leads sc book state (with_answer posting (Fit [])) Ended e)
    (λ e. ap (after_entry sc book state (entry_with_reply posting (WrongQuery state.number))) (none-kept (WrongQuery state.number) o (λ answer. refl)) ∙ turned-leads sc book state (with_answer posting (Fit [])) (WrongQuery state.number) e)
    (λ e. ap (after_entry sc book state (entry_with_reply posting Stranger)) (none-kept Stranger o (λ answer. refl)) ∙ turned-leads sc book state (with_answer posting (Fit [])) Stranger e)
    t t

-- the entry of a posting with this verdict and reply leads to this state
abbrev LeadsBy : Scenario → BookView → CoreState → Posting → Said → Reply × CoreState → Type 0
LeadsBy sc book state posting said out =
    after_entry sc book state (entry_with_reply posting out.0) (option_and_then (kept_answer out.0) (accepted_answer said)) ≡ Some out.1

said-told : (sc : Scenario) (book : BookView) (state : CoreState) (posting : Posting) (said : Said) → posting.said ≡ said → unjudged_reply sc state posting.worker posting.number ≡ None → AnswersIfGood sc book state posting.worker said → LeadsBy sc book state posting said (taken sc book state posting)
said-told sc book state posting (Good certified) s t h =
    let p = with_answer posting certified.answer in
    let stands : JudgesAnswer sc book state posting certified.answer = λ _. subst (λ x. IsJudgementOf sc book state posting certified.answer x) (sym s) (refl, h) in
    subst (LeadsBy sc book state posting (Good certified)) (sym (looked sc book state posting certified.answer stands)) (take-leads sc book state p)
said-told sc book state posting (Bad place) s t h =
    subst (LeadsBy sc book state posting (Bad place)) (taken-told sc book state posting (Bad place) t s)
    (cond-true (stands (unjudged_reply sc state posting.worker posting.number) (is_noted state.noted posting.worker) (Rejected place)) (Some state) None (ap (λ o. stands o (is_noted state.noted posting.worker) (Rejected place)) t))

taken-leads : (sc : Scenario) (book : BookView) (state : CoreState) (posting : Posting) → MayBeTaken sc book state posting → LeadsBy sc book state posting posting.said (taken sc book state posting)
taken-leads sc book state posting h =
    let go : (o : Option Reply) → unjudged_reply sc state posting.worker posting.number ≡ o → LeadsBy sc book state posting posting.said (taken sc book state posting) = λ o. elim o as (λ o. unjudged_reply sc state posting.worker posting.number ≡ o → LeadsBy sc book state posting posting.said (taken sc book state posting)) [
      | None ↦ λ t. said-told sc book state posting posting.said refl t (h t)
      | Some reply ↦ λ t. subst (LeadsBy sc book state posting posting.said) (taken-turned sc book state posting reply t) (turned-told sc book state posting reply t)
    ] in
    go (unjudged_reply sc state posting.worker posting.number) refl

-- with the entry of a posting that may be taken, the history replays to the state after it
told-replays : (sc : Scenario) (book : BookView) (opened : CoreState) (history : List EntryView) (state new : CoreState) (posting : Posting) (reply : Reply) → IsReplayed sc book opened history state → MayBeTaken sc book state posting → (reply, new) ≡ taken sc book state posting → replay_from sc book (history ++ entry_with_reply posting reply ∷ []) opened ≡ Some new
told-replays sc book opened history state new posting reply h may e =
    from-push sc book history (entry_with_reply posting reply) opened state new h.replays (subst (LeadsBy sc book state posting posting.said) (sym e) (taken-leads sc book state posting may))

-- the state after the posting has the same order
pub told-order : (sc : Scenario) (book : BookView) (opened : CoreState) (history : List EntryView) (state new : CoreState) (posting : Posting) (reply : Reply) → IsReplayed sc book opened history state → MayBeTaken sc book state posting → (reply, new) ≡ taken sc book state posting → new.order ≡ state.order
told-order sc book opened history state new posting reply h may e =
    replay-order sc book (history ++ entry_with_reply posting reply ∷ []) opened new (told-replays sc book opened history state new posting reply h may e)
    ∙ sym (replay-order sc book history opened state h.replays)

told-replayed : (sc : Scenario) (book : BookView) (opened : CoreState) (history : List EntryView) (state new : CoreState) (posting : Posting) (reply : Reply) → IsReplayed sc book opened history state → MayBeTaken sc book state posting → (reply, new) ≡ taken sc book state posting → IsReplayed sc book opened (history ++ entry_with_reply posting reply ∷ []) new
told-replayed sc book opened history state new posting reply h may e = record {
  auction = h.auction;
  in_order = h.in_order;
  kept = h.kept;
  replays = told-replays sc book opened history state new posting reply h may e;
}

-- ---- what the program keeps

-- with no pending receipt, the state of the auction is that of its query session
pub state-of-clock : (query_session : QuerySessionView) (pending_receipts : PendingReceiptsView) → query_session.state.noted ≡ [] → pending_receipts.noted ≡ [] → state_at query_session pending_receipts ≡ query_session.state
state-of-clock query_session pending_receipts e n = ap (λ noted. record query_session.state { noted = noted }) (n ∙ sym e)

pub first-between : (query_session : QuerySessionView) (pending_receipts : PendingReceiptsView) → IsOfAuction query_session.scenario query_session.book → IsInOrder query_session.book → KeepsTheRule query_session.scenario query_session.book query_session.state → query_session.state.noted ≡ [] → pending_receipts.workers ≡ length query_session.scenario.workers → pending_receipts.noted ≡ [] → IsBetween query_session pending_receipts query_session.state []
first-between query_session pending_receipts a o k e w n = record {
  places = w;
  replayed = subst (IsReplayed query_session.scenario query_session.book query_session.state []) (sym (state-of-clock query_session pending_receipts e n)) (none-replayed query_session.scenario query_session.book query_session.state a o k);
}

-- the same for an equal scenario and book
moved : (sc sc' : Scenario) (book book' : BookView) (opened : CoreState) (history : List EntryView) (state : CoreState) → sc' ≡ sc → book' ≡ book → IsReplayed sc book opened history state → IsReplayed sc' book' opened history state
moved sc sc' book book' opened history state e f h =
    subst (λ x. IsReplayed x book' opened history state) (sym e) (subst (λ x. IsReplayed sc x opened history state) (sym f) h)

pub told-between : (old new : QuerySessionView) (before after : PendingReceiptsView) (opened : CoreState) (history : List EntryView) (posting : Posting) (reply : Reply) → IsBetween old before opened history → MayBeTaken old.scenario old.book (state_at old before) posting → (reply, state_at new after) ≡ taken old.scenario old.book (state_at old before) posting → new.scenario ≡ old.scenario → new.book ≡ old.book → after.workers ≡ before.workers → IsBetween new after opened (history ++ entry_with_reply posting reply ∷ [])
told-between old new before after opened history posting reply h may t e f w = record {
  places = w ∙ (h.places ∙ sym (ap (λ (sc : Scenario). length sc.workers) e));
  replayed = moved old.scenario new.scenario old.book new.book opened (history ++ entry_with_reply posting reply ∷ []) (state_at new after) e f
      (told-replayed old.scenario old.book opened history (state_at old before) (state_at new after) posting reply h.replayed may t);
}

one-kept : (x y : Bool) → (x ≡ true → y ≡ true) → (if x then 1 else 0) ≤ (if y then 1 else 0)
one-kept false y f = omega arith
one-kept true true f = omega arith
one-kept true false f = let no : false ≡ true = f refl in cc

-- if no room is lost, there is still room for a posting
pub spare-kept : (query_session query_session' : QuerySessionView) (pending_receipts pending_receipts' : PendingReceiptsView) (capacity capacity' len len' : ℕ)
    → (query_session.ready ≡ true → query_session'.ready ≡ true) → (pending_receipts.ready ≡ true → pending_receipts'.ready ≡ true) → capacity ≤ capacity' → len' ≡ len
    → spare_of query_session pending_receipts (capacity - len) ≤ spare_of query_session' pending_receipts' (capacity' - len')
spare-kept query_session query_session' pending_receipts pending_receipts' capacity capacity' len len' f g more same =
    one-kept (query_session.ready && (pending_receipts.ready && nat_lt 0 (capacity - len))) (query_session'.ready && (pending_receipts'.ready && nat_lt 0 (capacity' - len'))) (λ h.
    let here = and_parts query_session.ready (pending_receipts.ready && nat_lt 0 (capacity - len)) h in
    let both = and_parts pending_receipts.ready (nat_lt 0 (capacity - len)) here.1 in
    let some : nat_lt 0 (capacity' - len') ≡ true = lt-ltb 0 (capacity' - len') (omega (arith, ltb-true 0 (capacity - len) both.1, more, same)) in
    rw (f here.0, g both.0, some) refl)

some-spare : (a b : Bool) (entries : ℕ) → 1 ≤ (if a && (b && nat_lt 0 entries) then 1 else 0) → (a ≡ true) × (b ≡ true)
some-spare true true entries h = (refl, refl)
some-spare true false entries h = absurd (omega arith)
some-spare false b entries h = absurd (omega arith)

-- if there is room for a posting, everything is ready for it
pub spare-ready : (query_session : QuerySessionView) (pending_receipts : PendingReceiptsView) (opened : CoreState) (history : List EntryView) (entries : ℕ) → IsBetween query_session pending_receipts opened history → 1 ≤ spare_of query_session pending_receipts entries → IsReady query_session pending_receipts
spare-ready query_session pending_receipts opened history entries h s =
    let room = some-spare query_session.ready pending_receipts.ready entries s in
    record {
      steps = room.0;
      receipts = room.1;
      places = h.places;
      rule = replayed-rule query_session.scenario query_session.book opened history (state_at query_session pending_receipts) h.replayed;
    }
