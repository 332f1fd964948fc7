-- An auction between two postings, as callers see it and as the program keeps it.
use Rattle.std.specs.Prelude.{ℕ, ◌≡◌, true, ◌&&◌, nat_lt, if◌then◌else◌, List, length, Option, Some, None, option_and_then}
use Rattle.pack_defs.specs.Book.{BookView, IsInOrder}
use Rattle.pack_defs.specs.declared.scenario.Scenario.{Scenario}
use Rattle.cert_types.specs.declared.answer.Answer.{Answer}
use Rattle.auction_core.specs.declared.posting.Posting.{Posting}
use Rattle.auction_core.specs.declared.posting.Reply.{Reply}
use Rattle.auction_core.specs.declared.posting.Said.{Said}
use Rattle.auction_core.specs.declared.posting.Said.TheVariants.{Good, Bad}
use Rattle.auction_core.specs.QuerySession.{QuerySessionView}
use Rattle.auction_core.specs.PendingReceipts.{PendingReceiptsView}
use Rattle.auction_core.specs.Replay.{EntryView, kept_answer, replay_from}
use Rattle.auction_core.specs.Rule.{KeepsTheRule}
use Rattle.auction_core.specs.Setup.{IsOfAuction}
use Rattle.auction_core.specs.State.{CoreState}

-- An auction between two postings: its scenario and book, the state in which it was opened, its state now, the history of the
-- postings since, and room for how many further postings.
pub record AuctionView : Type 0 where
  pub scenario : Scenario
  pub book : BookView
  pub opened : CoreState
  pub state : CoreState
  pub history : List EntryView
  pub spare : ℕ

-- The state of an auction between two postings: that of its query session, with the pending receipts.
abbrev pub state_at : QuerySessionView → PendingReceiptsView → CoreState
state_at query_session pending_receipts = record query_session.state { noted = pending_receipts.noted }

-- Whether a posting may be applied: there is room for its steps and receipts, a slot for each worker's receipt, and the clock rule
-- is kept.
pub record IsReady (query_session : QuerySessionView) (pending_receipts : PendingReceiptsView) : Type 0 where
  pub steps : query_session.ready ≡ true
  pub receipts : pending_receipts.ready ≡ true
  pub places : pending_receipts.workers ≡ length query_session.scenario.workers
  pub rule : KeepsTheRule query_session.scenario query_session.book (state_at query_session pending_receipts)

-- The number of postings there is room for, one or none, given room for this many entries of the history.
abbrev pub spare_of : QuerySessionView → PendingReceiptsView → ℕ → ℕ
spare_of query_session pending_receipts entries = if query_session.ready && (pending_receipts.ready && nat_lt 0 entries) then 1 else 0

-- Whether the scenario and book are those of an auction, the opened state keeps the clock rule, and the history replays from the
-- opened state to this state.
pub record IsReplayed (sc : Scenario) (book : BookView) (opened : CoreState) (history : List EntryView) (state : CoreState) : Type 0 where
  pub auction : IsOfAuction sc book
  pub in_order : IsInOrder book
  pub kept : KeepsTheRule sc book opened
  pub replays : replay_from sc book history opened ≡ Some state

-- What the program keeps between two postings: a slot for each worker's receipt, and a history that replays from the opened state
-- to the current state.
pub record IsBetween (query_session : QuerySessionView) (pending_receipts : PendingReceiptsView) (opened : CoreState) (history : List EntryView) : Type 0 where
  pub places : pending_receipts.workers ≡ length query_session.scenario.workers
  pub replayed : IsReplayed query_session.scenario query_session.book opened history (state_at query_session pending_receipts)

-- The accepted answer; `None` if it was rejected.
abbrev pub accepted_answer : Said → Option Answer
accepted_answer (Good certified) = Some certified.answer
accepted_answer (Bad place) = None

-- The history entry of a posting whose answer was checked, with its reply.
abbrev pub entry_with_reply : Posting → Reply → EntryView
entry_with_reply posting reply =
    record {
      worker = posting.worker;
      number = posting.number;
      reply = reply;
      answer = option_and_then (kept_answer reply) (accepted_answer posting.said);
    }
