-- What a serial turn changes of an auction. That racers try the current query in turn is this project's own.
use Rattle.std.specs.Prelude.{ℕ, Bool, true, false, not, ◌+◌, ◌<◌, ◌≡◌, ◌⊎◌, List, [], ◌∷◌, ◌++◌, filter, length, map, ⊤}
use Rattle.std.specs.List.{range_with_len}
use Rattle.pack_defs.specs.declared.scenario.Scenario.{Scenario}
use Rattle.cert_types.specs.declared.answer.Answer.TheVariants.{Spent}
use Rattle.cert_types.specs.declared.answer.Receipt.{Receipt}
use Rattle.auction_core.specs.declared.posting.Reply.{Reply}
use Rattle.auction_core.specs.declared.posting.Reply.TheVariants.{Ended, WrongQuery, Stranger, Rejected, Advanced, AlreadySpent, Noted}
use Rattle.auction_core.specs.Auction.{AuctionView}
use Rattle.auction_core.specs.Replay.{EntryView, entry_of}
use Rattle.auction_core.specs.Rule.{KeepsTheRule}
use Rattle.auction_core.specs.State.{CoreState, NotedSpent, has_ended, queries_left}
use Rattle.auction_core.specs.Take.{is_noted, noted_with}
use Rattle.turn_lock.specs.Turns.{StartsWith}

-- Whether these entries may follow this reply within a turn: any may follow Noted, and none may follow Advanced;
-- other replies do not occur in a turn.
abbrev pub ComesAfter : Reply → List EntryView → Type 0
ComesAfter Ended after = ⊥
ComesAfter (WrongQuery now) after = ⊥
ComesAfter Stranger after = ⊥
ComesAfter (Rejected place) after = ⊥
ComesAfter (Advanced next) after = after ≡ []
ComesAfter AlreadySpent after = ⊥
ComesAfter Noted after = ⊤

-- Whether an entry is of a turn at the query with this number, by one of `count` workers, before these entries.
pub record IsInTurn (number count : ℕ) (e : EntryView) (after : List EntryView) : Type 0 where
  pub query : e.number ≡ number
  pub worker : e.worker < count
  pub reply : ComesAfter e.reply after

-- Whether these are the entries of a turn: each is Noted, except that the last may be Advanced.
abbrev pub AreOfTurn : ℕ → ℕ → List EntryView → Type 0
AreOfTurn number count [] = ⊤
AreOfTurn number count (e ∷ after) = IsInTurn number count e after × AreOfTurn number count after

-- The workers 0 to `count` - 1, in order, without those of these pending receipts.
abbrev pub without_receipt : List NotedSpent → ℕ → List ℕ
without_receipt noted count = filter (λ w. not (is_noted noted w)) (range_with_len 0 count)

-- Whether the new auction continues the old one: scenario, book, opening state and order are the same, the history is
-- the old one and then entries of a turn at the query that was current, and the clock rule holds. The workers of these
-- entries are the first of those without a pending receipt, in order, each once.
pub record IsContinued (old new : AuctionView) : Type 0 where
  pub scenario : new.scenario ≡ old.scenario
  pub book : new.book ≡ old.book
  pub opened : new.opened ≡ old.opened
  pub order : new.state.order ≡ old.state.order
  pub more : List EntryView
  pub history : new.history ≡ old.history ++ more
  pub turn : AreOfTurn old.state.number (length old.scenario.workers) more
  pub workers : StartsWith (without_receipt old.state.noted (length old.scenario.workers)) (map (λ e. e.worker) more)
  pub rule : KeepsTheRule new.scenario new.book new.state

-- Whether the query is settled: the next number is current, and fewer queries are left.
pub record IsSettledSince (sc : Scenario) (old new : CoreState) : Type 0 where
  pub number : new.number ≡ old.number + 1
  pub fewer : queries_left sc new < queries_left sc old

-- Whether the query is settled, if one was current.
abbrev pub IsSettledIfCurrent : Scenario → CoreState → CoreState → Type 0
IsSettledIfCurrent sc old new = has_ended old ≡ false → IsSettledSince sc old new

-- Whether fewer queries are left, or only the pending receipts differ.
abbrev pub ComesCloserToEnd : Scenario → CoreState → CoreState → Type 0
ComesCloserToEnd sc old new = (queries_left sc new < queries_left sc old) ⊎ (new ≡ record old { noted = new.noted })

-- Whether nothing changed, if the auction had ended.
abbrev pub UnchangedAtEnd : AuctionView → AuctionView → Type 0
UnchangedAtEnd old new = has_ended old.state ≡ true → new ≡ old

-- Whether the same query is current, and the worker's receipt is pending on it beside the earlier ones.
pub record IsNotedFor (w : ℕ) (old new : AuctionView) : Type 0 where
  pub receipt : Receipt
  pub same : new.state ≡ record old.state { noted = noted_with (record { worker = w; receipt = receipt }) old.state.noted }
  pub history : new.history ≡ old.history ++ entry_of (record { worker = w; number = old.state.number; answer = Spent receipt }) Noted ∷ []

-- Whether a worker's answer changed the auction correctly: it settled the query, or its receipt was noted.
abbrev pub LeavesAfterAnswer : ℕ → AuctionView → AuctionView → Bool → Type 0
LeavesAfterAnswer w old new true = IsSettledSince old.scenario old.state new.state
LeavesAfterAnswer w old new false = IsNotedFor w old new

-- Whether the posting settled the query.
abbrev pub is_advanced : Reply → Bool
is_advanced Ended = false
is_advanced (WrongQuery now) = false
is_advanced Stranger = false
is_advanced (Rejected place) = false
is_advanced (Advanced next) = true
is_advanced AlreadySpent = false
is_advanced Noted = false
