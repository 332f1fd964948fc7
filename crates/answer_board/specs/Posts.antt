-- What a pass sees of an auction, and what a posting changes.
use Rattle.std.specs.Prelude.{◌≡◌, ◌++◌, ◌∷◌, [], ℕ, Bool, List, Option, Some, false, slice_get, true}
use Rattle.pack_defs.specs.Book.{BookView}
use Rattle.pack_defs.specs.declared.scenario.Scenario.{Scenario}
use Rattle.cert_types.specs.Query.{IsQuery}
use Rattle.auction_core.specs.Auction.{AuctionView}
use Rattle.auction_core.specs.Replay.{EntryView, entry_of, replay_from}
use Rattle.auction_core.specs.State.{CoreState, has_ended, task_of}
use Rattle.auction_core.specs.Take.{PostingView, take}
use Rattle.auction_core.specs.declared.posting.Reply.{Reply}
use Rattle.auction_core.specs.declared.posting.Reply.TheVariants.{Ended as WasEnded, WrongQuery, Stranger, Rejected, Advanced, AlreadySpent, Noted}
use Rattle.turn_lock.specs.declared.chronicle.PassKnowledge.{PassKnowledge}
use Rattle.turn_lock.specs.Turns.{StartsWith}
use Rattle.pack_defs.specs.declared.worker.Worker.{Worker}
use Rattle.cert_types.specs.declared.answer.Answer.{Answer}
use Rattle.cert_types.specs.declared.task.Task.{Task as Query}
use Rattle.auction_core.specs.declared.posting.Posting.{Posting}
use Rattle.auction_core.specs.Said.{JudgesAnswer}
use Rattle.answer_board.specs.declared.post.EarlyPost.{EarlyPost}
use Rattle.answer_board.specs.declared.post.EarlyPost.TheVariants.{Replied, MustJudge}
use Rattle.answer_board.specs.declared.look.Look.{Look}
use Rattle.answer_board.specs.declared.look.Look.TheVariants.{Task, Ended}
use Rattle.answer_board.specs.Boards.{beginning_of}
use Rattle.answer_board.specs.Entries.{plain_entries}

-- The state that this history leads to from the auction's opening state.
abbrev pub left_by : AuctionView → List (ℕ × EntryView) → Option CoreState
left_by raised log = replay_from raised.scenario raised.book (plain_entries log) raised.opened

-- Whether this is what a look returns: the current query, which a solver may be asked, or the end of the auction.
abbrev pub LookIs : Scenario → BookView → CoreState → Look → Type 0
LookIs sc book state (Task task) = (task_of sc book state ≡ Some task) × IsQuery book task
LookIs sc book state Ended = has_ended state ≡ true

-- Whether the posting changed the auction as the definition says, and the history has the posting.
pub record IsPostingTaken (old new : AuctionView) (posting : PostingView) (reply : Reply) : Type 0 where
  pub told : (reply, new.state) ≡ take old.scenario old.book old.state posting
  pub history : new.history ≡ old.history ++ entry_of posting reply ∷ []
  pub beginning : beginning_of new ≡ beginning_of old

-- Whether nothing changed except the capacity of the history.
pub record IsUnchangedBoard (old new : AuctionView) : Type 0 where
  pub beginning : beginning_of new ≡ beginning_of old
  pub history : new.history ≡ old.history

-- Whether the history seen leads to a state with this property.
pub record SeesState (raised : AuctionView) (seen : List (ℕ × EntryView)) (Holds : CoreState → Type 0) : Type 0 where
  pub state : CoreState
  pub replays : left_by raised seen ≡ Some state
  pub holds : Holds state

-- Whether the posting is in the history, after all that the pass had seen before, its reply is the one for the state
-- just before it, and it is among the pass's own.
pub record IsPosted (raised : AuctionView) (posting : PostingView) (old new : PassKnowledge EntryView) (reply : Reply) : Type 0 where
  pub before : List (ℕ × EntryView)
  pub state : CoreState
  pub begins : StartsWith before old.seen
  pub replays : left_by raised before ≡ Some state
  pub told : reply ≡ (take raised.scenario raised.book state posting).0
  pub seen : new.seen ≡ before ++ (posting.worker, entry_of posting reply) ∷ []
  pub leaves : left_by raised new.seen ≡ Some (take raised.scenario raised.book state posting).1
  pub mine : new.mine ≡ old.mine ++ (posting.worker, entry_of posting reply) ∷ []

-- Whether the reply is possible for a known worker and a valid answer to the query of its number: the answer may be
-- late, but it is not rejected.
abbrev pub is_faultless : Reply → Bool
is_faultless WasEnded = true
is_faultless (WrongQuery now) = true
is_faultless Stranger = false
is_faultless (Rejected place) = false
is_faultless (Advanced next) = true
is_faultless AlreadySpent = true
is_faultless Noted = true

-- Whether the query was current in some state that the history seen went through.
pub record WasCurrent (raised : AuctionView) (seen : List (ℕ × EntryView)) (task : Query) : Type 0 where
  pub before : List (ℕ × EntryView)
  pub begins : StartsWith seen before
  pub state : CoreState
  pub replays : left_by raised before ≡ Some state
  pub stands : task_of raised.scenario raised.book state ≡ Some task

-- Whether the verdict on this answer stays correct however the history seen continues, unless the posting is turned
-- away.
abbrev pub StaysJudged : AuctionView → List (ℕ × EntryView) → Posting → Answer → Type 0
StaysJudged raised seen posting answer =
    (log : List (ℕ × EntryView)) (state : CoreState) → StartsWith log seen → left_by raised log ≡ Some state → JudgesAnswer raised.scenario raised.book state posting answer

-- Whether this is the current query and the worker with this number.
pub record MustBeJudged (now : AuctionView) (w n : ℕ) (task : Query) (of : Worker) : Type 0 where
  pub stands : task_of now.scenario now.book now.state ≡ Some task
  pub query : IsQuery now.book task
  pub worker : slice_get now.scenario.workers w ≡ Some of
  pub number : n ≡ task.number

-- Whether this is the result of a posting before the check: it was posted whatever its answer, or nothing changed and
-- the query is current.
abbrev pub IsEarlyPost : AuctionView → AuctionView → ℕ → ℕ → EarlyPost → Type 0
IsEarlyPost old new w number (Replied reply) = (answer : Answer) → IsPostingTaken old new (record { worker = w; number = number; answer = answer }) reply
IsEarlyPost old new w number (MustJudge task worker) = IsUnchangedBoard old new × MustBeJudged old w number task worker

-- Whether the first turn of a posting on a board posted nothing, and the answer is to be checked for this query and
-- worker.
pub record MustBeJudgedOn (raised : AuctionView) (w n : ℕ) (old new : PassKnowledge EntryView) (task : Query) (of : Worker) : Type 0 where
  pub mine : new.mine ≡ old.mine
  pub was_current : WasCurrent raised new.seen task
  pub query : IsQuery raised.book task
  pub worker : slice_get raised.scenario.workers w ≡ Some of
  pub number : n ≡ task.number

-- Whether the first turn of a posting on a board had this result: the posting was turned away with a reply, or its
-- answer is to be checked.
abbrev pub IsEarlyPostOn : AuctionView → ℕ → ℕ → PassKnowledge EntryView → PassKnowledge EntryView → EarlyPost → Type 0
IsEarlyPostOn raised w number old new (Replied reply) = (answer : Answer) → IsPosted raised (record { worker = w; number = number; answer = answer }) old new reply
IsEarlyPostOn raised w number old new (MustJudge task worker) = MustBeJudgedOn raised w number old new task worker
