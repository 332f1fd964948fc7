-- The workers of a wave.
use Rattle.std.specs.Prelude.{◌≡◌, ◌⊎◌, ◌++◌, ℕ, Bool, List, true, false, Some, slice_get, ⊤}
use Rattle.pack_defs.specs.Book.{BookView}
use Rattle.pack_defs.specs.declared.worker.Worker.{Worker}
use Rattle.cert_types.specs.Valid.{IsValid}
use Rattle.cert_types.specs.declared.poll.Attempt.{Attempt}
use Rattle.cert_types.specs.declared.poll.Attempt.TheVariants.{Said, Moved}
use Rattle.cert_types.specs.declared.task.Task.{Task}
use Rattle.auction_core.specs.QuerySession.{QuerySessionView}
use Rattle.auction_core.specs.declared.posting.Reply.{Reply}
use Rattle.auction_core.specs.declared.posting.Reply.TheVariants.{Ended, WrongQuery, Stranger, Rejected, Advanced, AlreadySpent, Noted}
use Rattle.auction_core.specs.Replay.{EntryView}
use Rattle.auction_core.specs.State.{CoreState, has_ended}
use Rattle.auction_core.specs.Take.{is_noted}
use Rattle.turn_lock.specs.declared.chronicle.Chronicle.{Ghosts}
use Rattle.turn_lock.specs.declared.lock.Pass.{Pass}
use Rattle.turn_lock.specs.Passes.{IsLegal, IsPassIdle, mine_of, pass_number, seen_of, pass_identity}
use Rattle.turn_lock.specs.Turns.{AllOf, StartsWith}
use Rattle.answer_board.specs.declared.board.Board.{Board}
use Rattle.answer_board.specs.declared.kept.Kept.{Kept}
use Rattle.answer_board.specs.Boards.{IsPassOn, raised}
use Rattle.answer_board.specs.Posts.{SeesState, is_faultless}
use Rattle.race_wave.specs.declared.runner.Runner.{Runner}

-- Whether the answer of an attempt is valid, if it has one.
abbrev pub SaysValid : BookView → Task → Worker → Attempt → Type 0
SaysValid book task worker (Said answer) = IsValid book task worker answer
SaysValid book task worker (Moved now) = ⊤

-- Whether the worker has nothing left to do in this state: the auction has ended, or its receipt is pending on the
-- current query.
abbrev pub HasNothingLeft : ℕ → CoreState → Type 0
HasNothingLeft w state = (has_ended state ≡ true) ⊎ (is_noted state.noted w ≡ true)

-- Whether the worker has nothing left to do after this reply.
abbrev pub ends_turn : Reply → Bool
ends_turn Ended = true
ends_turn (WrongQuery now) = false
ends_turn Stranger = false
ends_turn (Rejected place) = false
ends_turn (Advanced next) = false
ends_turn AlreadySpent = true
ends_turn Noted = true

-- Whether the list continues the old one with entries of known workers that were not rejected.
pub record HasPosted (old new : List (ℕ × EntryView)) : Type 0 where
  pub more : List (ℕ × EntryView)
  pub is : new ≡ old ++ more
  pub faultless : AllOf (λ e. is_faultless e.1.reply ≡ true) more

module _ {G : Ghosts Kept QuerySessionView EntryView} where
  -- Whether the worker has nothing left to do after what it has seen.
  abbrev pub SeesNothingLeft : Board → Pass Kept QuerySessionView EntryView G → Type 0
  SeesNothingLeft board pass = SeesState (raised board) (seen_of pass) (HasNothingLeft (pass_number pass))

  -- Whether this is a pass to the board, outside of a turn, and its worker.
  pub record IsRunner (board : Board) (pass : Pass Kept QuerySessionView EntryView G) (worker : Worker) : Type 0 where
    pub own : IsPassOn board pass
    pub idle : IsPassIdle pass
    pub of : slice_get (raised board).scenario.workers (pass_number pass) ≡ Some worker

  -- Whether this is the same pass, which has seen at least what it had seen and has posted no invalid answer.
  pub record IsSamePass (old new : Pass Kept QuerySessionView EntryView G) : Type 0 where
    pub stands : pass_identity new ≡ pass_identity old
    pub seen : StartsWith (seen_of new) (seen_of old)
    pub posted : HasPosted (mine_of old) (mine_of new)

-- Whether a wave leaves the same worker with the same pass, which knows which entries are its own. Unless memory ran
-- out, the worker has nothing left to do.
pub record HasRaced {R : Type 0} (worker_of : R → Worker) (board : Board) (old new : Runner R) : Type 0 where
  pub runner : IsRunner board new.pass (worker_of new.racer)
  pub same : IsSamePass old.pass new.pass
  pub legal : IsLegal new.pass
  pub worker : worker_of new.racer ≡ worker_of old.racer
  pub done : new.refused ≡ false → SeesNothingLeft board new.pass
