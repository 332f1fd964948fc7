-- A board and its passes.
use Rattle.std.specs.Prelude.{◌≡◌, ℕ, List, true}
use Rattle.auction_core.specs.Auction.{AuctionView}
use Rattle.auction_core.specs.QuerySession.{QuerySessionView}
use Rattle.auction_core.specs.Replay.{EntryView}
use Rattle.turn_lock.specs.declared.chronicle.Chronicle.{Ghosts}
use Rattle.turn_lock.specs.declared.lock.Pass.{Pass}
use Rattle.turn_lock.specs.Passes.{AreAllOf, IsPassIdle, IsLegal, IsPassOf, PassIdentity, value_under, seen_of, pass_identity}
use Rattle.turn_lock.specs.Turns.{StartsWith}
use Rattle.answer_board.specs.declared.board.Board.{Board}
use Rattle.answer_board.specs.declared.kept.Kept.{Kept}
use Rattle.answer_board.specs.Entries.{numbered}

-- What no posting changes of an auction: its scenario, its book, and its opening state.
abbrev pub beginning_of : AuctionView → QuerySessionView
beginning_of auction = record { scenario = auction.scenario; book = auction.book; state = auction.opened; ready = true }

-- What no posting changes of the auction behind the lock.
abbrev pub kept_base : Kept → QuerySessionView
kept_base kept = beginning_of kept.auction

-- The entries of the value behind the lock, each with its worker's number.
abbrev pub kept_entries : Kept → List (ℕ × EntryView)
kept_entries kept = numbered kept.auction.history

-- The auction that was put on the board.
abbrev pub raised : Board → AuctionView
raised board = (value_under board.lock).auction

-- Whether this is a pass to the board.
abbrev pub IsPassOn : {G : Ghosts Kept QuerySessionView EntryView} → Board → Pass Kept QuerySessionView EntryView G → Type 0
IsPassOn board pass = IsPassOf kept_base kept_entries board.lock pass

-- Whether this is a pass to the board that is outside of a turn, as every call needs it.
pub record IsIdleOn {G : Ghosts Kept QuerySessionView EntryView} (board : Board) (pass : Pass Kept QuerySessionView EntryView G) : Type 0 where
  pub own : IsPassOn board pass
  pub idle : IsPassIdle pass

-- Whether a call leaves the same pass, outside of a turn, which has seen at least what it had seen and knows which
-- entries are its own.
pub record StaysIdle {G : Ghosts Kept QuerySessionView EntryView} (board : Board) (old new : Pass Kept QuerySessionView EntryView G) : Type 0 where
  pub own : IsPassOn board new
  pub idle : IsPassIdle new
  pub stands : pass_identity new ≡ pass_identity old
  pub seen : StartsWith (seen_of new) (seen_of old)
  pub legal : IsLegal new

-- Whether these are all the passes to the board, the first one in front.
abbrev pub AreAllOn : Board → List (PassIdentity QuerySessionView EntryView) → Type 0
AreAllOn board passes = AreAllOf kept_base kept_entries board.lock passes
