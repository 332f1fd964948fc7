-- How the state of a worker's poll may change.
use Rattle.std.specs.Prelude.{◌≡◌, ℕ, List, Some, option_map}
use Rattle.auction_core.specs.QuerySession.{QuerySessionView}
use Rattle.auction_core.specs.Replay.{EntryView}
use Rattle.turn_lock.specs.declared.chronicle.Chronicle.{Ghosts}
use Rattle.turn_lock.specs.declared.lock.Pass.{Pass}
use Rattle.turn_lock.specs.Passes.{IsLegal, mine_of, seen_of, pass_identity}
use Rattle.turn_lock.specs.Turns.{StartsWith}
use Rattle.answer_board.specs.declared.board.Board.{Board}
use Rattle.answer_board.specs.declared.kept.Kept.{Kept}
use Rattle.answer_board.specs.Boards.{raised}
use Rattle.answer_board.specs.Posts.{left_by}

-- Whether the history leads to a state in which this is the number of the current query.
abbrev pub IsNumberAfter : Board → List (ℕ × EntryView) → ℕ → Type 0
IsNumberAfter board seen number = option_map (λ state. state.number) (left_by (raised board) seen) ≡ Some number

module _ {N : Type 0} {G : Ghosts Kept QuerySessionView EntryView} where
  -- Whether the poll is of the same board and the same pass, which has posted nothing, has seen at least what it had
  -- seen, and knows which entries are its own.
  pub record Goes (board : Board) (name : N) (old : Pass Kept QuerySessionView EntryView G) (board' : Board) (name' : N) (new : Pass Kept QuerySessionView EntryView G) : Type 0 where
    pub board_is : board' ≡ board
    pub name_is : name' ≡ name
    pub stands : pass_identity new ≡ pass_identity old
    pub seen : StartsWith (seen_of new) (seen_of old)
    pub mine : mine_of new ≡ mine_of old
    pub legal : IsLegal old → IsLegal new
