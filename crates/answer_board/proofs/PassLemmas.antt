-- Lists of passes to a board.
use Rattle.std.proofs.Common.{◌≡◌, ℕ, ◌<◌, List, length, map, get_or, slice_set, sym, subst}
use Rattle.auction_core.specs.Replay.{EntryView}
use Rattle.auction_core.specs.QuerySession.{QuerySessionView}
use Rattle.turn_lock.specs.declared.chronicle.Chronicle.{Ghosts}
use Rattle.turn_lock.specs.declared.lock.Pass.{Pass}
use Rattle.turn_lock.specs.Passes.{PassStandsAt, pass_identity}
use Rattle.turn_lock.proofs.Makes.{all_from}
use Rattle.turn_lock.proofs.PassLists.{all_at, map_set}
use Rattle.answer_board.specs.declared.board.Board.{Board}
use Rattle.answer_board.specs.declared.kept.Kept.{Kept}
use Rattle.answer_board.specs.Boards.{AreAllOn, IsPassOn, kept_base, kept_entries}

module _ {G : Ghosts Kept QuerySessionView EntryView} where
  pub own-at : (board : Board) (ps : List (Pass Kept QuerySessionView EntryView G)) (i : ℕ) (d : Pass Kept QuerySessionView EntryView G) → AreAllOn board (map pass_identity ps) → i < length ps → IsPassOn board (get_or ps i d)
  own-at board ps i d h lt = all_at (λ p. IsPassOn board p) ps i d (all_from pass_identity (PassStandsAt kept_base kept_entries board.lock) ps h.own) lt

  pub set-all : (board : Board) (ps : List (Pass Kept QuerySessionView EntryView G)) (i : ℕ) (y d : Pass Kept QuerySessionView EntryView G) → pass_identity y ≡ pass_identity (get_or ps i d) → AreAllOn board (map pass_identity ps) → AreAllOn board (map pass_identity (slice_set ps i y))
  set-all board ps i y d same h = subst (λ ss. AreAllOn board ss) (sym (map_set pass_identity ps i y d same)) h
