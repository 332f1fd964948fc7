-- The history begins with the one at the opening of the board.
use Rattle.std.proofs.Common.{refl}
use Rattle.answer_board.specs.Boards.{raised}
use Rattle.race_wave.proofs.MeasureLemmas.{board-starts}
use Rattle.race_wave.proofs.run.race_on_board.Goals as goal

pub returns-clause-history : goal.returns-clause-history
returns-clause-history g c =
    board-starts (raised c.args.board) (raised c.args.board) c.close-auction.result c.close-auction.ensures.history.tail refl c.close-auction.ensures.history.log_is
