use Rattle.std.proofs.Common.{◌≡◌, map}
use Rattle.auction_core.specs.State.{queries_left}
use Rattle.turn_lock.specs.Turns.{StartsWith}
use Rattle.answer_board.specs.Boards.{beginning_of}
use Rattle.race_wave.proofs.run.run_to_end.Given as goal

abbrev pub invariant-waves : goal.invariant-waves
invariant-waves g l = record {
  beginning : beginning_of l.auction ≡ beginning_of l.fn.auction;
  history : StartsWith l.auction.history l.fn.auction.history;
  racers : map g.R.Racer.worker l.racers.items ≡ l.auction.scenario.workers;
}

abbrev pub decreases-waves : goal.decreases-waves
decreases-waves g l = queries_left l.auction.scenario l.auction.state
