-- The auction continues from where it was.
use Rattle.std.proofs.Common.{refl}
use Rattle.answer_board.proofs.WasCurrentLemmas.{starts-itself}
use Rattle.race_wave.proofs.run.run_to_end.Goals as goal

pub waves-init : goal.waves-init
waves-init g c = record { beginning = refl; history = starts-itself c.args.auction.history; racers = c.requires.racers }
