-- The state after a wave is at least as near to the end as before.
use Rattle.std.proofs.Common.{◌≡◌, ◌∙◌, ap, subst}
use Rattle.turn_lock.specs.Turns.{StartsWith}
use Rattle.auction_core.specs.Auction.{AuctionView}
use Rattle.answer_board.specs.Boards.{beginning_of}
use Rattle.race_wave.specs.Serial.{ComesCloserToEnd}
use Rattle.race_wave.proofs.MeasureLemmas.{later-nears}
use Rattle.race_wave.proofs.RunLemmas.{ok-gives}
use Rattle.race_wave.proofs.run.race_with_buffers.Goals as goal

pub returns-clause-comes_closer_to_end : goal.returns-clause-comes_closer_to_end
returns-clause-comes_closer_to_end g c =
    let old = c.args.auction in
    let new = c.race_on_board-done.result.auction in
    let begins : beginning_of new ≡ beginning_of old = c.race_on_board-done.ensures.beginning ∙ ap beginning_of c.in-Ok.ensures.raised in
    let history : StartsWith new.history old.history = subst (λ (a : AuctionView). StartsWith new.history a.history) c.in-Ok.ensures.raised c.race_on_board-done.ensures.history in
    let nears : ComesCloserToEnd old.scenario old.state new.state = later-nears old new begins history c.keeps_the_rule.ensures.replays c.keeps_the_rule-2.ensures.replays in
    ok-gives _ c.unless_out_of_memory.result (λ r. ComesCloserToEnd old.scenario old.state r.0.state) nears c.unless_out_of_memory.ensures
