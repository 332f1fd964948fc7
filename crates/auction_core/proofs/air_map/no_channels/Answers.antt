-- By the lemma on one more slot.
use Rattle.std.proofs.Common.{rules, ap, ◌∙◌}
use Rattle.auction_core.specs.AirMap.{placed_entries}
use Rattle.auction_core.proofs.Placed.{none-anywhere, none-more}
use Rattle.auction_core.proofs.air_map.no_channels.Goals as goal

pub loop-init : goal.loop-init
loop-init c =
    (search rules, λ ss. ap (placed_entries ss) c.in_ok-channels.ensures.items ∙ none-anywhere ss)

pub loop-preserved : goal.loop-preserved
loop-preserved c =
    (search rules, λ ss. ap (placed_entries ss) c.in_ok-push.ensures.items ∙ none-more ss c.loop.channels.items ∙ c.loop.invariant.1 ss)
