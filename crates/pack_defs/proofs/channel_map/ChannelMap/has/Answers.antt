use Rattle.std.proofs.Common.{◌∙◌, ap, Some, nat_eq}
use Rattle.std.specs.Option.{option_eq}
use Rattle.pack_defs.proofs.MapLemmas.{stands-exactly}
use Rattle.pack_defs.proofs.channel_map.ChannelMap.has.Goals as goal

pub returns : goal.returns
returns c =
    c.eq.ensures ∙ ap (λ o. option_eq nat_eq o (Some c.args.channel)) c.get.ensures ∙ stands-exactly c.args.station c.args.channel c.args.self.now c.keeps_order.ensures
