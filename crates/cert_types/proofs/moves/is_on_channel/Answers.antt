use Rattle.std.proofs.Common.{◌∙◌, ap, Some, nat_eq}
use Rattle.std.specs.Option.{option_eq}
use Rattle.assign_check.proofs.Finds.{stands-exactly}
use Rattle.cert_types.proofs.moves.is_on_channel.Goals as goal

pub returns : goal.returns
returns c =
    c.eq.ensures ∙ ap (λ o. option_eq nat_eq o (Some c.args.x.1)) c.channel.ensures ∙ stands-exactly c.args.x.0 c.args.x.1 c.args.map.now.entries c.keeps_order.ensures
