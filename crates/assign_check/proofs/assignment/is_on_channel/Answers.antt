use Rattle.std.proofs.Common.{◌∙◌, ap, Some, nat_eq}
use Rattle.std.specs.Option.{option_eq}
use Rattle.assign_check.proofs.Finds.{stands-exactly}
use Rattle.assign_check.proofs.assignment.is_on_channel.Goals as goal

pub returns : goal.returns
returns c =
    c.eq.ensures ∙ ap (λ o. option_eq nat_eq o (Some c.args.c)) c.channel_in.ensures ∙ stands-exactly c.args.station c.args.c c.args.entries.now c.requires
