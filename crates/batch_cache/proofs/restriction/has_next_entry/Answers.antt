use Rattle.std.proofs.Common.{◌∙◌, ap}
use Rattle.pack_defs.specs.Lists.{has_entry}
use Rattle.batch_cache.proofs.PlaceLemmas.{channel-tells}
use Rattle.batch_cache.proofs.restriction.has_next_entry.Goals as goal

pub returns-in-Some : goal.returns-in-Some
returns-in-Some c =
    channel-tells c.entries.result.now c.args.next.now c.args.entry.0 c.args.entry.1 c.in-Some.channel
    (rw c.entries.ensures.entries c.entries.ensures.ascending) c.in-Some.ensures
    ∙ ap (λ es. has_entry es c.args.entry) c.entries.ensures.entries
