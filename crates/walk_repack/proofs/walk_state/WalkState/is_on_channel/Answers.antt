use Rattle.std.proofs.Common.{◌≡◌, ◌∙◌, ap, subst, Some, nat_eq}
use Rattle.std.specs.Option.{option_eq}
use Rattle.pack_defs.specs.ChannelMap.{channel_of}
use Rattle.pack_defs.specs.Lists.{has_entry}
use Rattle.assign_check.proofs.Finds.{stands-exactly}
use Rattle.walk_repack.specs.WalkState.{WalkStateView}
use Rattle.walk_repack.proofs.walk_state.WalkState.is_on_channel.Goals as goal

pub returns : goal.returns
returns c =
    let s = c.args.station in
    let d = c.args.channel in
    let entries = c.self.inside.entries.items in
    subst (λ (v : WalkStateView). c.eq.result ≡ has_entry v.entries (s, d)) c.self.view_is
    (c.eq.ensures ∙ ap (λ o. option_eq nat_eq o (Some d)) (c.channel_in.ensures ∙ ap (channel_of s) c.deref.ensures.value) ∙ stands-exactly s d entries c.self.invariant.ascending)
