use Rattle.std.proofs.Common.{get_or, rules, sym}
use Rattle.std.proofs.lemmas.List.{get_or_default}
use Rattle.std.proofs.lemmas.List.Sorted.{answers_always}
use Rattle.pack_defs.proofs.MapLemmas.{channel_of-found, channel_of-none}
use Rattle.pack_defs.proofs.Searches.{found-key, found-no_key}
use Rattle.assign_check.proofs.assignment.channel_in.Goals as goal

pub returns-in-Ok : goal.returns-in-Ok
returns-in-Ok c =
    let by_key = c.in-Ok.ensures.position (λ x. x.0) (answers_always _ _ _ (λ f a r g called. search rules)) in
    let items = c.args.entries.now in
    let i = c.in-Ok.i in
    let x = get_or items i (0, 0) in
    let own = found-key (λ x. x.0) items c.args.station i x by_key in
    channel_of-found items c.args.station i x c.requires c.in-Ok.ensures.bound (get_or_default items i (0, 0) x c.in-Ok.ensures.bound) own

pub returns-in-Err : goal.returns-in-Err
returns-in-Err c =
    let by_key = c.in-Err.ensures.position (λ x. x.0) (answers_always _ _ _ (λ f a r g called. search rules)) in
    let none = found-no_key (λ x. x.0) c.args.entries.now c.args.station c.in-Err.field-0 c.in-Err.ensures.bound by_key c.requires in
    sym (channel_of-none c.args.entries.now c.args.station none)
