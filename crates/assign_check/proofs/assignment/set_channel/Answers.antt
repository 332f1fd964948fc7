use Rattle.std.proofs.Common.{◌==◌, ◌∙◌, rules, sym}
use Rattle.std.proofs.lemmas.Bool.{both_ways}
use Rattle.std.proofs.lemmas.List.Sorted.{answers_always}
use Rattle.pack_defs.proofs.Searches.{found-key, found-no_key}
use Rattle.pack_defs.proofs.Words.{list_any-map}
use Rattle.pack_defs.specs.Lists.{has_station}
use Rattle.assign_check.proofs.Moves.{put-at}
use Rattle.assign_check.proofs.assignment.set_channel.Goals as goal

pub returns-in-Ok : goal.returns-in-Ok
returns-in-Ok c =
    let by_key = c.in-Ok.ensures.position (λ x. x.0) (answers_always _ _ _ (λ f a r g called. search rules)) in
    let items = c.args.entries.now.items in
    let bound = rw c.deref.ensures.value at c.in-Ok.ensures.bound in
    put-at items (c.args.station, c.args.c) c.in-Ok.i (0, 0) c.requires.ascending bound (found-key (λ x. x.0) items c.args.station c.in-Ok.i (0, 0) (rw c.deref.ensures.value at by_key))

pub returns-in_default : goal.returns-in_default
returns-in_default c =
    let by_key = c.in_default.ensures.position (λ x. x.0) (answers_always _ _ _ (λ f a r g called. search rules)) in
    let items = c.args.entries.now.items in
    let none = found-no_key (λ x. x.0) c.deref.result.now c.args.station c.in_default.field-0 c.in_default.ensures.bound by_key (rw c.deref.ensures.value c.requires.ascending) in
    let missing = rw c.deref.ensures.value at none in
    absurd (both_ways (has_station items c.args.station) (sym (list_any-map (λ z. z == c.args.station) (λ y. y.0) items) ∙ missing) c.requires.there)
