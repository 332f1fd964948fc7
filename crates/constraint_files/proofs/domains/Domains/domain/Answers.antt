use Rattle.std.proofs.Common.{◌≡◌, ◌<◌, ◌∙◌, Some, ap, length, rules, sym, get_or}
use Rattle.std.specs.declared.cmp.Ordering.TheVariants.{Equal}
use Rattle.std.proofs.lemmas.Cmp.{ranked}
use Rattle.std.proofs.lemmas.List.Sorted.{answers_always}
use Rattle.pack_defs.specs.declared.domain.Domain.{Domain}
use Rattle.constraint_files.proofs.LookupLemmas.{found, missing, searchable}
use Rattle.constraint_files.proofs.domains.Domains.domain.Goals as goal

pub returns-in-Ok : goal.returns-in-Ok
returns-in-Ok c =
    let list = c.self.inside.list.items in
    let d = c.index.result.now in
    let at = c.in-Ok.ensures.position (λ (x : Domain). x.station) (answers_always _ _ _ (λ f a r g h. search rules)) d in
    let station : (get_or list c.in-Ok.i d).station ≡ c.args.f = ranked _ c.args.f Equal (sym (rw c.deref.ensures.value at at)) in
    let inside : c.in-Ok.i < length list = rw c.deref.ensures.value at c.in-Ok.ensures.bound in
    let row = found list c.in-Ok.i c.args.f d c.self.invariant.stations inside station in
    rw (← c.self.view_is, c.as_slice.ensures) (ap (λ (x : Domain). Some x.channels) c.index.ensures ∙ sym row)

pub returns-in-Err : goal.returns-in-Err
returns-in-Err c =
    let list = c.self.inside.list.items in
    let point = c.in-Err.ensures.position (λ (x : Domain). x.station) (answers_always _ _ _ (λ f a r g h. search rules))
    (rw c.deref.ensures.value (searchable list c.args.f c.self.invariant.stations)) in
    let here = rw c.deref.ensures.value at point in
    rw (← c.self.view_is) (sym (missing list c.in-Err.field-0 c.args.f here.0 here.1))
