-- The search finds the station's entry, or finds that there is none.
use Rattle.std.proofs.Common.{◌<◌, ◌∙◌, length, rules, sym}
use Rattle.std.proofs.lemmas.List.Sorted.{answers_always}
use Rattle.pack_defs.proofs.MapLemmas.{channel_of-found, channel_of-none}
use Rattle.pack_defs.proofs.Searches.{found-key, found-no_key}
use Rattle.freeze_ledger.proofs.LedgerLemmas.{price-entry}
use Rattle.freeze_ledger.proofs.ledger.Ledger.paid.Goals as goal

pub returns-in-Ok : goal.returns-in-Ok
returns-in-Ok c =
    let by_key = c.in-Ok.ensures.position (λ x. x.0) (answers_always _ _ _ (λ f a r g called. search rules)) in
    let items = c.self.inside.entries.items in
    let own = found-key (λ x. x.0) items c.args.station c.in-Ok.i c.index.result.now (rw c.deref.ensures.value at by_key) in
    let bound : c.in-Ok.i < length items = rw (← c.deref.ensures.value) c.in-Ok.ensures.bound in
    rw (← c.self.view_is) (channel_of-found items c.args.station c.in-Ok.i c.index.result.now c.self.invariant.0 bound c.index.ensures own ∙ price-entry c.args.station items)

pub returns-in-Err : goal.returns-in-Err
returns-in-Err c =
    let by_key = c.in-Err.ensures.position (λ x. x.0) (answers_always _ _ _ (λ f a r g called. search rules)) in
    let none = found-no_key (λ x. x.0) c.deref.result.now c.args.station c.in-Err.field-0 c.in-Err.ensures.bound by_key (rw c.deref.ensures.value c.self.invariant.0) in
    rw (← c.self.view_is, ← c.deref.ensures.value) (sym (channel_of-none c.deref.result.now c.args.station none) ∙ price-entry c.args.station c.deref.result.now)
