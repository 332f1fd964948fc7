use Rattle.std.proofs.Common.{rules}
use Rattle.std.proofs.lemmas.List.Sorted.{answers_always}
use Rattle.pack_defs.proofs.Searches.{found-at, found-no_key}
use Rattle.pack_defs.proofs.book.Book.index_of.Goals as goal

pub returns-in-Ok : goal.returns-in-Ok
returns-in-Ok c =
    let by_key = c.in-Ok.ensures.position (λ d. d.station) (answers_always _ _ _ (λ f a r g called. search rules)) in
    let own = found-at (λ d. d.station) c.deref.result.now c.args.f c.in-Ok.i c.in-Ok.ensures.bound by_key in
    rw (← c.self.view_is, ← c.deref.ensures.value) (c.in-Ok.ensures.bound, own)

pub returns-in-Err : goal.returns-in-Err
returns-in-Err c =
    let by_key = c.in-Err.ensures.position (λ d. d.station) (answers_always _ _ _ (λ f a r g called. search rules)) in
    let none = found-no_key (λ d. d.station) c.deref.result.now c.args.f c.in-Err.field-0 c.in-Err.ensures.bound by_key (rw c.deref.ensures.value c.self.invariant.0.domains.stations) in
    rw (← c.self.view_is, ← c.deref.ensures.value) none
