use Rattle.std.proofs.Common.{◌∙◌, rules, sym}
use Rattle.std.proofs.lemmas.List.Sorted.{answers_always}
use Rattle.pack_defs.proofs.BookLemmas.{channels_in-found, channels_in-none}
use Rattle.pack_defs.proofs.Searches.{found-key, found-no_key}
use Rattle.pack_defs.proofs.book.channels_of.Goals as goal

pub returns-in-Ok : goal.returns-in-Ok
returns-in-Ok c =
    let by_key = c.in-Ok.ensures.position (λ d. d.station) (answers_always _ _ _ (λ f a r g called. search rules)) in
    let d = c.index-domains-i.result in
    c.as_slice.ensures ∙ channels_in-found c.args.domains.now c.args.station c.in-Ok.i d c.requires c.in-Ok.ensures.bound c.index-domains-i.is (found-key (λ d. d.station) c.args.domains.now c.args.station c.in-Ok.i d by_key)

pub returns-in-Err : goal.returns-in-Err
returns-in-Err c =
    let by_key = c.in-Err.ensures.position (λ d. d.station) (answers_always _ _ _ (λ f a r g called. search rules)) in
    sym (channels_in-none c.args.domains.now c.args.station (found-no_key (λ d. d.station) c.args.domains.now c.args.station c.in-Err.field-0 c.in-Err.ensures.bound by_key c.requires))
