use Rattle.std.proofs.Common.{◌≡◌, ◌∙◌, ap, sym, refl, false, true, find, get_or, unwrap_or}
use Rattle.std.proofs.lemmas.List.{drop_all}
use Rattle.cnf_encode.specs.Decode.{listed_model}
use Rattle.cnf_encode.proofs.Decoding.{find-here, find-later, is_on, none-chosen, on-read}
use Rattle.cnf_encode.proofs.decode.chosen.Goals as goal

pub returns-then-is_true : goal.returns-then-is_true
returns-then-is_true c =
    let channels = c.channels_of-c-items.result.now in
    let s = get_or c.args.set.now c.args.i 0 in
    let p = is_on c.args.book.now c.args.set.now (listed_model c.args.model.now) s in
    let holds : p (get_or channels c.loop-j.j 0) ≡ true = sym (on-read c.args.book.now c.args.set.now channels c.args.offsets.now (listed_model c.args.model.now) c.args.i c.loop-j.j c.is_true.result c.channels_of-c-items.ensures.channels c.requires.ascending c.channels_of-c-items.ensures.ascending c.requires.offsets c.requires.in_set c.loop-j-test.true c.is_true.ensures) ∙ c.if-is_true.true in
    let found = sym (find-here p channels c.loop-j.j c.loop-j-test.true holds) ∙ c.loop-j.invariant in
    ap (λ o. unwrap_or o 0) found ∙ ap (λ xs. unwrap_or (find p xs) 0) c.channels_of-c-items.ensures.channels

pub loop-j-preserved : goal.loop-j-preserved
loop-j-preserved c =
    let channels = c.channels_of-c-items.result.now in
    let s = get_or c.args.set.now c.args.i 0 in
    let p = is_on c.args.book.now c.args.set.now (listed_model c.args.model.now) s in
    let fails : p (get_or channels c.loop-j.j 0) ≡ false = sym (on-read c.args.book.now c.args.set.now channels c.args.offsets.now (listed_model c.args.model.now) c.args.i c.loop-j.j c.is_true.result c.channels_of-c-items.ensures.channels c.requires.ascending c.channels_of-c-items.ensures.ascending c.requires.offsets c.requires.in_set c.loop-j-test.true c.is_true.ensures) ∙ c.if-is_true.false in
    sym (find-later p channels c.loop-j.j c.loop-j-test.true fails) ∙ c.loop-j.invariant

pub unreachable-requires : goal.unreachable-requires
unreachable-requires c =
    let channels = c.channels_of-c-items.result.now in
    let s = get_or c.args.set.now c.args.i 0 in
    let p = is_on c.args.book.now c.args.set.now (listed_model c.args.model.now) s in
    let none = sym c.loop-j.invariant ∙ ap (find p) (drop_all c.loop-j.j channels c.loop-j-test.false) in
    none-chosen c.args.book.now c.args.set.now channels (listed_model c.args.model.now) c.args.i s c.requires.model c.requires.in_set refl c.channels_of-c-items.ensures.channels none
