use Rattle.std.proofs.Common.{◌≡◌, ◌+◌, ◌∙◌, ap, sym, false, true, get_or, take_all, filter, length}
use Rattle.std.specs.Result.{is_ok}
use Rattle.std.specs.List.{count_by}
use Rattle.std.proofs.lemmas.List.Sums.{count_by_more_no, count_by_more_yes, length-filter}
use Rattle.pack_defs.specs.declared.pair.Pair.{Pair}
use Rattle.pack_defs.specs.Lists.{is_in}
use Rattle.pack_defs.proofs.Searches.{found-number}
use Rattle.cnf_encode.proofs.count.pairs_inside.Goals as goal

none : Pair
none = record { f = 0; a = 0; g = 0; b = 0 }

pub loop-p-preserved-in_default : goal.loop-p-preserved-in_default
unfolding none
loop-p-preserved-in_default c =
    let set = c.args.set.now in
    let pairs = c.pairs_from-p-items.result.now in
    let p = get_or pairs c.loop-p.p-index none in
    let absent : is_in set p.g ≡ false = sym (found-number set p.g c.binary_search.result c.binary_search.ensures.bound c.binary_search.ensures.position c.requires.ascending) ∙ ap is_ok c.in_default.is in
    c.loop-p.invariant ∙ sym (count_by_more_no (λ q. is_in set q.g) pairs c.loop-p.p-index none c.loop-p-test.true absent)

pub loop-p-preserved : goal.loop-p-preserved
unfolding none
loop-p-preserved c =
    let set = c.args.set.now in
    let pairs = c.pairs_from-p-items.result.now in
    let p = get_or pairs c.loop-p.p-index none in
    let present : is_in set p.g ≡ true = sym (found-number set p.g c.binary_search.result c.binary_search.ensures.bound c.binary_search.ensures.position c.requires.ascending) ∙ ap is_ok c.in-Ok.is in
    ap (λ n. n + 1) c.loop-p.invariant ∙ sym (count_by_more_yes (λ q. is_in set q.g) pairs c.loop-p.p-index none c.loop-p-test.true present)

pub returns : goal.returns
returns c =
    let set = c.args.set.now in
    let pairs = c.pairs_from-p-items.result.now in
    let whole = take_all c.loop-p.p-index pairs c.loop-p-test.false in
    c.loop-p.invariant ∙ ap (count_by (λ p. is_in set p.g)) whole ∙ sym (length-filter (λ p. is_in set p.g) pairs) ∙ ap (λ ps. length (filter (λ p. is_in set p.g) ps)) c.pairs_from-p-items.ensures
