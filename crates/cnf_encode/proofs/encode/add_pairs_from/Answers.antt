use Rattle.std.proofs.Common.{◌≡◌, ◌∙◌, ◌++◌, ◌∷◌, [], ap, sym, subst, true, false, get_or}
use Rattle.std.specs.Result.{is_ok}
use Rattle.pack_defs.specs.declared.pair.Pair.{Pair}
use Rattle.pack_defs.specs.Book.{domain_of}
use Rattle.pack_defs.specs.Lists.{is_in}
use Rattle.pack_defs.proofs.Searches.{found-number, found-key}
use Rattle.cnf_encode.specs.Formula.{pair_clause}
use Rattle.cnf_encode.proofs.PairLemmas.{pair-channels, pair-station, pair-written, pairs-add, pairs-skip}
use Rattle.cnf_encode.proofs.encode.add_pairs_from.Goals as goal

none : Pair
none = record { f = 0; a = 0; g = 0; b = 0 }

pub loop-p-preserved-in_default : goal.loop-p-preserved-in_default
unfolding none
loop-p-preserved-in_default c =
    let set = c.args.set.now in
    let pairs = c.pairs_from-p-items.result.now in
    let p = get_or pairs c.loop-p.p-index none in
    let absent : is_in set p.g ≡ false = sym (found-number set p.g c.binary_search.result c.binary_search.ensures.bound c.binary_search.ensures.position c.requires.ascending) ∙ ap is_ok c.in_default.is in
    let more = pairs-skip (pair_clause c.args.book.now set) (λ q. is_in set q.g) c.loop-p.formula.list _ pairs c.loop-p.p-index none c.loop-p-test.true absent c.loop-p.invariant.added in
    record { added = more; same = c.loop-p.invariant.same }

pub variable_at-v-requires-clause-on_domain : goal.variable_at-v-requires-clause-on_domain
unfolding none
variable_at-v-requires-clause-on_domain c =
    let pairs = c.pairs_from-p-items.result.now in
    let p = get_or pairs c.loop-p.p-index none in
    let own = pair-station pairs c.args.book.now.pairs (get_or c.args.set.now c.args.i 0) c.loop-p.p-index none c.pairs_from-p-items.ensures c.loop-p-test.true in
    subst (λ s. is_in (domain_of c.args.book.now s) p.a ≡ true) own (pair-channels c.args.book.now pairs (get_or c.args.set.now c.args.i 0) c.loop-p.p-index none c.requires.in_order c.pairs_from-p-items.ensures c.loop-p-test.true).0

pub variable_at-w-requires-clause-on_domain : goal.variable_at-w-requires-clause-on_domain
unfolding none
variable_at-w-requires-clause-on_domain c =
    let pairs = c.pairs_from-p-items.result.now in
    let p = get_or pairs c.loop-p.p-index none in
    let found : get_or c.args.set.now c.in-Ok.j 0 ≡ p.g = found-key (λ y. y) c.args.set.now p.g c.in-Ok.j 0 c.in-Ok.ensures.position in
    subst (λ s. is_in (domain_of c.args.book.now s) p.b ≡ true) (sym found) (pair-channels c.args.book.now pairs (get_or c.args.set.now c.args.i 0) c.loop-p.p-index none c.requires.in_order c.pairs_from-p-items.ensures c.loop-p-test.true).1

pub loop-p-preserved : goal.loop-p-preserved
unfolding none
loop-p-preserved c =
    let book = c.args.book.now in
    let set = c.args.set.now in
    let pairs = c.pairs_from-p-items.result.now in
    let k = c.loop-p.p-index in
    let p = get_or pairs k none in
    let found : get_or set c.in-Ok.j 0 ≡ p.g = found-key (λ y. y) set p.g c.in-Ok.j 0 c.in-Ok.ensures.position in
    let present : is_in set p.g ≡ true = sym (found-number set p.g c.binary_search.result c.binary_search.ensures.bound c.binary_search.ensures.position c.requires.ascending) ∙ ap is_ok c.in-Ok.is in
    let own = pair-station pairs book.pairs (get_or set c.args.i 0) k none c.pairs_from-p-items.ensures c.loop-p-test.true in
    let written = c.not_both.ensures ∙ pair-written book set p (get_or set c.args.i 0) (get_or set c.in-Ok.j 0) c.variable_at-v.result c.variable_at-w.result own found c.variable_at-v.ensures c.variable_at-w.ensures in
    let new : c.add.new.self.list ≡ c.loop-p.formula.list ++ pair_clause book set p ∷ [] = ap (λ l. l.list) c.in_ok-add.ensures.added ∙ ap (λ clause. c.loop-p.formula.list ++ clause ∷ []) written in
    record {
      added = pairs-add (pair_clause book set) (λ q. is_in set q.g) _ c.loop-p.formula.list _ pairs k none c.loop-p-test.true present c.loop-p.invariant.added new;
      same = ap (λ l. l.vars) c.in_ok-add.ensures.added ∙ c.loop-p.invariant.same;
    }
