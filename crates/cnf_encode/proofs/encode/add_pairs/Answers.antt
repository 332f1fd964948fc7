use Rattle.std.proofs.Common.{◌∙◌, ◌++◌, ap, arith, take_all, flat_map}
use Rattle.cnf_encode.proofs.PairLemmas.{by-station, station_clauses, stations-more}
use Rattle.cnf_encode.proofs.encode.add_pairs.Goals as goal

pub loop-i-preserved : goal.loop-i-preserved
loop-i-preserved c = record {
  added = stations-more (station_clauses c.args.book.now c.args.set.now) _ _ _ c.args.set.now c.loop-i.i (omega arith) c.loop-i.invariant.added c.in_ok-add_pairs_from.ensures.added;
  same = c.in_ok-add_pairs_from.ensures.same ∙ c.loop-i.invariant.same;
}

pub returns-clause-added : goal.returns-clause-added
returns-clause-added c =
    let whole = take_all c.loop-i.i c.args.set.now c.loop-i-test.false in
    c.loop-i.invariant.added ∙ ap (λ xs. c.args.formula.now.list ++ flat_map (station_clauses c.args.book.now c.args.set.now) xs) whole
    ∙ ap (λ xs. c.args.formula.now.list ++ xs) (by-station c.args.book.now c.args.set.now c.requires.ascending c.requires.in_order.pairs)
