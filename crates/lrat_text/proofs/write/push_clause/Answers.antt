use Rattle.std.proofs.Common.{◌≡◌, arith, take}
use Rattle.std.proofs.lemmas.List.{take_all}
use Rattle.lrat_text.proofs.WriteLemmas.{clause-parts}
use Rattle.lrat_text.proofs.write.push_clause.Goals as goal

pub returns : goal.returns
returns c =
    let all : take c.loop-lit.lit-index c.args.clause.now ≡ c.args.clause.now = take_all _ _ (omega arith) in
    rw (c.in_ok-extend_from_slice-2.ensures.items, c.loop-lit.invariant, all) (clause-parts c.args.text.now.items c.args.clause.now)
