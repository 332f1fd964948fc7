use Rattle.std.proofs.Common.{◌≡◌, arith, refl, take}
use Rattle.std.proofs.lemmas.List.{take_all}
use Rattle.lrat_text.specs.Write.{dimacs_text}
use Rattle.lrat_text.proofs.write.write_dimacs.Goals as goal

pub returns : goal.returns
unfolding dimacs_text
returns c =
    let all : take c.clauses.i c.args.clauses.now.list ≡ c.args.clauses.now.list = take_all _ _ (omega (arith, c.clauses-test.false)) in
    rw (c.clauses.invariant, all) refl
